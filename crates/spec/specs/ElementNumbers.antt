-- The element names as values, and their numbers.
use Rattle.std.specs.Prelude.{ℕ, ◌<◌, ◌≡◌, Result, MatchResult}
use Rattle.spec.specs.declared.element.Name.{Name}
use Rattle.spec.specs.declared.element.Name.TheVariants.{Other, Article, Section, Div, P, H1, H2, H3, H4, H5, H6, Ul, Ol, Dl, Table, Hr, Li, Tr, Th, Td, Br, A, Img, Pre, Code, Strong, B, Em, I, Thead, Tbody}
use Rattle.spec.specs.declared.element.UnknownNumber.{UnknownNumber}

-- the number of a name, as `tag_of` counts them
abbrev pub element_number : Name → ℕ
element_number Other = 0
element_number Article = 1
element_number Section = 2
element_number Div = 3
element_number P = 4
element_number H1 = 5
element_number H2 = 6
element_number H3 = 7
element_number H4 = 8
element_number H5 = 9
element_number H6 = 10
element_number Ul = 11
element_number Ol = 12
element_number Dl = 13
element_number Table = 14
element_number Hr = 15
element_number Li = 16
element_number Tr = 17
element_number Th = 18
element_number Td = 19
element_number Br = 20
element_number A = 21
element_number Img = 22
element_number Pre = 23
element_number Code = 24
element_number Strong = 25
element_number B = 26
element_number Em = 27
element_number I = 28
element_number Thead = 29
element_number Tbody = 30

-- r is the name with the number n, or says that no name has it
abbrev pub Numbers : ℕ → Result Name UnknownNumber → Type 0
Numbers n r = MatchResult r (λ name. element_number name ≡ n) (λ e. (e.0 ≡ n) × (30 < n))
