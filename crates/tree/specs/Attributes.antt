-- What is asked of an element's attributes, and the answer as a part of the sheet.
use Rattle.std.specs.Prelude.{ℕ, ◌-◌, ◌≤◌, ◌≡◌, Bool, cond, ◌||◌, List, [], ◌∷◌, length, take, drop, Option as Answer, Some, None}
use Rattle.std.specs.Borrow.{Bor}
use Rattle.std.proofs.Math.Option.{Option, none, some}
use Rattle.spec.specs.Bytes.{Bytes, ascii, same, isin}
use Rattle.spec.specs.Tree.{Attr}

-- no attribute stands from a field with this tag on: it begins a node, or closes one
abbrev pub ends_attrs : ℕ → Bool
ends_attrs tag = isin tag (1 ∷ 4 ∷ 5 ∷ 6 ∷ [])

-- the value of the first attribute that has one of two names
unfoldable pub either_attr : Bytes → Bytes → List Attr → Option Bytes
either_attr a b [] = none
either_attr a b (x ∷ more) = cond (same a x.name || same b x.name) (some x.value) (either_attr a b more)

-- the value that `find_code_lang_attribute` takes
abbrev pub language_attr : List Attr → Option Bytes
language_attr attrs = either_attr (ascii "data-lang") (ascii "data-language") attrs

-- x stands in the sheet, from a up to b
abbrev pub PartOf : Bytes → Bytes → Type 0
PartOf sh x = (a b : ℕ) × (a ≤ b) × (b ≤ length sh) × (x ≡ take (b - a) (drop a sh))

-- what a slice in an answer stands for is a part of the sheet
abbrev pub InSheet : Bytes → Answer (Bor Bytes) → Type 0
InSheet sh (Some x) = PartOf sh x.now
InSheet sh None = Unit {0}

abbrev pub value_in : Answer (Bor Bytes) → Option Bytes
value_in (Some x) = some x.now
value_in None = none

-- r is the value, a part of the sheet, or says that there is none
pub record Valued (sh : Bytes) (r : Answer (Bor Bytes)) (v : Option Bytes) : Type 0 where
  pub inside : InSheet sh r
  pub value_is : v ≡ value_in r
