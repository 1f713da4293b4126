-- The cases that document 01, "Quay cases", marks with a star: one table, one computed test, one law; and a worked plain sheet. Assumes
-- nothing.
use Rattle.std.specs.Prelude.{ℕ, ◌-◌, ◌/◌, ◌%◌, ◌≡◌, refl, Bool, true, false, not, ◌&&◌, ◌||◌, List, [], ◌∷◌, ◌++◌, map, length, replicate, eqb}
use Rattle.std.specs.Bool.{beq}
use Rattle.std.proofs.Math.Option.{Option, none, some}
use Rattle.spec.specs.Bytes.{Bytes, ascii, same}
use Rattle.spec.specs.Questions.{standard}
use Rattle.spec.specs.Fields.{fields}
use Rattle.spec.specs.Tree.{tree_of}
use Rattle.spec.specs.Call.{Answer, call, written}
use Rattle.spec.specs.Entries.{Piece, word, Entry, rule, heading, paragraph, fixed, item, table, same_entries}
use Rattle.spec.specs.ListNumber.{list_number}
use Rattle.spec.specs.Plain.{plain}
use Rattle.spec.specs.SheetList.{sheet_list}
use Rattle.spec.specs.Reading.{read}
use Rattle.spec.specs.Everything.{everything}
use Rattle.spec.specs.Md.Elements.List.{parse_list_number}

-- ---- sheets

unfoldable pub field : ℕ → Bytes → Bytes
field tag body = tag ∷ (length body / 256) ∷ (length body % 256) ∷ body

unfoldable pub text_field : Bytes → Bytes
text_field s = field 4 s

unfoldable pub with : Bytes → Bytes → Bytes → Bytes
with name value kids = field 2 name ++ (field 3 value ++ kids)

-- an element with the fields that stand in it
unfoldable pub el : Bytes → Bytes → Bytes
el name inside = field 1 name ++ (inside ++ field 6 [])

-- ---- the table

-- a sheet, its text from node 0 without it under the default list, and whether it is plain
pub record Case : Type 0 where
  pub sheet : Bytes
  pub text : Bytes
  pub is_plain : Bool

unfoldable pub case : Bytes → Bytes → Case
case sheet text = record { sheet = sheet; text = text; is_plain = true }

unfoldable pub not_plain : Bytes → Bytes → Case
not_plain sheet text = record { sheet = sheet; text = text; is_plain = false }

unfoldable pub cases : List Case
unfolding field text_field with el case not_plain
cases =
    case [] []
    ∷ case (el (ascii "p") (text_field (ascii "1. Fit"))) (ascii "1\\. Fit")
    ∷ case (el (ascii "p") (text_field (ascii "# 3"))) (ascii "\\# 3")
    ∷ case (el (ascii "h2") (text_field (ascii "Sector #"))) (ascii "## Sector \\#")
    ∷ case
    (el (ascii "ol")
    (with (ascii "start") (ascii "9") (el (ascii "li") (text_field (ascii "A")) ++ el (ascii "li") (text_field (ascii "B")))))
    (ascii "9. A\n10. B")
    ∷ case (el (ascii "ol") (with (ascii "start") (ascii "-4") (el (ascii "li") (text_field (ascii "A"))))) (ascii "0. A")
    ∷ case
    (el (ascii "table")
    (el (ascii "tr") (el (ascii "td") (text_field (ascii "010")) ++ el (ascii "td") (text_field (ascii "a|b")))))
    (ascii "|   |   |\n| - | - |\n| 010 | a\\|b |")
    ∷ not_plain (el (ascii "code") (text_field (ascii "`"))) (ascii "`` ` ``")
    ∷ case (el (ascii "pre") (text_field (ascii "``` x"))) (ascii "````\n``` x\n````")
    ∷ not_plain (el (ascii "b") (text_field (ascii "A")) ++ el (ascii "b") (text_field (ascii "B"))) (ascii "**AB**")
    ∷ case
    (el (ascii "ul")
    (el (ascii "li")
    (text_field (ascii "A")
    ++ el (ascii "ol") (with (ascii "start") (ascii "3") (el (ascii "li") (text_field (ascii "B")))))))
    (ascii "- A\n\n    3. B")
    ∷ []

pub record NumberCase : Type 0 where
  pub value : Bytes
  pub number : Option ℕ

unfoldable pub number_case : Bytes → Option ℕ → NumberCase
number_case value number = record { value = value; number = number }

unfoldable pub number_cases : List NumberCase
unfolding number_case
number_cases =
    number_case (ascii " +007") (some 7)
    ∷ number_case (ascii "999999999") (some 999999999)
    ∷ number_case (ascii "1000000000") (some 999999999)
    ∷ number_case (ascii "-") none
    ∷ []

-- ---- the test

-- the call accepts and leaves just the text, zeros behind it, and a node memory of zeros
unfoldable pub answers : Bytes → ℕ → ℕ → Answer → Bool
answers text nodeMemory textMemory a =
    (eqb a.number 0 && eqb a.length (length text))
    && (same a.nodes (replicate nodeMemory 0) && same a.text (text ++ replicate (textMemory - length text) 0))

-- with memories that hold something else before
unfoldable pub writes : Case → Bool
writes c = answers c.text 512 64 (call c.sheet standard 0 false (replicate 512 0xA5) (replicate 64 0x5A))

-- a plain sheet's text is read as its list
unfoldable pub reads_back : Case → Bool
reads_back c =
    let tree = tree_of (fields c.sheet) in
    beq (plain tree) c.is_plain && (not c.is_plain || same_entries (read c.text) (sheet_list tree))

unfoldable pub case_holds : Case → Bool
case_holds c = writes c && reads_back c

unfoldable pub same_number : Option ℕ → Option ℕ → Bool
same_number none none = true
same_number none (some n) = false
same_number (some m) none = false
same_number (some m) (some n) = eqb m n

unfoldable pub every_case : List Case → Bool
every_case [] = true
every_case (c ∷ cs) = case_holds c && every_case cs

unfoldable pub every_number : List NumberCase → Bool
every_number [] = true
every_number (c ∷ cs) =
    (same_number (parse_list_number c.value) c.number && same_number (list_number c.value) c.number) && every_number cs

pub starred : (every_case cases && every_number number_cases) ≡ true
unfolding everything field text_field with el case not_plain cases number_case number_cases answers writes reads_back case_holds same_number every_case every_number
starred = refl

-- ---- one plain sheet with every kind of block

unfoldable pub leaf : Bytes → Bytes → Bytes
leaf name s = el name (text_field s)

unfoldable pub worked : Bytes
unfolding field text_field with el leaf
worked =
    leaf (ascii "h1") (ascii "Radar #")
    ++ (leaf (ascii "p") (ascii "1. Range *3* nm")
    ++ (el (ascii "hr") []
    ++ (el (ascii "ul")
    (leaf (ascii "li") (ascii "A")
    ++ el (ascii "li")
    (text_field (ascii "B")
    ++ (el (ascii "ol")
    (with (ascii "start") (ascii "9")
    (leaf (ascii "li") (ascii "C") ++ el (ascii "li") (with (ascii "value") (ascii "12") (text_field (ascii "D")))))
    ++ el (ascii "ul") (leaf (ascii "li") (ascii "- E")))))
    ++ (el (ascii "table")
    (el (ascii "thead") (el (ascii "tr") (leaf (ascii "th") (ascii "Sector") ++ leaf (ascii "th") (ascii "a|b")))
    ++ el (ascii "tbody") (el (ascii "tr") (leaf (ascii "td") (ascii "010") ++ leaf (ascii "td") (ascii "#"))))
    ++ (el (ascii "div")
    (el (ascii "table") (el (ascii "tr") (leaf (ascii "td") (ascii "x"))) ++ leaf (ascii "pre") (ascii "``` x"))
    ++ el (ascii "section") (leaf (ascii "h6") (ascii "Mast")))))))

unfoldable pub worked_text : Bytes
worked_text =
    ascii "# Radar \\#\n\n1\\. Range \\*3\\* nm\n\n---\n\n- A\n- B\n\n    9. C\n    12. D\n\n    - \\- E\n\n\n"
    ++ (ascii "| Sector | a\\|b |\n| ------ | ---- |\n| 010 | \\# |\n\n\n|   |\n| - |\n| x |\n\n"
    ++ ascii "````\n``` x\n````\n\n###### Mast")

unfoldable pub said : List Bytes → List Piece
said ws = map word ws

unfoldable pub worked_list : List Entry
unfolding said
worked_list =
    heading 1 (said (ascii "Radar" ∷ ascii "#" ∷ []))
    ∷ paragraph (said (ascii "1." ∷ ascii "Range" ∷ ascii "*3*" ∷ ascii "nm" ∷ []))
    ∷ rule
    ∷ item 1 none (said (ascii "A" ∷ []))
    ∷ item 1 none (said (ascii "B" ∷ []))
    ∷ item 2 (some 9) (said (ascii "C" ∷ []))
    ∷ item 2 (some 12) (said (ascii "D" ∷ []))
    ∷ item 2 none (said (ascii "-" ∷ ascii "E" ∷ []))
    ∷ table (some (said (ascii "Sector" ∷ []) ∷ said (ascii "a|b" ∷ []) ∷ []))
    ((said (ascii "010" ∷ []) ∷ said (ascii "#" ∷ []) ∷ []) ∷ [])
    ∷ table none ((said (ascii "x" ∷ []) ∷ []) ∷ [])
    ∷ fixed (ascii "``` x\n")
    ∷ heading 6 (said (ascii "Mast" ∷ []))
    ∷ []

pub worked_plain : plain (tree_of (fields worked)) ≡ true
unfolding everything worked
worked_plain = refl

pub worked_text_lem : (written worked standard 0 false).text ≡ worked_text
unfolding everything worked worked_text
worked_text_lem = refl

pub worked_list_lem : sheet_list (tree_of (fields worked)) ≡ worked_list
unfolding everything worked worked_list
worked_list_lem = refl

pub worked_read : read worked_text ≡ worked_list
unfolding everything worked_text worked_list
worked_read = refl
