-- List numbers, by the HTML Standard's rules for parsing integers as document 01 states them.
use Rattle.std.specs.Prelude.{ℕ, suc, min, cond, List, [], ◌∷◌, eqb}
use Rattle.std.proofs.Math.Option.{Option, none, some}
use Rattle.spec.specs.Bytes.{Bytes, ascii, digit, trim_ascii_start, take_while, value_from}
use Rattle.spec.specs.Names as tag
use Rattle.spec.specs.Tree.{Attr, attr}

unfoldable pub largest_number : ℕ
largest_number = 999999999

-- ---- the rules for parsing integers. `none` is the Standard's error

-- "If position is past the end of input, return an error." "If the character indicated by position is not an ASCII digit, then
-- return an error." "Collect a sequence of code points that are ASCII digits from input given position, and interpret the
-- resulting sequence as a base-ten integer." What follows the digits is not looked at
unfoldable pub digits_value : Bytes → Option ℕ
digits_value [] = none
digits_value (b ∷ s) = cond (digit b) (some (value_from 0 (take_while digit (b ∷ s)))) none

-- document 01: "Over nine digits after leading zeros: 999,999,999.", which are the numbers above it
unfoldable pub positive : Option ℕ → Option ℕ
positive none = none
positive (some n) = some (min n largest_number)

-- document 01: "Minus with digits: 0."
unfoldable pub negative : Option ℕ → Option ℕ
negative none = none
negative (some n) = some 0

-- "If the character indicated by position (the first character) is a U+002D HYPHEN-MINUS character (-)", the sign is negative
-- and the position goes on by one; "Otherwise, if the character indicated by position (the first character) is a U+002B PLUS
-- SIGN character (+)", the position goes on by one
unfoldable pub signed_value : Bytes → Option ℕ
signed_value [] = none
signed_value (b ∷ s) =
    cond (eqb b 45) (negative (digits_value s)) (cond (eqb b 43) (positive (digits_value s)) (positive (digits_value (b ∷ s))))

-- "Skip ASCII whitespace within input given position." Document 01: "List number (HTML Standard, integers): white bytes, one
-- optional sign, digits. No digit: none."
unfoldable pub list_number : Bytes → Option ℕ
list_number value = signed_value (trim_ascii_start value)

-- ---- the numbers of a list's items. Document 01: "Items of a `ul` have no number. An item of an `ol` has its `value` as a
-- list number; without one, the number before it plus 1, and the first its list's `start` as one, or else 1."

-- an attribute's value as a list number
unfoldable pub as_number : Option Bytes → Option ℕ
as_number none = none
as_number (some value) = list_number value

unfoldable pub or_else : Option ℕ → ℕ → ℕ
or_else none n = n
or_else (some m) n = m

-- the number due to an item is the one that it has without a `value`; in a `ul` there is none. To the first item of a list:
unfoldable pub first_due : ℕ → List Attr → Option ℕ
first_due name attrs = cond (eqb name tag.ol) (some (or_else (as_number (attr (ascii "start") attrs)) 1)) none

-- an item's `value` as a list number
unfoldable pub item_value : List Attr → Option ℕ
item_value attrs = as_number (attr (ascii "value") attrs)

-- the number of an item to which `due` is due
unfoldable pub item_number : Option ℕ → List Attr → Option ℕ
item_number none attrs = none
item_number (some n) attrs = some (or_else (item_value attrs) n)

-- what is due behind an item with that number
unfoldable pub next_due : Option ℕ → Option ℕ
next_due none = none
next_due (some n) = some (suc n)
