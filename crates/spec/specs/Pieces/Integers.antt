-- The rules for parsing integers (HTML Standard, section 2.3.4.1).
use Rattle.std.specs.Prelude.{ℕ, min, cond, [], ◌∷◌, eqb}
use Rattle.std.proofs.Math.Option.{Option, none, some}
use Rattle.spec.specs.Bytes.{Bytes, trim_ascii_start}
use Rattle.spec.specs.ListNumber.{largest_number, digits_value}

-- HTML: "If sign is "positive", return value, otherwise return the result of subtracting value from zero."
pub data Integer : Type 0 where
  plus minus : ℕ → Integer

unfoldable pub signed : (ℕ → Integer) → Option ℕ → Option Integer
signed sign none = none
signed sign (some n) = some (sign n)

-- HTML: "If the character indicated by position (the first character) is a U+002D HYPHEN-MINUS character (-)", the sign is negative;
-- "Otherwise, if the character indicated by position (the first character) is a U+002B PLUS SIGN character (+)", the position goes on
-- by one. `none` is the Standard's error
unfoldable pub behind_white : Bytes → Option Integer
behind_white [] = none
behind_white (b ∷ s) =
    cond (eqb b 45) (signed minus (digits_value s))
    (cond (eqb b 43) (signed plus (digits_value s)) (signed plus (digits_value (b ∷ s))))

-- HTML: "Skip ASCII whitespace within input given position."
unfoldable pub integer : Bytes → Option Integer
integer input = behind_white (trim_ascii_start input)

-- document 01: "Over nine digits after leading zeros: 999,999,999." "Minus with digits: 0."
unfoldable pub as_list_number : Integer → ℕ
as_list_number (plus n) = min n largest_number
as_list_number (minus n) = 0
