-- List numbers against the HTML Standard's integers.
use Rattle.std.specs.Prelude.{ℕ, ◌≡◌, refl, Bool, true, false, cond, ◌↔◌, [], ◌∷◌, eqb}
use Rattle.std.proofs.Common.{◌∙◌}
use Rattle.std.proofs.Math.Option.{Option, none, some, map, map-eq-none_iff}
use Rattle.spec.specs.Bytes.{Bytes, trim_ascii_start}
use Rattle.spec.specs.ListNumber.{digits_value, positive, negative, signed_value, list_number}
use Rattle.spec.specs.Pieces.Integers.{plus, minus, signed, behind_white, integer, as_list_number}
use Rattle.spec.specs.Md.Elements.List.{parse_list_number}
use Rattle.recovery.proofs.Numbers.{list_number_lem}

plus_number : (n : Option ℕ) → positive n ≡ map as_list_number (signed plus n)
unfolding positive signed as_list_number
plus_number none = refl
plus_number (some n) = refl

minus_number : (n : Option ℕ) → negative n ≡ map as_list_number (signed minus n)
unfolding negative signed as_list_number
minus_number none = refl
minus_number (some n) = refl

signed_number : (s : Bytes) → signed_value s ≡ map as_list_number (behind_white s)
unfolding signed_value behind_white
signed_number [] = refl
signed_number (b ∷ s) = go (eqb b 45) (eqb b 43)
  where
    go : (t u : Bool)
        → cond t (negative (digits_value s)) (cond u (positive (digits_value s)) (positive (digits_value (b ∷ s))))
        ≡ map as_list_number
        (cond t (signed minus (digits_value s)) (cond u (signed plus (digits_value s)) (signed plus (digits_value (b ∷ s)))))
    go true u = minus_number (digits_value s)
    go false true = plus_number (digits_value s)
    go false false = plus_number (digits_value (b ∷ s))

-- `parse_list_number` gives the Standard's integer, but 0 for one below zero and 999,999,999 for one above that
pub parsed_integer : (value : Bytes) → parse_list_number value ≡ map as_list_number (integer value)
unfolding list_number integer
parsed_integer value = list_number_lem value ∙ signed_number (trim_ascii_start value)

-- and none exactly where the rules give an error
pub no_number : (value : Bytes) → (parse_list_number value ≡ none) ↔ (integer value ≡ none)
no_number value = rw (parsed_integer value) (map-eq-none_iff as_list_number (integer value))
