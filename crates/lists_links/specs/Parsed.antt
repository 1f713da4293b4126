-- The parts of a list number.
use Rattle.std.specs.Prelude.{ℕ, cond, ◌||◌, eqb, drop}
use Rattle.std.proofs.Math.Option.{Option, none, some}
use Rattle.spec.specs.Bytes.{Bytes, ascii, null, starts_with, digit, take_while, trim_start_matches}
use Rattle.spec.specs.Md.Elements.List.{clamped}
use Rattle.std.specs.Prelude.{Option as Answer, Some, None}

abbrev pub parsed_of : Option ℕ → Answer ℕ
parsed_of none = None
parsed_of (some n) = Some n

-- s without the sign that begins it
abbrev pub unsigned : Bytes → Bytes
unsigned s = cond (starts_with (ascii "-") s || starts_with (ascii "+") s) (drop 1 s) s

-- the number of a value that no white byte begins
abbrev pub signed : Bytes → Option ℕ
signed s =
    let digits = take_while digit (unsigned s) in
    cond (null digits) none
    (some (cond (starts_with (ascii "-") s) 0 (clamped (trim_start_matches (λ b. eqb b 48) digits))))
