-- What the sets of bytes of `class` hold that have no name in `spec`.
use Rattle.std.specs.Prelude.{ℕ, Bool, not, ◌&&◌, eqb}
use Rattle.spec.specs.Bytes.{isin, white}
use Rattle.spec.specs.Md.Constants.{ALWAYS_ESCAPED}

-- behind the beginning of a line only these stand in a text as they are, whatever follows: `!` is escaped before `[`
abbrev pub ordinary : ℕ → Bool
ordinary b = not (white b) && (not (isin b ALWAYS_ESCAPED) && not (eqb b 33))
