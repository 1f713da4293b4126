-- The cells of a line: texts, or hyphens under them.
use Rattle.std.specs.Prelude.{ℕ, max, Bool, cond, List, take, replicate}
use Rattle.spec.specs.Bytes.{Bytes}
use Rattle.tables.specs.Spans.{cuts, unders}

-- the hyphens under a text of n bytes, or that text, which s begins with
abbrev pub column : Bool → ℕ → Bytes → Bytes
column under n s = cond under (replicate (max n 1) 45) (take n s)

-- the column of each text, where the texts have these lengths and stand one behind the other in s
abbrev pub columns : Bool → List ℕ → Bytes → List Bytes
columns under l s = cond under (unders l) (cuts l s)
