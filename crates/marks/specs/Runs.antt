-- The longest run of backticks, found part by part.
use Rattle.std.specs.Prelude.{ℕ, ◌+◌, ◌≤◌, max, ◌≡◌, ◌++◌, length}
use Rattle.spec.specs.Bytes.{Bytes}
use Rattle.spec.specs.Md.Elements.Code.{longest_run}
use Rattle.marks.specs.declared.code.Runs.{Runs}

-- the longest run where s follows
abbrev pub longest_with : Runs → Bytes → ℕ
longest_with r s = max r.best (longest_run r.run s)

-- behind s the longest run is found from r, as it is found from `before` in s with what follows
pub record RunsBehind (before : Runs) (s : Bytes) (r : Runs) : Type 0 where
  pub goes : (rest : Bytes) → longest_with before (s ++ rest) ≡ longest_with r rest
  pub small : r.run ≤ before.run + length s
