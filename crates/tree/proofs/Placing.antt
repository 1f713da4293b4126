-- Storing a record, and a field by its kind.
use Prim.Native.Nat.{ℕ, ◌+◌, ◌*◌}
use native.Mathlib.Omega.{arith}
use mathlib.Core.Path.{◌∙◌}
use Rattle.spec.specs.Bytes.{Bytes}
use Rattle.tree.specs.Memory.{word_at, quad_at, Stored}
use Rattle.tree.specs.Kinds.{Placed}
use Rattle.tree.proofs.Numbers.{word_same, quad_same}

pub placed : (i entry end parent : ℕ) {a b c d : Bytes} → Stored quad_at 4 (i * 24) entry a b → Stored word_at 2 (i * 24 + 4) end b c
    → Stored word_at 2 (i * 24 + 6) parent c d → Placed i entry end parent a d
placed i entry end parent {a} {b} {c} {d} p q r =
    record {
      same_long = r.same_long ∙ (q.same_long ∙ p.same_long);
      entry_is = quad_same c d (i * 24) (λ j l h. r.before j (omega arith)) ∙ (quad_same b c (i * 24) (λ j l h. q.before j (omega arith)) ∙ p.value);
      end_is = word_same c d (i * 24 + 4) (λ j l h. r.before j (omega arith)) ∙ q.value;
      parent_is = r.value;
      before = λ j l. r.before j (omega arith) ∙ (q.before j (omega arith) ∙ p.before j l);
      behind = λ j l. r.behind j (omega arith) ∙ (q.behind j (omega arith) ∙ p.behind j (omega arith));
    }
