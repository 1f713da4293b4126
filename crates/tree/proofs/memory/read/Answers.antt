use mathlib.Core.Path.{◌∙◌, sym, subst}
use Prim.Native.Nat.{ℕ, ◌<◌, ◌^◌}
use Rattle.tree.proofs.Numbers.{read_is, read_low}
use Rattle.tree.proofs.memory.read.Goals as goal

pub returns : goal.returns
returns g c =
    let n = g.row.N in let ns = c.args.ns.now in let j = c.args.j in
    let e = c.from_le_bytes.ensures ∙ read_is n j ns _ c.requires.0 c.requires.1 c.copy_from_slice.ensures.after in
    (e, subst (λ (k : ℕ). k < 256 ^ n) (sym e) (read_low n j ns (λ k. (c.type_inv.ns k).fits)))
