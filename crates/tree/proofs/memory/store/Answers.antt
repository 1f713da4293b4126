use mathlib.Core.Path.{◌∙◌, ap}
use lib.ListN.{take}
use Rattle.tree.proofs.Numbers.{stored_is}
use Rattle.tree.proofs.memory.store.Goals as goal

pub returns : goal.returns
returns g c =
    let n = g.row.N in
    stored_is n c.args.j c.args.v c.args.ns.now _ c.requires.0 c.requires.1 c.ranges.v.fits c.requires.2
    (c.copy_from_slice.ensures.after ∙ ap (take n) c.to_le_bytes.ensures)
