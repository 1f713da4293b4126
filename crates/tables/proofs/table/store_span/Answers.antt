use Rattle.tree.proofs.Numbers.{stored_long}
use Rattle.tables.proofs.Scratch.{span_stored}
use Rattle.tables.proofs.table.store_span.Goals as goal

pub returns : goal.returns
returns c =
    span_stored c.args.c c.args.start c.args.n (stored_long c.store.ensures) (stored_long c.store-2.ensures)
