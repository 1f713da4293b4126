use Rattle.tree.proofs.Numbers.{stored_word, stored_quad}
use Rattle.tree.proofs.Placing.{placed}
use Rattle.tree.proofs.store.store_record.Goals as goal

pub returns : goal.returns
returns c =
    let a = c.args in
    placed a.i a.entry a.end a.parent (stored_quad c.store.ensures) (stored_word c.store-2.ensures)
    (stored_word c.store-3.ensures)
