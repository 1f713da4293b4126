use Rattle.tables.proofs.RowTests.{data_behind, data_here}
use Rattle.tables.proofs.rows.data_from.Goals as goal

pub returns-then-all_th : goal.returns-then-all_th
returns-then-all_th c = λ to rows x l. data_behind c.all_th.ensures rows x l c.if-all_th.true

pub returns-else-all_th : goal.returns-else-all_th
returns-else-all_th c = λ to rows x l. data_here c.all_th.ensures rows x l c.if-all_th.false
