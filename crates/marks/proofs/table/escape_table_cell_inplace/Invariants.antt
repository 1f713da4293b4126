use Rattle.std.proofs.Common.{◌≡◌, ◌+◌}
use Rattle.marks.proofs.Pipes.{Escaping}
use Rattle.marks.proofs.table.escape_table_cell_inplace.Given as goal

abbrev pub invariant-loop-i : goal.invariant-loop-i
invariant-loop-i l = record {
  room_is : l.text.room.ghost_name ≡ l.fn.text.room.ghost_name;
  len_is : l.text.len ≡ l.fn.text.len;
  escaping : Escaping l.fn.text.room.now l.text.room.now l.fn.text.len (l.fn.text.len + l.extra) l.i l.at;
}
