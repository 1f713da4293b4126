use Prim.Native.Nat.{ℕ, ◌+◌, ◌-◌, ◌*◌, ◌≤◌}
use mathlib.Core.List.{List}
use mathlib.Core.Path.{◌≡◌, refl, sym, ◌∙◌}
use lib.ListN.{length, take, drop}
use lib.Seq.{length-take-le}
use borrow.Author.Tests.{leb-true, leb-false}
use Rattle.spec.specs.Bytes.{Bytes}
use Rattle.tables.specs.Spans.{cell_lengths, table_lengths, filled, width, marks}
use Rattle.tables.specs.TableSteps.{table_sized}
use Rattle.text.proofs.Texts.{as_full}
use Rattle.tables.proofs.Putting.{part_length, puts_long}
use Rattle.tables.proofs.Cutting.{marks_few, width_few}
use Rattle.tables.proofs.Gathering.{zeros_few}
use Rattle.tables.proofs.Tables.{sized_full, sized_done}
use native.Mathlib.Omega.{arith}
use Rattle.tables.proofs.table.push_sized.Goals as goal

pub overflow_mul-more-2 : goal.overflow_mul-more-2
overflow_mul-more-2 c =
    let a = c.args in
    let rows = table_lengths a.tree.now.sheet.now a.tree.now.nodes.now a.from a.to in
    omega
    (arith, c.lines_marks-extra.ensures, c.saturating_sub-blanks.ensures, c.first_width-wide.ensures, marks_few rows, width_few rows, zeros_few (cell_lengths a.tree.now.sheet.now a.tree.now.nodes.now a.row (a.row + 1) a.end), c.requires.2, c.requires.4, c.requires.7)

pub overflow_add-more-2 : goal.overflow_add-more-2
overflow_add-more-2 c =
    let a = c.args in
    let rows = table_lengths a.tree.now.sheet.now a.tree.now.nodes.now a.from a.to in
    omega
    (arith, c.lines_marks-extra.ensures, c.saturating_sub-blanks.ensures, c.first_width-wide.ensures, marks_few rows, width_few rows, zeros_few (cell_lengths a.tree.now.sheet.now a.tree.now.nodes.now a.row (a.row + 1) a.end), c.requires.2, c.requires.4, c.requires.7)

pub overflow_add-more-3 : goal.overflow_add-more-3
overflow_add-more-3 c =
    let a = c.args in
    let rows = table_lengths a.tree.now.sheet.now a.tree.now.nodes.now a.from a.to in
    omega
    (arith, c.lines_marks-extra.ensures, c.saturating_sub-blanks.ensures, c.first_width-wide.ensures, marks_few rows, width_few rows, zeros_few (cell_lengths a.tree.now.sheet.now a.tree.now.nodes.now a.row (a.row + 1) a.end), c.requires.2, c.requires.4, c.requires.7)

pub overflow_add-more-4 : goal.overflow_add-more-4
overflow_add-more-4 c =
    let a = c.args in
    let rows = table_lengths a.tree.now.sheet.now a.tree.now.nodes.now a.from a.to in
    omega
    (arith, c.lines_marks-extra.ensures, c.saturating_sub-blanks.ensures, c.first_width-wide.ensures, marks_few rows, width_few rows, zeros_few (cell_lengths a.tree.now.sheet.now a.tree.now.nodes.now a.row (a.row + 1) a.end), c.requires.2, c.requires.4, c.requires.7)

pub returns-then-not-has_room : goal.returns-then-not-has_room
returns-then-not-has_room c =
    let a = c.args in
    let lens : List ℕ = cell_lengths a.tree.now.sheet.now a.tree.now.nodes.now a.row (a.row + 1) a.end in
    let rows : List (List ℕ) = filled (table_lengths a.tree.now.sheet.now a.tree.now.nodes.now a.from a.to) in
    let s : Bytes = take a.n (drop a.text.now.len a.text.now.room.now) in
    let m = part_length a.text.now.room.now a.text.now.len a.n c.requires.5 in
    let wide : c.first_width-wide.result ≡ width rows = c.first_width-wide.ensures in
    let more : c.lines_marks-extra.result ≡ marks rows = c.lines_marks-extra.ensures in
    as_full {f = table_sized lens rows s} refl refl (sized_full lens rows s (omega (arith, m, c.requires.3, c.requires.6)) (length a.text.now.room.now) (take a.text.now.len a.text.now.room.now)
    (omega
    (arith, leb-false ((let a = c.args in a.n + a.size.bytes + (5 + 6 * a.size.cells + 9 * c.saturating_sub-blanks.result + a.size.empty + c.lines_marks-extra.result))) ((let a = c.args in length a.text.now.room.now - a.text.now.len - a.n)) (sym c.has_room.ensures ∙ c.if-not-has_room.true), c.saturating_sub-blanks.ensures, m, length-take-le a.text.now.len a.text.now.room.now (omega (arith, c.requires.5)), c.requires.2, c.requires.3, c.requires.4, c.requires.5, c.requires.6)))

pub returns : goal.returns
returns c =
    let a = c.args in
    let lens : List ℕ = cell_lengths a.tree.now.sheet.now a.tree.now.nodes.now a.row (a.row + 1) a.end in
    let rows : List (List ℕ) = filled (table_lengths a.tree.now.sheet.now a.tree.now.nodes.now a.from a.to) in
    let s : Bytes = take a.n (drop a.text.now.len a.text.now.room.now) in
    let m = part_length a.text.now.room.now a.text.now.len a.n c.requires.5 in
    let wide : c.first_width-wide.result ≡ width rows = c.first_width-wide.ensures in
    let more : c.lines_marks-extra.result ≡ marks rows = c.lines_marks-extra.ensures in
    let w = sized_done lens rows s (omega (arith, m, c.requires.3, c.requires.6)) a.text.now.room.now _ a.text.now.len a.n _
    (omega (arith, (let it : c.args.text.now.len + c.args.n + c.args.n + c.args.size.bytes + (5 + 6 * c.args.size.cells + 9 * c.saturating_sub-blanks.result + c.args.size.empty + c.lines_marks-extra.result) ≤ length c.args.text.now.room.now = omega (arith, leb-true ((let a = c.args in a.n + a.size.bytes + (5 + 6 * a.size.cells + 9 * c.saturating_sub-blanks.result + a.size.empty + c.lines_marks-extra.result))) ((let a = c.args in length a.text.now.room.now - a.text.now.len - a.n)) (sym c.has_room.ensures ∙ c.if-not-has_room.false), c.requires.5) in it), c.saturating_sub-blanks.ensures, c.requires.2, c.requires.3, c.requires.4, c.requires.6)) (sym m) refl c.lift.ensures refl c.put_table.ensures.puts c.push_byte.ensures.writes in
    record { room_is = c.push_byte.ensures.room_is ∙ c.put_table.ensures.room_is; long = c.push_byte.ensures.long ∙ puts_long c.put_table.ensures ∙ c.lift.ensures.long; writes = w }
