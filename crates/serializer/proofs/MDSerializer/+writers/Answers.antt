use Prim.Native.Nat.{ℕ, ◌+◌, ◌-◌, ◌<◌}
use Rattle.elements.proofs.Languages.{around_it}
use Rattle.elements.proofs.Links.{link_is}
use Rattle.elements.proofs.Nesting.{back_text}
use Rattle.elements.specs.EmphasisStep.{emphasis_step}
use Rattle.elements.specs.ItemStep.{ended_list}
use Rattle.elements.specs.LinkStep.{link_step, text_link_step}
use Rattle.input.specs.Scans.{skip_of}
use Rattle.lists_links.specs.Items.{item_of, ended_item}
use Rattle.nodes.proofs.Interrupts.{element_kids, element_name}
use Rattle.nodes.specs.Stands.{Placeds}
use Rattle.tree.specs.NodeFields.{attrs_of}
use Rattle.tree.proofs.NodeFields.{of_node, tag_of_node}
use Rattle.serializer.proofs.Rooms.{room_same, leaf_room, room_on, room_behind, wrote_err, gone_err, going_ok, going_err}
use Rattle.serializer.proofs.Answers.{stops_element, stops_forest, stops_row, stops_rows, both-full, nest-done, nest-full, nest-fits, below-wrote, both-done, both-on, emphasis_below}
use Rattle.serializer.proofs.Dispatch.{by_list, by_link, by_table, by_emphasis, element_as, emphasis_as}
use Rattle.serializer.proofs.Falls.{falls_in, falls_out}
use Rattle.serializer.proofs.Gathered.{behind_count, behind_bytes}
use Rattle.serializer.proofs.Goings.{stops_forest as stops_going, went, went_full, going_first, going_on, going_stop, going_last}
use Rattle.serializer.proofs.ItemBlocks.{block_rule, block_led, fits_alike, body_pre, flow_none, flow_full, flow_done, node_range, indented_fits, indented_done, indented_full, inline_none, inline_done, led_none, led_full, led_done}
use Rattle.serializer.proofs.ItemChild.{block_tag_lem, alone_none, alone_inline, alone_block, child_comment, child_skipped, child_wrapper, child_alone, wrapper_kids, kids_fall, child_falls, goes_before}
use Rattle.serializer.proofs.Levels.{write_some, write_none, nodes_first, nodes_none}
use Rattle.serializer.proofs.LinkTo.{shown_text, to_image, to_body, to_text, text_grown, shown_null, null_none, null_more, link_some, link_none, shown_below, no_image_below}
use Rattle.serializer.proofs.Lists.{fits_blocks, falls_children, blocks_parts, fits_item, item_parts, head_other, item_placed, head_item, fits_child, fits_behind, list_none, list_first, fits_begun, list_parts}
use Rattle.serializer.proofs.NodeSteps.{inside_writer, inside_plain, some_one, kids_is, one_is, alone_element, node_text, element_skipped, writer_wanted, node_goes, opened_as}
use Rattle.serializer.proofs.Placing.{placeds_at, node_placed, placed_kids, placeds_first, placeds_on, placeds_later, placeds_within, node_kept, placed_alone, writes_before, node_element, alone_writes, node_stands, kept_on, kids_as}
use Rattle.serializer.proofs.RowWriting.{row_start, row_reach, row_long, row_end, row_placed, row_inside, row_kept, row_behind, row_later, row_writes, row_stop, row_on}
use Rattle.serializer.proofs.RowsWriting.{rows_start, rows_end, rows_row, rows_keep, rows_behind, rows_stop, rows_on}
use Rattle.serializer.proofs.TableChoice.{table_written, table_flat, first_before, rows_below, filled_below, writable_below, cells_below}
use Rattle.serializer.proofs.TableWriting.{table_at, table_full, table_done, table_sum, ends_in}
use Rattle.serializer.proofs.Turns.{turn_first, turn_on, turn_stop, turn_last}
use Rattle.serializer.specs.ListStep.{list_head}
use Rattle.serializer.specs.Options.{unpacked}
use Rattle.serializer.specs.Writers.{self_at, progress_at, at_text, gone, Fits}
use Rattle.text.specs.Texts.{bytes, wrote}
use Rattle.spec.specs.Bytes.{Bytes, ascii, is_blank}
use Rattle.spec.specs.Call.{tags_to_skip}
use Rattle.spec.specs.Md.Ctx.{fresh, table_cell, break_of, list_item, include_node, advance_ol_number, skip_escape, link_body, scope_of, inline, emphasis_scope}
use Rattle.spec.specs.Md.Elements.Emphasis.{md_emphasis}
use Rattle.spec.specs.Md.Elements.Link.{link_of}
use Rattle.spec.specs.Md.Elements.List.{begin_item, item_from, item_children, write_list_item_blocks, write_list_item, number_of, list_children, write_list, kind_of, renumbered}
use Rattle.spec.specs.Md.Elements.Table.{cell_text, without_breaks, trim_trailing_cell_break, escape_table_cell_inplace, rows_of, from_cells, concat}
use Rattle.spec.specs.Md.MDSerializer.{write_kids}
use Rattle.spec.specs.Md.Serializer.{serializer, in_element, closed, write_at, write_nodes, opened}
use Rattle.spec.specs.Md.TextUtils.{trim_space}
use Rattle.spec.specs.Names.{tag_of}
use Rattle.spec.specs.Out.{and_then, Step, push, Out}
use Rattle.spec.specs.Tree.{Attr, Forest, nothing, element, attr, kids_of}
use Rattle.spec.specs.declared.ctx.FormatOpts.{FormatOpts}
use Rattle.tables.proofs.RowTests.{writable_none}
use Rattle.tables.proofs.TableRows.{rows_at, rows_at_kept}
use Rattle.tables.specs.TableSteps.{rows_texts}
use Rattle.text.proofs.Spaces.{cut_done}
use Rattle.text.proofs.Temporary.{back, back_length, temp_fits}
use Rattle.text.specs.Trimmed.{Trimmed}
use Rattle.text.proofs.Writing.{alike_answer, done, reaches, owes_all, owes_step, owes_on, owes_over, owes_last, alike, owes_stop, then_assoc, full, keeps, stops}
use Rattle.text.specs.Writes.{Writes}
use Rattle.tree.proofs.Firsts.{rep_le}
use Rattle.tree.proofs.Frames.{kept_none, kept_in, end_kept, place_kept, rep_kept}
use Rattle.tree.proofs.Kin.{first_skipped}
use Rattle.tree.specs.Memory.{place_at, Kept, end_at}
use Rattle.tree.specs.Nodes.{name_at, body_at}
use Rattle.tree.specs.Represents.{attrs_behind, Rep}
use borrow.Author.Tests.{eqb-true}
use lib.Dec.{lit<, eqb}
use lib.ListN.{take, length, drop, get_or}
use mathlib.Core.Bool.{true, false, Bool, cond, ◌&&◌}
use mathlib.Core.List.{List, ◌∷◌, []}
use mathlib.Core.Path.{refl, ap, sym, subst, ◌∙◌, subst₂}
use native.Mathlib.Omega.{arith}
use Rattle.std.proofs.Common.{rules, Ok}
use Rattle.serializer.proofs.MDSerializer.+writers.Goals as goal

pub alone-node_name-name-requires : goal.alone-node_name-name-requires
alone-node_name-name-requires t c =
    node_stands c.requires.0

pub alone-block-requires : goal.alone-block-requires
alone-block-requires t c = (
  falls_in c.args.levels c.decreases (lit< tt),
  (
    node_placed c.requires.0 (block_tag_lem c.args.self.now.sheet.now (place_at c.args.nodes.now c.args.c) c.node_name-name.ensures c.node_is_list_item_block.ensures c.if-node_is_list_item_block.true),
    c.node_name-name.ensures,
    c.requires.1,
  ),
)

pub alone-returns-then-node_is_list_item_block : goal.alone-returns-then-node_is_list_item_block
alone-returns-then-node_is_list_item_block t c =
    record {
      room = room_on (leaf_room c.due_line.ensures) (c.block.ensures.room);
      kept = c.block.ensures.kept;
      goes_forest = alone_block c.args.self.now.sheet.now c.args.nodes.now c.args.c c.node_name-name.ensures c.requires.0.later (self_at c.args.self.now.skip c.args.levels) (item_of c.args.item) c.args.before.first c.args.before.due c.args.blank c.args.text.now.room.now c.args.text.now.len c.due_line.ensures.writes (ap (wrote c.due_line.new.text) c.in_ok-due_line.was) c.node_is_list_item_block.ensures c.if-node_is_list_item_block.true c.requires.0.alone.positive c.block.ensures.goes_element;
    }

pub alone-returns : goal.alone-returns
alone-returns t c =
    record {
      room = room_on (leaf_room c.due_line.ensures) (c.inline.ensures.room);
      kept = c.inline.ensures.kept;
      goes_forest = alone_inline c.args.self.now.sheet.now c.args.nodes.now c.args.c c.node_name-name.ensures c.requires.0.later (self_at c.args.self.now.skip c.args.levels) (item_of c.args.item) c.args.before.first c.args.before.due c.args.blank c.args.text.now.room.now c.args.text.now.len c.due_line.ensures.writes (ap (wrote c.due_line.new.text) c.in_ok-due_line.was) c.node_is_list_item_block.ensures c.if-node_is_list_item_block.false (going_ok c.inline.new.text _ _ c.in_ok-inline.was) c.inline.ensures.writes_forest;
    }

pub alone-returns-in_err-inline : goal.alone-returns-in_err-inline
alone-returns-in_err-inline t c =
    record {
      room = room_on (leaf_room c.due_line.ensures) (c.inline.ensures.room);
      kept = c.inline.ensures.kept;
      goes_forest = alone_inline c.args.self.now.sheet.now c.args.nodes.now c.args.c c.node_name-name.ensures c.requires.0.later (self_at c.args.self.now.skip c.args.levels) (item_of c.args.item) c.args.before.first c.args.before.due c.args.blank c.args.text.now.room.now c.args.text.now.len c.due_line.ensures.writes (ap (wrote c.due_line.new.text) c.in_ok-due_line.was) c.node_is_list_item_block.ensures c.if-node_is_list_item_block.false (going_err _ _ _ _ _ c.from_residual-in_err-inline.ensures.0 c.in_err-inline.was) c.inline.ensures.writes_forest;
    }

pub alone-returns-in_err-due_line : goal.alone-returns-in_err-due_line
alone-returns-in_err-due_line t c =
    record {
      room = leaf_room c.due_line.ensures;
      kept = kept_none c.args.nodes.now;
      goes_forest = stops_going (gone_err _ _ c.from_residual.ensures.0) (alone_none c.args.self.now.sheet.now c.args.nodes.now c.args.c c.node_name-name.ensures c.requires.0.later (self_at c.args.self.now.skip c.args.levels) (item_of c.args.item) c.args.before.first c.args.before.due c.args.blank c.args.text.now.room.now c.args.text.now.len c.due_line.ensures.writes (ap (wrote c.due_line.new.text) c.in_err-due_line.was));
    }

pub block-returns-then-name-eq-HR : goal.block-returns-then-name-eq-HR
block-returns-then-name-eq-HR t c =
    record {
      room = c.rule_block.ensures.room;
      kept = kept_none c.args.nodes.now;
      goes_element = block_rule c.args.self.now.sheet.now c.args.nodes.now c.args.c c.requires.1 (self_at c.args.self.now.skip c.args.levels) (item_of c.args.item) c.args.before.first c.args.before.due (bytes c.args.text.now) c.if-name-eq-HR.true c.rule_block.ensures.goes;
    }

pub block-returns : goal.block-returns
block-returns t c =
    record {
      room = c.led.ensures.room;
      kept = c.led.ensures.kept;
      goes_element = block_led c.args.self.now.sheet.now c.args.nodes.now c.args.c c.requires.1 (self_at c.args.self.now.skip c.args.levels) (item_of c.args.item) c.args.before.first c.args.before.due (bytes c.args.text.now) c.if-name-eq-HR.false (going_ok c.led.new.text _ _ c.in_ok-led.was) c.led.ensures.writes_element;
    }

pub block-returns-in_err-led : goal.block-returns-in_err-led
block-returns-in_err-led t c =
    record {
      room = c.led.ensures.room;
      kept = c.led.ensures.kept;
      goes_element = block_led c.args.self.now.sheet.now c.args.nodes.now c.args.c c.requires.1 (self_at c.args.self.now.skip c.args.levels) (item_of c.args.item) c.args.before.first c.args.before.due (bytes c.args.text.now) c.if-name-eq-HR.false (going_err _ _ _ _ _ c.from_residual.ensures.0 c.in_err-led.was) c.led.ensures.writes_element;
    }

pub blocks-returns-in_err-start_item : goal.blocks-returns-in_err-start_item
blocks-returns-in_err-start_item t c =
    let self = self_at c.args.self.now.skip c.args.levels in
    let item = item_from c.args.ctx.now (begin_item true c.args.ctx.now (bytes c.args.text.now)) in record {
      room = leaf_room c.start_item.ensures.0;
      kept = kept_none c.args.nodes.now;
      writes_element = stops_element (wrote_err _ _ c.from_residual.ensures.0) (record {
        for = λ name attrs kids anc x a.
            both-full c.args.text.now.room.now c.args.text.now.len c.args.text.now.fits (write_list_item_blocks self anc attrs kids c.args.ctx.now) (begin_item true c.args.ctx.now)
            (λ u. and_then (item_children self (attrs ∷ anc) kids item (progress_at true false u)).out (ended_item item))
            (blocks_parts self anc attrs kids c.args.ctx.now item (bytes c.args.text.now) refl) c.start_item.ensures.0.writes (ap (wrote c.start_item.new.text) c.in_err-start_item.was);
      });
      ctx_value = c.start_item.ensures.1;
    }

pub blocks-children-requires : goal.blocks-children-requires
blocks-children-requires t c =
    let item_is = c.item_from-item.ensures (begin_item true c.args.ctx.now (bytes c.args.text.now)) (done (ap (wrote c.start_item.new.text) c.in_ok-start_item.was) c.start_item.ensures.0.writes).count in (
      falls_children c.args.levels (c.args.c + 1) c.decreases c.node_end-to.type_inv,
      (
        placed_kids c.requires.0 c.node_end-to.ensures,
        fits_blocks c.args.levels c.args.ctx.now c.item_from-item.result (begin_item true c.args.ctx.now (bytes c.args.text.now)) item_is c.requires.1,
      ),
    )

pub blocks-returns : goal.blocks-returns
blocks-returns t c =
    let item_is = c.item_from-item.ensures (begin_item true c.args.ctx.now (bytes c.args.text.now)) (done (ap (wrote c.start_item.new.text) c.in_ok-start_item.was) c.start_item.ensures.0.writes).count in
    let self = self_at c.args.self.now.skip c.args.levels in
    let item = item_of c.item_from-item.result in record {
      room = room_on (leaf_room c.start_item.ensures.0) (room_on (c.children.ensures.room) (leaf_room c.end_item.ensures));
      kept = kept_in (omega arith) (omega (arith, c.node_end-to.ensures)) c.children.ensures.kept;
      writes_element = record {
        for = λ name attrs kids anc x a.
            owes_last (owes_on (both-on c.args.text.now.room.now c.args.text.now.len c.args.text.now.fits (write_list_item_blocks self anc attrs kids c.args.ctx.now) (begin_item true c.args.ctx.now) (λ u. and_then (item_children self (attrs ∷ anc) kids item (progress_at true false u)).out (ended_item item))
            (blocks_parts self anc attrs kids c.args.ctx.now item (bytes c.args.text.now) item_is) c.start_item.ensures.0.writes (ap (wrote c.start_item.new.text) c.in_ok-start_item.was)) (λ u. (item_children self (attrs ∷ anc) kids item (progress_at true false u)).out) (ended_item item) refl
            (went (ap (gone c.children.new.text) c.in_ok-children.was) (c.children.ensures.goes_forest.for c.args.c kids (attrs ∷ anc) (element_kids x c.node_end-to.ensures) (around_it anc x a))).0) c.end_item.ensures.writes;
      };
      ctx_value = c.start_item.ensures.1;
    }

pub blocks-returns-in_err-children : goal.blocks-returns-in_err-children
blocks-returns-in_err-children t c =
    let item_is = c.item_from-item.ensures (begin_item true c.args.ctx.now (bytes c.args.text.now)) (done (ap (wrote c.start_item.new.text) c.in_ok-start_item.was) c.start_item.ensures.0.writes).count in
    let self = self_at c.args.self.now.skip c.args.levels in
    let item = item_of c.item_from-item.result in record {
      room = room_on (leaf_room c.start_item.ensures.0) (c.children.ensures.room);
      kept = kept_in (omega arith) (omega (arith, c.node_end-to.ensures)) c.children.ensures.kept;
      writes_element = stops_element (wrote_err _ _ c.from_residual-in_err-children.ensures.0) (record {
        for = λ name attrs kids anc x a.
            owes_over (both-on c.args.text.now.room.now c.args.text.now.len c.args.text.now.fits (write_list_item_blocks self anc attrs kids c.args.ctx.now) (begin_item true c.args.ctx.now) (λ u. and_then (item_children self (attrs ∷ anc) kids item (progress_at true false u)).out (ended_item item))
            (blocks_parts self anc attrs kids c.args.ctx.now item (bytes c.args.text.now) item_is) c.start_item.ensures.0.writes (ap (wrote c.start_item.new.text) c.in_ok-start_item.was)) (λ u. (item_children self (attrs ∷ anc) kids item (progress_at true false u)).out) (ended_item item) refl
            (went_full (ap (gone c.children.new.text) c.in_err-children.was) (c.children.ensures.goes_forest.for c.args.c kids (attrs ∷ anc) (element_kids x c.node_end-to.ensures) (around_it anc x a)));
      });
      ctx_value = c.start_item.ensures.1;
    }

pub body-push_link-requires : goal.body-push_link-requires
body-push_link-requires t c =
    let p = c.requires.0 in (
      nest-fits c.args.text.now.room.now c.args.text.now.len c.args.text.now.fits (c.kids_behind.ensures.writes_element.for p.0.0 p.0.1 p.0.2 p.1.0 p.0.3 p.1.1) c.in_ok-n.was,
      c.requires.2,
    )

pub body-returns : goal.body-returns
body-returns t c =
    let a = c.args in
    let href = a.dest.now in record {
      room = room_on (room_behind _ refl refl c.kids_behind.auto.room) (leaf_room c.push_link.ensures);
      kept = c.kids_behind.ensures.kept;
      writes_element = record {
        for = λ name attrs kids anc x h. let link = write_kids (self_at a.self.now.skip a.levels) anc a.opts (element name attrs kids nothing) [] in
            alike (ap (λ (f : Step). f (bytes a.text.now)) (link_is attrs href link push))
            (nest-done a.text.now.room.now a.text.now.len c.args.text.now.fits (kids_as (self_at c.args.self.now.skip c.args.levels) c.of-bits.ensures c.kids_behind.ensures.writes_element name attrs kids anc x h) (λ z. link_step attrs href z push) c.in_ok-n.was
            (subst (λ (l : List Attr). Writes (length (back a.text.now.room.now a.text.now.len c.kids_behind.new.room)) c.push_link.new.text.room.now (wrote c.push_link.new.text c.push_link.result) (link_step l href (take c.in_ok-n.n (drop a.text.now.len (back a.text.now.room.now a.text.now.len c.kids_behind.new.room))) push (take a.text.now.len (back a.text.now.room.now a.text.now.len c.kids_behind.new.room)))) (of_node attrs_behind c.field-field.ensures ∙ sym x.attrs_are) c.push_link.ensures.writes));
      };
    }

pub body-returns-in_err-n : goal.body-returns-in_err-n
body-returns-in_err-n t c =
    let a = c.args in
    let href = a.dest.now in record {
      room = room_behind _ refl refl c.kids_behind.auto.room;
      kept = c.kids_behind.ensures.kept;
      writes_element = stops_element (wrote_err _ _ c.from_residual.ensures.0) (record {
        for = λ name attrs kids anc x h. let link = write_kids (self_at a.self.now.skip a.levels) anc a.opts (element name attrs kids nothing) [] in
            alike (ap (λ (f : Step). f (bytes a.text.now)) (link_is attrs href link push))
            (nest-full a.text.now.room.now a.text.now.len c.args.text.now.fits (kids_as (self_at c.args.self.now.skip c.args.levels) c.of-bits.ensures c.kids_behind.ensures.writes_element name attrs kids anc x h) (link_step attrs href link.text push) c.in_err-n.was);
      });
    }

pub cell-returns : goal.cell-returns
unfolding cell_text trim_trailing_cell_break
cell-returns t c =
    let written = kids_as (self_at c.args.self.now.skip c.args.levels) (c.of-bits.ensures ∙ c.table_cell.ensures ∙ ap table_cell c.fresh.ensures) c.kids.ensures.writes_element in
    let a = c.args in record {
      kept = c.kids.ensures.kept;
      writes = λ name attrs kids anc th x h.
          let f = write_kids (self_at a.self.now.skip a.levels) anc (table_cell (fresh a.opts)) (element name attrs kids nothing) in
          let p = owes_step (owes_all a.room.now 0 (λ u. and_then (and_then (f u) trim_trailing_cell_break) escape_table_cell_inplace) (omega arith) refl) f (λ u. and_then (trim_trailing_cell_break u) escape_table_cell_inplace) (then_assoc (f (take 0 a.room.now)) trim_trailing_cell_break escape_table_cell_inplace) (ap (wrote c.kids.new.text) c.in_ok-kids.was) (written _ _ _ anc x h) in
          let k = c.trim_trailing_cell_break in
          let s = subst (λ (u : Bytes). Trimmed u k.result (without_breaks (length u) u)) c.bytes.ensures k.ensures in
          let w = alike_answer (sym (ap (wrote c.escape_table_cell_inplace.new.text) c.in_ok-escape_table_cell_inplace.was))
          (owes_last (owes_on p trim_trailing_cell_break escape_table_cell_inplace refl (cut_done (λ z. without_breaks (length z) z) c.kids.new.text.room.now c.kids.new.text.len k.result p.reach s)) c.escape_table_cell_inplace.ensures.writes) in
          subst (λ (d : Bytes). Writes (length a.room.now) d (Ok c.escape_table_cell_inplace.new.text.len) (cell_text (self_at a.self.now.skip a.levels) a.opts (record { ancestors = anc; is_th = th; node = element name attrs kids nothing }))) (search rules) w;
    }

pub cell-returns-in_err-escape_table_cell_inplace : goal.cell-returns-in_err-escape_table_cell_inplace
unfolding cell_text trim_trailing_cell_break
cell-returns-in_err-escape_table_cell_inplace t c =
    let written = kids_as (self_at c.args.self.now.skip c.args.levels) (c.of-bits.ensures ∙ c.table_cell.ensures ∙ ap table_cell c.fresh.ensures) c.kids.ensures.writes_element in
    let a = c.args in record {
      kept = c.kids.ensures.kept;
      writes = λ name attrs kids anc th x h.
          let f = write_kids (self_at a.self.now.skip a.levels) anc (table_cell (fresh a.opts)) (element name attrs kids nothing) in
          let p = owes_step (owes_all a.room.now 0 (λ u. and_then (and_then (f u) trim_trailing_cell_break) escape_table_cell_inplace) (omega arith) refl) f (λ u. and_then (trim_trailing_cell_break u) escape_table_cell_inplace) (then_assoc (f (take 0 a.room.now)) trim_trailing_cell_break escape_table_cell_inplace) (ap (wrote c.kids.new.text) c.in_ok-kids.was) (written _ _ _ anc x h) in
          let k = c.trim_trailing_cell_break in
          let s = subst (λ (u : Bytes). Trimmed u k.result (without_breaks (length u) u)) c.bytes.ensures k.ensures in
          let w = stops c.from_residual-in_err-escape_table_cell_inplace.ensures.0 (alike_answer (sym (ap (wrote c.escape_table_cell_inplace.new.text) c.in_err-escape_table_cell_inplace.was))
          (owes_last (owes_on p trim_trailing_cell_break escape_table_cell_inplace refl (cut_done (λ z. without_breaks (length z) z) c.kids.new.text.room.now c.kids.new.text.len k.result p.reach s)) c.escape_table_cell_inplace.ensures.writes)) in
          subst (λ (d : Bytes). Writes (length a.room.now) d c.from_residual-in_err-escape_table_cell_inplace.result (cell_text (self_at a.self.now.skip a.levels) a.opts (record { ancestors = anc; is_th = th; node = element name attrs kids nothing }))) (search rules) w;
    }

pub cell-returns-in_err-kids : goal.cell-returns-in_err-kids
unfolding cell_text
cell-returns-in_err-kids t c =
    let written = kids_as (self_at c.args.self.now.skip c.args.levels) (c.of-bits.ensures ∙ c.table_cell.ensures ∙ ap table_cell c.fresh.ensures) c.kids.ensures.writes_element in
    let a = c.args in record {
      kept = c.kids.ensures.kept;
      writes = λ name attrs kids anc th x h.
          let f = write_kids (self_at a.self.now.skip a.levels) anc (table_cell (fresh a.opts)) (element name attrs kids nothing) in
          stops c.from_residual.ensures.0 (owes_stop (owes_all a.room.now 0 (λ u. and_then (and_then (f u) trim_trailing_cell_break) escape_table_cell_inplace) (omega arith) refl) f (λ u. and_then (trim_trailing_cell_break u) escape_table_cell_inplace) (then_assoc (f (take 0 a.room.now)) trim_trailing_cell_break escape_table_cell_inplace) (ap (wrote c.kids.new.text) c.in_err-kids.was) (written _ _ _ anc x h));
    }

pub cells-loop-r-init : goal.cells-loop-r-init
cells-loop-r-init t c =
    let a = c.args in
    (room_same a.text.now, rows_start (serializer (tags_to_skip (skip_of a.self.now.skip)) a.levels) a.opts c.requires.0 c.requires.1 c.next_row-r.ensures.later c.next_row-r.ensures.rows a.text.now.room.now a.text.now.len c.args.text.now.fits)

pub cells-row-requires : goal.cells-row-requires
cells-row-requires t c =
    (falls_in c.args.levels c.decreases (lit< tt), (rows_row c.loop-r.invariant.1 c.loop-r-test.true, c.requires.2))

pub cells-returns-in_err-row : goal.cells-returns-in_err-row
cells-returns-in_err-row t c =
    let p = c.loop-r.invariant.1 in
    record {
      room = room_on (c.loop-r.invariant.0) (c.row.ensures.room);
      kept = rows_keep p c.loop-r-test.true c.row.ensures.kept;
      rows_writes = λ rows x. stops_rows (wrote_err _ _ c.from_residual.ensures.0) (rows_stop p c.loop-r-test.true _ c.row.ensures.row_writes (ap (wrote c.row.new.text) c.in_err-row.was) _ _ rows x);
    }

pub cells-next_row-r-requires-in-loop-r : goal.cells-next_row-r-requires-in-loop-r
cells-next_row-r-requires-in-loop-r t c =
    rows_behind c.loop-r.invariant.1 c.loop-r-test.true c.row.ensures.kept

pub cells-loop-r-preserved : goal.cells-loop-r-preserved
cells-loop-r-preserved t c =
    (room_on c.loop-r.invariant.0 c.row.ensures.room, rows_on c.loop-r.invariant.1 c.loop-r-test.true _ c.row.ensures.row_writes (ap (wrote c.row.new.text) c.in_ok-row.was) c.row.ensures.kept _ c.next_row-r-in-loop-r.ensures.later c.next_row-r-in-loop-r.ensures.rows)

pub cells-returns : goal.cells-returns
cells-returns t c =
    record {
      room = c.loop-r.invariant.0;
      kept = c.loop-r.invariant.1.kept;
      rows_writes = rows_end c.loop-r.invariant.1 c.loop-r-test.false;
    }

pub child-field-field-requires : goal.child-field-field-requires
child-field-field-requires t c =
    let n = node_stands c.requires.0 in (n.inside, n.placed)

pub child-node_is_skipped-requires : goal.child-node_is_skipped-requires
child-node_is_skipped-requires t c =
    node_stands c.requires.0

pub child-node_end-end-requires : goal.child-node_end-end-requires
child-node_end-end-requires t c =
    (node_stands c.requires.0).inside

pub child-children-requires : goal.child-children-requires
child-children-requires t c = (
  kids_fall c.args.levels c.args.c c.args.to c.decreases c.node_end-end.ensures c.requires.1 c.requires.0.later,
  (wrapper_kids c.requires.0 c.node_end-end.ensures c.node_is_block_wrapper.ensures c.if-node_is_block_wrapper.true, c.requires.2),
)

pub child-returns-then-tag : goal.child-returns-then-tag
child-returns-then-tag t c =
    record {
      room = room_same c.args.text.now;
      kept = kept_none c.args.nodes.now;
      goes_forest = child_comment c.args.self.now.sheet.now c.args.nodes.now c.args.c refl (tags_to_skip (skip_of c.args.self.now.skip)) c.args.levels (item_of c.args.item) c.args.before.first c.args.before.due c.args.text.now.room.now c.args.text.now.len c.args.text.now.fits (tag_of_node c.field-field.ensures c.tag-tag.ensures) c.if-tag.true;
    }

pub child-returns-then-node_is_skipped : goal.child-returns-then-node_is_skipped
child-returns-then-node_is_skipped t c =
    record {
      room = room_same c.args.text.now;
      kept = kept_none c.args.nodes.now;
      goes_forest = child_skipped c.args.self.now.sheet.now c.args.nodes.now c.args.c refl (tags_to_skip (skip_of c.args.self.now.skip)) c.args.levels (item_of c.args.item) c.args.before.first c.args.before.due c.args.text.now.room.now c.args.text.now.len c.args.text.now.fits c.node_is_skipped.ensures c.if-node_is_skipped.true;
    }

pub child-returns-then-node_is_block_wrapper : goal.child-returns-then-node_is_block_wrapper
child-returns-then-node_is_block_wrapper t c =
    record {
      room = c.children.ensures.room;
      kept = kept_in (omega arith) (omega (arith, c.node_end-end.ensures)) c.children.ensures.kept;
      goes_forest = child_wrapper c.args.self.now.sheet.now c.args.nodes.now c.args.c refl (tags_to_skip (skip_of c.args.self.now.skip)) c.args.levels (item_of c.args.item) c.args.before.first c.args.before.due c.args.text.now.room.now c.args.text.now.len c.node_is_skipped.ensures c.if-node_is_skipped.false c.requires.0.later c.node_is_block_wrapper.ensures c.node_end-end.ensures c.if-node_is_block_wrapper.true c.requires.0.alone.positive c.children.ensures.goes_forest;
    }

pub child-returns : goal.child-returns
child-returns t c =
    record {
      room = c.alone.ensures.room;
      kept = c.alone.ensures.kept;
      goes_forest = child_alone c.args.self.now.sheet.now c.args.nodes.now c.args.c refl (tags_to_skip (skip_of c.args.self.now.skip)) c.args.levels (item_of c.args.item) c.args.before.first c.args.before.due c.args.text.now.room.now c.args.text.now.len c.node_is_skipped.ensures c.if-node_is_skipped.false c.requires.0.later c.node_is_block_wrapper.ensures (tag_of_node c.field-field.ensures c.tag-tag.ensures) c.if-tag.false c.if-node_is_block_wrapper.false (c.is_blank_text-blank.ensures ∙ of_node (λ (b : Bytes) (p : ℕ). eqb (get_or b p 0) 4 && is_blank (body_at b p)) c.field-field.ensures) c.alone.ensures.goes_forest;
    }

pub children-loop-c-init : goal.children-loop-c-init
children-loop-c-init t c = (
  room_same c.args.text.now,
  kept_none c.args.nodes.now,
  omega arith,
  c.requires.0,
  going_first c.args.self.now.sheet.now c.args.nodes.now c.args.from c.args.to (self_at c.args.self.now.skip c.args.levels) (item_of c.args.item) c.args.text.now.room.now (at_text c.args.before c.args.text.now) c.args.text.now.fits,
)

pub children-child-requires : goal.children-child-requires
children-child-requires t c =
    let l = c.loop-c in
    let lt = c.loop-c-test.true in (
      child_falls c.args.levels c.decreases l.invariant.2 lt,
      (node_kept l.invariant.1 (placeds_first l.invariant.3 lt), omega (arith, end_kept l.invariant.1 l.c, placeds_within l.invariant.3 lt), c.requires.1),
    )

pub children-returns-in_err-going : goal.children-returns-in_err-going
children-returns-in_err-going t c =
    record {
      room = room_on (c.loop-c.invariant.0) (c.child.ensures.room);
      kept = kept_on c.loop-c.invariant.1 c.loop-c.invariant.2 c.loop-c.invariant.3 c.loop-c-test.true c.child.ensures.kept;
      goes_forest = stops_going (gone_err _ _ c.from_residual.ensures.0) (record { for = λ parent f anc h a. going_stop c.loop-c.invariant.4 c.loop-c-test.true (goes_before c.loop-c.invariant.1 c.child.ensures.goes_forest) (ap (gone c.child.new.text) c.in_err-going.was) parent f anc h a });
    }

pub children-node_end-c-requires : goal.children-node_end-c-requires
children-node_end-c-requires t c =
    omega (arith, (placeds_at c.loop-c.invariant.3 c.loop-c-test.true).inside, (kept_on c.loop-c.invariant.1 c.loop-c.invariant.2 c.loop-c.invariant.3 c.loop-c-test.true c.child.ensures.kept).long)

pub children-loop-c-smaller : goal.children-loop-c-smaller
children-loop-c-smaller t c =
    omega (arith, placeds_later c.loop-c.invariant.3 c.loop-c-test.true, c.node_end-c.ensures, end_kept (kept_on c.loop-c.invariant.1 c.loop-c.invariant.2 c.loop-c.invariant.3 c.loop-c-test.true c.child.ensures.kept) c.loop-c.c, c.loop-c-test.true)

pub children-loop-c-preserved : goal.children-loop-c-preserved
children-loop-c-preserved t c =
    let went_on = goes_before c.loop-c.invariant.1 c.child.ensures.goes_forest in
    let l = c.loop-c in
    let lt = c.loop-c-test.true in
    let K = kept_on c.loop-c.invariant.1 c.loop-c.invariant.2 c.loop-c.invariant.3 c.loop-c-test.true c.child.ensures.kept in
    let q = c.node_end-c.ensures ∙ end_kept K l.c in
    let a = (placeds_first l.invariant.3 lt).alone in
    let d = (went (ap (gone c.child.new.text) c.in_ok-going.was) (went_on.for a.parent a.forest a.anc a.rep a.around)).0 in (
      room_on l.invariant.0 c.child.ensures.room,
      K,
      omega (arith, placeds_later l.invariant.3 lt, l.invariant.2, q),
      subst (λ (k : ℕ). Placeds c.args.self.now.sheet.now c.args.nodes.now k c.args.to) (sym q) (placeds_on l.invariant.3 lt),
      going_on l.invariant.4 lt went_on q (ap (gone c.child.new.text) c.in_ok-going.was),
    )

pub children-returns : goal.children-returns
children-returns t c =
    record {
      room = c.loop-c.invariant.0;
      kept = c.loop-c.invariant.1;
      goes_forest = record { for = λ parent f anc h a. going_last c.loop-c.invariant.4 c.loop-c-test.false parent f anc h a };
    }

pub flat-of-bits-requires : goal.flat-of-bits-requires
flat-of-bits-requires t c =
    omega (arith, fits_item c.args.levels c.args.ctx.now c.start_item.new.ctx c.list_item.result c.start_item.ensures.1 c.list_item.ensures c.requires.1)

pub flat-kids-requires : goal.flat-kids-requires
flat-kids-requires t c =
    (falls_in c.args.levels c.decreases (lit< tt), (c.requires.0, fits_item c.args.levels c.args.ctx.now c.start_item.new.ctx (unpacked c.of-bits.result) c.start_item.ensures.1 (c.of-bits.ensures ∙ c.list_item.ensures) c.requires.1))

pub flat-returns : goal.flat-returns
flat-returns t c =
    let self = self_at c.args.self.now.skip c.args.levels in record {
      room = room_on (leaf_room c.start_item.ensures.0) (room_on (c.kids.ensures.room) (leaf_room c.push_linebreak.ensures));
      kept = c.kids.ensures.kept;
      writes_element = record {
        for = λ name attrs kids anc x a. owes_last (owes_step (both-on c.args.text.now.room.now c.args.text.now.len c.args.text.now.fits (write_list_item self anc (element name attrs kids nothing) c.args.ctx.now) (begin_item false c.args.ctx.now) (λ u. and_then (write_kids self anc (unpacked c.of-bits.result) (element name attrs kids nothing) u) (push (break_of c.start_item.new.ctx)))
            (item_parts self anc (element name attrs kids nothing) c.args.ctx.now c.start_item.new.ctx (unpacked c.of-bits.result) (bytes c.args.text.now) c.start_item.ensures.1 (c.of-bits.ensures ∙ c.list_item.ensures)) c.start_item.ensures.0.writes (ap (wrote c.start_item.new.text) c.in_ok-start_item.was)) (write_kids self anc (unpacked c.of-bits.result) (element name attrs kids nothing)) (push (break_of c.start_item.new.ctx)) refl (ap (wrote c.kids.new.text) c.in_ok-kids.was) (c.kids.ensures.writes_element.for name attrs kids anc x a)) c.push_linebreak.ensures.writes;
      };
      ctx_value = c.start_item.ensures.1;
    }

pub flat-returns-in_err-kids : goal.flat-returns-in_err-kids
flat-returns-in_err-kids t c =
    let self = self_at c.args.self.now.skip c.args.levels in record {
      room = room_on (leaf_room c.start_item.ensures.0) (c.kids.ensures.room);
      kept = c.kids.ensures.kept;
      writes_element = stops_element (wrote_err _ _ c.from_residual-in_err-kids.ensures.0) (record {
        for = λ name attrs kids anc x a. owes_stop (both-on c.args.text.now.room.now c.args.text.now.len c.args.text.now.fits (write_list_item self anc (element name attrs kids nothing) c.args.ctx.now) (begin_item false c.args.ctx.now) (λ u. and_then (write_kids self anc (unpacked c.of-bits.result) (element name attrs kids nothing) u) (push (break_of c.start_item.new.ctx)))
            (item_parts self anc (element name attrs kids nothing) c.args.ctx.now c.start_item.new.ctx (unpacked c.of-bits.result) (bytes c.args.text.now) c.start_item.ensures.1 (c.of-bits.ensures ∙ c.list_item.ensures)) c.start_item.ensures.0.writes (ap (wrote c.start_item.new.text) c.in_ok-start_item.was)) (write_kids self anc (unpacked c.of-bits.result) (element name attrs kids nothing)) (push (break_of c.start_item.new.ctx)) refl (ap (wrote c.kids.new.text) c.in_err-kids.was) (c.kids.ensures.writes_element.for name attrs kids anc x a);
      });
      ctx_value = c.start_item.ensures.1;
    }

pub flat-returns-in_err-start_item : goal.flat-returns-in_err-start_item
flat-returns-in_err-start_item t c =
    let self = self_at c.args.self.now.skip c.args.levels in record {
      room = leaf_room c.start_item.ensures.0;
      kept = kept_none c.args.nodes.now;
      writes_element = stops_element (wrote_err _ _ c.from_residual.ensures.0) (record {
        for = λ name attrs kids anc x a.
            both-full c.args.text.now.room.now c.args.text.now.len c.args.text.now.fits (write_list_item self anc (element name attrs kids nothing) c.args.ctx.now) (begin_item false c.args.ctx.now)
            (λ u. and_then (write_kids self anc (list_item c.start_item.new.ctx.opts) (element name attrs kids nothing) u) (push (break_of c.start_item.new.ctx)))
            (item_parts self anc (element name attrs kids nothing) c.args.ctx.now c.start_item.new.ctx (list_item c.start_item.new.ctx.opts) (bytes c.args.text.now) c.start_item.ensures.1 refl) c.start_item.ensures.0.writes (ap (wrote c.start_item.new.text) c.in_err-start_item.was);
      });
      ctx_value = c.start_item.ensures.1;
    }

pub flow-returns-then-name-eq-PRE : goal.flow-returns-then-name-eq-PRE
flow-returns-then-name-eq-PRE t c =
    record {
      room = c.indented.ensures.room;
      kept = c.indented.ensures.kept;
      writes_element = body_pre c.args.self.now.sheet.now c.args.nodes.now c.args.c c.requires.1 (self_at c.args.self.now.skip c.args.levels) (item_of c.args.item) c.if-name-eq-PRE.true c.indented.ensures.writes_element;
    }

pub flow-returns : goal.flow-returns
flow-returns t c =
    record {
      room = room_on (leaf_room c.push_heading_prefix.ensures) (room_on (c.kids.ensures.room) (leaf_room c.end_flow.ensures));
      kept = c.kids.ensures.kept;
      writes_element = flow_done c.args.self.now.sheet.now c.args.nodes.now c.args.c c.requires.1 (self_at c.args.self.now.skip c.args.levels) (item_of c.args.item) c.if-name-eq-PRE.false c.args.text.now.room.now c.args.text.now.len c.args.text.now.fits c.push_heading_prefix.ensures.writes (ap (wrote c.push_heading_prefix.new.text) c.in_ok-push_heading_prefix.was) (c.of-bits.ensures ∙ c.list_item.ensures) c.kids.ensures.writes_element (ap (wrote c.kids.new.text) c.in_ok-kids.was) c.end_flow.ensures.writes;
    }

pub flow-returns-in_err-kids : goal.flow-returns-in_err-kids
flow-returns-in_err-kids t c =
    record {
      room = room_on (leaf_room c.push_heading_prefix.ensures) (c.kids.ensures.room);
      kept = c.kids.ensures.kept;
      writes_element = stops_element (wrote_err _ _ c.from_residual-in_err-kids.ensures.0) (flow_full c.args.self.now.sheet.now c.args.nodes.now c.args.c c.requires.1 (self_at c.args.self.now.skip c.args.levels) (item_of c.args.item) c.if-name-eq-PRE.false c.args.text.now.room.now c.args.text.now.len c.args.text.now.fits c.push_heading_prefix.ensures.writes (ap (wrote c.push_heading_prefix.new.text) c.in_ok-push_heading_prefix.was) (c.of-bits.ensures ∙ c.list_item.ensures) c.kids.ensures.writes_element (ap (wrote c.kids.new.text) c.in_err-kids.was));
    }

pub flow-returns-in_err-push_heading_prefix : goal.flow-returns-in_err-push_heading_prefix
flow-returns-in_err-push_heading_prefix t c =
    record {
      room = leaf_room c.push_heading_prefix.ensures;
      kept = kept_none c.args.nodes.now;
      writes_element = stops_element (wrote_err _ _ c.from_residual.ensures.0) (flow_none c.args.self.now.sheet.now c.args.nodes.now c.args.c c.requires.1 (self_at c.args.self.now.skip c.args.levels) (item_of c.args.item) c.if-name-eq-PRE.false c.args.text.now.room.now c.args.text.now.len c.args.text.now.fits c.push_heading_prefix.ensures.writes (ap (wrote c.push_heading_prefix.new.text) c.in_err-push_heading_prefix.was));
    }

pub indented-write_behind-requires : goal.indented-write_behind-requires
indented-write_behind-requires t c = (
  falls_in c.args.levels c.decreases (lit< tt),
  (
    node_range c.node_end-to.ensures (placed_alone c.requires.0),
    fits_alike (unpacked c.of-bits.result) c.args.item.ctx.opts c.args.levels (ap (λ (o : FormatOpts). o.offset) (c.of-bits.ensures ∙ c.include_node.ensures)) c.requires.1.0,
  ),
)

pub indented-push_indented-requires : goal.indented-push_indented-requires
indented-push_indented-requires t c =
    indented_fits (tags_to_skip (skip_of c.args.self.now.skip)) c.args.levels (item_of c.args.item) c.node_end-to.ensures (c.of-bits.ensures ∙ c.include_node.ensures) c.args.text.now.room.now c.args.text.now.len c.args.text.now.fits c.write_behind.ensures.writes_forest c.requires.0 c.in_ok-n.was

pub indented-returns : goal.indented-returns
indented-returns t c =
    record {
      room = room_on (room_behind _ refl refl c.write_behind.auto.room) (leaf_room c.push_indented.ensures);
      kept = subst (λ (k : ℕ). Kept c.args.c k c.args.nodes.now c.write_behind.new.nodes) c.node_end-to.ensures c.write_behind.ensures.kept;
      writes_element = indented_done (tags_to_skip (skip_of c.args.self.now.skip)) c.args.levels (item_of c.args.item) c.node_end-to.ensures (c.of-bits.ensures ∙ c.include_node.ensures) c.args.text.now.room.now c.args.text.now.len c.args.text.now.fits c.write_behind.ensures.writes_forest c.in_ok-n.was c.push_indented.ensures.writes;
    }

pub indented-returns-in_err-n : goal.indented-returns-in_err-n
indented-returns-in_err-n t c =
    record {
      room = room_behind _ refl refl c.write_behind.auto.room;
      kept = subst (λ (k : ℕ). Kept c.args.c k c.args.nodes.now c.write_behind.new.nodes) c.node_end-to.ensures c.write_behind.ensures.kept;
      writes_element = stops_element (wrote_err _ _ c.from_residual.ensures.0) (indented_full (tags_to_skip (skip_of c.args.self.now.skip)) c.args.levels (item_of c.args.item) c.node_end-to.ensures (c.of-bits.ensures ∙ c.include_node.ensures) c.args.text.now.room.now c.args.text.now.len c.args.text.now.fits c.write_behind.ensures.writes_forest c.in_err-n.was);
    }

pub inline-node_end-to-requires : goal.inline-node_end-to-requires
inline-node_end-to-requires t c =
    (node_stands c.requires.0).inside

pub inline-returns : goal.inline-returns
inline-returns t c =
    record {
      room = room_on (leaf_room c.push_inline_lead.ensures) (c.write.ensures.room);
      kept = subst (λ (k : ℕ). Kept c.args.c k c.args.nodes.now c.write.new.nodes) c.node_end-to.ensures c.write.ensures.kept;
      writes_forest = inline_done c.args.self.now.sheet.now c.args.nodes.now c.args.c c.requires.1 (tags_to_skip (skip_of c.args.self.now.skip)) c.args.levels (item_of c.args.item) c.args.blank c.requires.0.later c.args.text.now.room.now c.args.text.now.len c.args.text.now.fits c.push_inline_lead.ensures.writes (ap (wrote c.push_inline_lead.new.text) c.in_ok-push_inline_lead.was) c.node_end-to.ensures (c.of-bits.ensures ∙ c.child_opts.ensures) c.write.ensures.writes_forest;
    }

pub inline-returns-in_err-push_inline_lead : goal.inline-returns-in_err-push_inline_lead
inline-returns-in_err-push_inline_lead t c =
    record {
      room = leaf_room c.push_inline_lead.ensures;
      kept = kept_none c.args.nodes.now;
      writes_forest = stops_forest (wrote_err _ _ c.from_residual.ensures.0) (inline_none c.args.self.now.sheet.now c.args.nodes.now c.args.c c.requires.1 (tags_to_skip (skip_of c.args.self.now.skip)) c.args.levels (item_of c.args.item) c.args.blank c.requires.0.later c.args.text.now.room.now c.args.text.now.len c.args.text.now.fits c.push_inline_lead.ensures.writes (ap (wrote c.push_inline_lead.new.text) c.in_err-push_inline_lead.was));
    }

pub inside-returns-then-flags-has_writer : goal.inside-returns-then-flags-has_writer
inside-returns-then-flags-has_writer t c =
    record {
      room = c.write_element.ensures.room;
      kept = c.write_element.ensures.kept;
      writes_element = record { for = λ name attrs kids anc x h. alike (inside_writer (self_at c.args.self.now.skip c.args.levels) anc (unpacked c.args.bits) name attrs kids (bytes c.args.text.now) (writer_wanted name c.opts-flags.ensures (c.node_name-name.ensures ∙ element_name x) c.has_writer.ensures c.if-flags-has_writer.true)) (c.write_element.ensures.writes_element.for name attrs kids anc x h) };
    }

pub inside-siblings-requires : goal.inside-siblings-requires
inside-siblings-requires t c =
    (falls_in c.args.levels c.decreases (lit< tt), (placed_kids c.requires.0 c.node_end-to.ensures, omega (arith, c.requires.1)))

pub inside-returns-in_err-siblings : goal.inside-returns-in_err-siblings
inside-returns-in_err-siblings t c =
    let a = c.args in record {
      room = c.siblings.ensures.room;
      kept = kept_in (omega arith) (omega (arith, c.node_end-to.ensures)) c.siblings.ensures.kept;
      writes_element = stops_element (wrote_err _ _ c.from_residual.ensures.0) (record { for = λ name attrs kids anc x h. both-full a.text.now.room.now a.text.now.len c.args.text.now.fits (in_element (self_at a.self.now.skip a.levels) anc (unpacked a.bits) name attrs kids) ((self_at a.self.now.skip a.levels).below (attrs ∷ anc) (unpacked a.bits) kids) (closed (unpacked a.bits) (tag_of name)) (inside_plain (self_at c.args.self.now.skip c.args.levels) anc (unpacked c.args.bits) name attrs kids (bytes c.args.text.now) (writer_wanted name c.opts-flags.ensures (c.node_name-name.ensures ∙ element_name x) c.has_writer.ensures c.if-flags-has_writer.false)) (below-wrote a.self.now.skip a.levels (unpacked a.bits) anc x h c.node_end-to.ensures c.siblings.ensures.writes_forest) (ap (wrote c.siblings.new.text) c.in_err-siblings.was) });
    }

pub inside-returns : goal.inside-returns
inside-returns t c =
    let a = c.args in record {
      room = room_on (c.siblings.ensures.room) (leaf_room c.closed.ensures);
      kept = kept_in (omega arith) (omega (arith, c.node_end-to.ensures)) c.siblings.ensures.kept;
      writes_element = record {
        for = λ name attrs kids anc x h. both-done a.text.now.room.now a.text.now.len c.args.text.now.fits (in_element (self_at a.self.now.skip a.levels) anc (unpacked a.bits) name attrs kids) ((self_at a.self.now.skip a.levels).below (attrs ∷ anc) (unpacked a.bits) kids) (closed (unpacked a.bits) (tag_of name)) (inside_plain (self_at c.args.self.now.skip c.args.levels) anc (unpacked c.args.bits) name attrs kids (bytes c.args.text.now) (writer_wanted name c.opts-flags.ensures (c.node_name-name.ensures ∙ element_name x) c.has_writer.ensures c.if-flags-has_writer.false)) (below-wrote a.self.now.skip a.levels (unpacked a.bits) anc x h c.node_end-to.ensures c.siblings.ensures.writes_forest) (ap (wrote c.siblings.new.text) c.in_ok-siblings.was)
            (subst (λ (o : FormatOpts). Writes (length c.siblings.new.text.room.now) c.closed.new.text.room.now (wrote c.closed.new.text c.closed.result) (closed o (tag_of name) (bytes c.siblings.new.text))) c.opts.ensures
            (subst (λ (k : ℕ). Writes (length c.siblings.new.text.room.now) c.closed.new.text.room.now (wrote c.closed.new.text c.closed.result) (closed c.opts.result k (bytes c.siblings.new.text))) (c.node_name-name.ensures ∙ element_name x) c.closed.ensures.writes));
      };
    }

pub item-node_end-to-requires : goal.item-node_end-to-requires
item-node_end-to-requires t c =
    (node_stands c.requires.0).inside

pub item-returns-then-not-li : goal.item-returns-then-not-li
item-returns-then-not-li t c =
    let a = c.args in
    let skips = tags_to_skip (skip_of a.self.now.skip) in record {
      room = c.write.ensures.room;
      kept = kept_in (omega arith) (omega (arith, c.node_end-to.ensures)) c.write.ensures.kept;
      writes_forest = record {
        for = λ parent f anc h x.
            alike (head_other skips a.levels anc a.ctx.now (bytes a.text.now) a.self.now.sheet.now a.nodes.now parent a.c f h c.requires.0.later (sym c.requires.1 ∙ c.if-not-li.true)
            ∙ ap (λ (o : FormatOpts). write_at skips a.levels anc o f (bytes a.text.now)) (sym (c.of.ensures ∙ (c.include_node-inner.ensures ∙ ap include_node c.fresh.ensures))))
            (c.write.ensures.writes_forest.for parent f anc (subst (λ (e : ℕ). Rep a.self.now.sheet.now a.nodes.now parent a.c e f) (sym c.node_end-to.ensures) h) x);
      };
      ctx_value = sym (ap (λ (b : Bool). cond b (advance_ol_number a.ctx.now) a.ctx.now) (c.if-not-li.true));
    }

pub item-has_blocks-requires : goal.item-has_blocks-requires
item-has_blocks-requires t c =
    let k = placed_kids (item_placed c.requires.0 (eqb-true _ 16 (sym c.requires.1 ∙ c.if-not-li.false))) c.node_end-to.ensures in
    (k.parent, k.forest, k.rep)

pub item-blocks-requires : goal.item-blocks-requires
item-blocks-requires t c =
    (falls_in c.args.levels c.decreases (lit< tt), (item_placed c.requires.0 (eqb-true _ 16 (sym c.requires.1 ∙ c.if-not-li.false)), c.requires.2))

pub item-flat-requires : goal.item-flat-requires
item-flat-requires t c =
    (falls_in c.args.levels c.decreases (lit< tt), (item_placed c.requires.0 (eqb-true _ 16 (sym c.requires.1 ∙ c.if-not-li.false)), c.requires.2))

pub item-returns-then-has_blocks : goal.item-returns-then-has_blocks
item-returns-then-has_blocks t c =
    let a = c.args in record {
      room = c.blocks-then-has_blocks.ensures.room;
      kept = c.blocks-then-has_blocks.ensures.kept;
      writes_forest = head_item c.requires.0 (eqb-true _ 16 (sym c.requires.1 ∙ c.if-not-li.false)) (self_at a.self.now.skip a.levels) a.ctx.now true c.node_end-to.ensures (λ parent f h. sym c.if-has_blocks.true ∙ c.has_blocks.ensures parent f h) c.blocks-then-has_blocks.ensures.writes_element;
      ctx_value = c.blocks-then-has_blocks.ensures.ctx_value ∙ sym (ap (λ (b : Bool). cond b (advance_ol_number a.ctx.now) a.ctx.now) (c.if-not-li.false));
    }

pub item-returns : goal.item-returns
item-returns t c =
    let a = c.args in record {
      room = c.flat.ensures.room;
      kept = c.flat.ensures.kept;
      writes_forest = head_item c.requires.0 (eqb-true _ 16 (sym c.requires.1 ∙ c.if-not-li.false)) (self_at a.self.now.skip a.levels) a.ctx.now false c.node_end-to.ensures (λ parent f h. sym c.if-has_blocks.false ∙ c.has_blocks.ensures parent f h) c.flat.ensures.writes_element;
      ctx_value = c.flat.ensures.ctx_value ∙ sym (ap (λ (b : Bool). cond b (advance_ol_number a.ctx.now) a.ctx.now) (c.if-not-li.false));
    }

pub items-loop-c-init : goal.items-loop-c-init
items-loop-c-init t c = (
  room_same c.args.text.now,
  kept_none c.args.nodes.now,
  omega arith,
  c.requires.0,
  c.requires.1,
  turn_first c.args.self.now.sheet.now c.args.nodes.now c.args.from c.args.to (λ anc f. list_children (self_at c.args.self.now.skip c.args.levels) anc f c.args.first) c.args.text.now.room.now c.args.text.now.len c.args.text.now.fits,
)

pub items-field-field-requires : goal.items-field-field-requires
items-field-field-requires t c =
    let n = node_stands (node_kept c.loop-c.invariant.1 (placeds_first c.loop-c.invariant.3 c.loop-c-test.true)) in (n.inside, n.placed)

pub items-node_name-li-requires : goal.items-node_name-li-requires
items-node_name-li-requires t c =
    node_stands (node_kept c.loop-c.invariant.1 (placeds_first c.loop-c.invariant.3 c.loop-c-test.true))

pub items-item-requires : goal.items-item-requires
items-item-requires t c =
    let fits = fits_child c.args.levels (eqb c.node_name-li.result 16) (number_of (attr (ascii "value") (attrs_of c.field-field.result))) c.loop-c.ctx c.renumbered-ctx.result c.renumbered-ctx.ensures c.loop-c.invariant.4 in
    (falls_in c.args.levels c.decreases (lit< tt), (node_kept c.loop-c.invariant.1 (placeds_first c.loop-c.invariant.3 c.loop-c-test.true), ap (λ (k : ℕ). eqb k 16) c.node_name-li.ensures, fits))

pub items-returns-in_err-item : goal.items-returns-in_err-item
items-returns-in_err-item t c =
    let self = self_at c.args.self.now.skip c.args.levels in
    let next = cond (eqb c.node_name-li.result 16) (advance_ol_number c.renumbered-ctx.result) c.renumbered-ctx.result in record {
      room = room_on (c.loop-c.invariant.0) (c.item.ensures.room);
      kept = kept_on c.loop-c.invariant.1 c.loop-c.invariant.2 c.loop-c.invariant.3 c.loop-c-test.true c.item.ensures.kept;
      writes_forest = stops_forest (wrote_err _ _ c.from_residual.ensures.0) (record {
        for = λ parent f anc h a.
            turn_stop c.loop-c.invariant.5 (λ anc f. list_head self anc f c.renumbered-ctx.result) (λ anc f. list_children self anc f next) (λ parent anc g h u. list_first (self_at c.args.self.now.skip c.args.levels) anc c.loop-c.ctx u c.args.self.now.sheet.now c.args.nodes.now parent c.loop-c.c c.args.to g h c.loop-c-test.true (place_at c.loop-c.nodes c.loop-c.c) (eqb c.node_name-li.result 16) c.renumbered-ctx.result next (place_kept c.loop-c.invariant.1 c.loop-c.c) (ap (λ (j : ℕ). eqb j 16) (c.node_name-li.ensures ∙ ap (name_at c.args.self.now.sheet.now) (place_kept c.loop-c.invariant.1 c.loop-c.c))) (c.renumbered-ctx.ensures ∙ of_node (λ (b : Bytes) (p : ℕ). cond (eqb c.node_name-li.result 16) (renumbered c.loop-c.ctx.kind (number_of (attr (ascii "value") (attrs_behind b p))) c.loop-c.ctx) c.loop-c.ctx) c.field-field.ensures) refl) c.loop-c-test.true (writes_before c.loop-c.invariant.1 c.item.ensures.writes_forest) (ap (wrote c.item.new.text) c.in_err-item.was) parent f anc h a;
      });
    }

pub items-node_end-c-requires : goal.items-node_end-c-requires
items-node_end-c-requires t c =
    omega (arith, (placeds_at c.loop-c.invariant.3 c.loop-c-test.true).inside, (kept_on c.loop-c.invariant.1 c.loop-c.invariant.2 c.loop-c.invariant.3 c.loop-c-test.true c.item.ensures.kept).long)

pub items-loop-c-smaller : goal.items-loop-c-smaller
items-loop-c-smaller t c =
    omega (arith, placeds_later c.loop-c.invariant.3 c.loop-c-test.true, c.node_end-c.ensures, end_kept (kept_on c.loop-c.invariant.1 c.loop-c.invariant.2 c.loop-c.invariant.3 c.loop-c-test.true c.item.ensures.kept) c.loop-c.c, c.loop-c-test.true)

pub items-loop-c-preserved : goal.items-loop-c-preserved
items-loop-c-preserved t c =
    let fits = fits_child c.args.levels (eqb c.node_name-li.result 16) (number_of (attr (ascii "value") (attrs_of c.field-field.result))) c.loop-c.ctx c.renumbered-ctx.result c.renumbered-ctx.ensures c.loop-c.invariant.4 in
    let l = c.loop-c in
    let lt = c.loop-c-test.true in
    let K = kept_on c.loop-c.invariant.1 c.loop-c.invariant.2 c.loop-c.invariant.3 c.loop-c-test.true c.item.ensures.kept in
    let q = c.node_end-c.ensures ∙ end_kept K l.c in
    let self = self_at c.args.self.now.skip c.args.levels in (
      room_on l.invariant.0 c.item.ensures.room,
      K,
      omega (arith, placeds_later l.invariant.3 lt, l.invariant.2, q),
      subst (λ (k : ℕ). Placeds c.args.self.now.sheet.now c.args.nodes.now k c.args.to) (sym q) (placeds_on l.invariant.3 lt),
      fits_behind c.args.levels (eqb c.node_name-li.result 16) c.renumbered-ctx.result c.item.new.ctx c.item.ensures.ctx_value fits,
      turn_on l.invariant.5 (λ anc f. list_head self anc f c.renumbered-ctx.result) (λ anc f. list_children self anc f c.item.new.ctx) (λ parent anc g h u. list_first (self_at c.args.self.now.skip c.args.levels) anc c.loop-c.ctx u c.args.self.now.sheet.now c.args.nodes.now parent c.loop-c.c c.args.to g h c.loop-c-test.true (place_at c.loop-c.nodes c.loop-c.c) (eqb c.node_name-li.result 16) c.renumbered-ctx.result c.item.new.ctx (place_kept c.loop-c.invariant.1 c.loop-c.c) (ap (λ (j : ℕ). eqb j 16) (c.node_name-li.ensures ∙ ap (name_at c.args.self.now.sheet.now) (place_kept c.loop-c.invariant.1 c.loop-c.c))) (c.renumbered-ctx.ensures ∙ of_node (λ (b : Bytes) (p : ℕ). cond (eqb c.node_name-li.result 16) (renumbered c.loop-c.ctx.kind (number_of (attr (ascii "value") (attrs_behind b p))) c.loop-c.ctx) c.loop-c.ctx) c.field-field.ensures) c.item.ensures.ctx_value) lt (writes_before c.loop-c.invariant.1 c.item.ensures.writes_forest) q (ap (wrote c.item.new.text) c.in_ok-item.was),
    )

pub items-returns : goal.items-returns
items-returns t c =
    let l = c.loop-c in record {
      room = c.loop-c.invariant.0;
      kept = l.invariant.1;
      writes_forest = record {
        for = λ parent f anc h a.
            turn_last l.invariant.5 c.loop-c-test.false (λ anc u. list_none (self_at c.args.self.now.skip c.args.levels) anc l.ctx u) parent f anc h a;
      };
    }

pub kids-is_one_text-requires : goal.kids-is_one_text-requires
kids-is_one_text-requires t c =
    let p = placed_kids c.requires.0 c.node_end-to.ensures in
    (rep_le c.args.self.now.sheet.now c.args.nodes.now p.parent (c.args.at + 1) c.node_end-to.result p.forest p.rep, λ l. placeds_at p l)

pub kids-trim_behind_text-requires : goal.kids-trim_behind_text-requires
kids-trim_behind_text-requires t c =
    placeds_at (placed_kids c.requires.0 c.node_end-to.ensures) (omega (arith, (c.is_one_text.ensures (some_one c.args.levels c.is_one_text.result c.if-levels-is_one_text.true).1).0))

pub kids-returns-then-levels-is_one_text : goal.kids-returns-then-levels-is_one_text
unfolding serializer
kids-returns-then-levels-is_one_text t c =
    let a = c.args in
    let u = c.opts in
    let b = some_one a.levels c.is_one_text.result c.if-levels-is_one_text.true in
    let o = c.is_one_text.ensures b.1 in record {
      room = leaf_room c.trim_behind_text.ensures;
      kept = kept_none a.nodes.now;
      writes_element = record {
        for = λ name attrs kids anc x h.
            alike (ap (λ (o : FormatOpts). write_kids (self_at a.self.now.skip a.levels) anc o (element name attrs kids nothing) (bytes a.text.now)) (sym u.ensures)
            ∙ kids_is (self_at a.self.now.skip a.levels) anc u.result name attrs kids (bytes a.text.now)
            ∙ ap (λ (z : Out). and_then z trim_space) (write_some (tags_to_skip (skip_of a.self.now.skip)) a.levels (attrs ∷ anc) u.result kids (bytes a.text.now) b.0
            ∙ one_is a.self.now.sheet.now a.nodes.now a.at (a.at + 1) c.node_end-to.result o.0 o.1 (self_at a.self.now.skip (a.levels - 1)) (attrs ∷ anc) u.result (bytes a.text.now) kids (element_kids x c.node_end-to.ensures)))
            c.trim_behind_text.ensures.writes;
      };
    }

pub kids-write-requires : goal.kids-write-requires
kids-write-requires t c =
    (falls_in c.args.levels c.decreases (lit< tt), (placed_kids c.requires.0 c.node_end-to.ensures, c.requires.1))

pub kids-returns-in_err-write : goal.kids-returns-in_err-write
kids-returns-in_err-write t c =
    let a = c.args in record {
      room = c.write.ensures.room;
      kept = kept_in (omega arith) (omega (arith, c.node_end-to.ensures)) c.write.ensures.kept;
      writes_element = stops_element (wrote_err _ _ c.from_residual.ensures.0) (record { for = λ name attrs kids anc x h. both-full a.text.now.room.now a.text.now.len c.args.text.now.fits (write_kids (self_at a.self.now.skip a.levels) anc (unpacked a.bits) (element name attrs kids nothing)) ((self_at a.self.now.skip a.levels).below (attrs ∷ anc) (unpacked a.bits) kids) trim_space (kids_is (self_at a.self.now.skip a.levels) anc (unpacked a.bits) name attrs kids (bytes a.text.now)) (below-wrote a.self.now.skip a.levels (unpacked a.bits) anc x h c.node_end-to.ensures c.write.ensures.writes_forest) (ap (wrote c.write.new.text) c.in_err-write.was) });
    }

pub kids-returns : goal.kids-returns
kids-returns t c =
    let a = c.args in record {
      room = room_on (c.write.ensures.room) (leaf_room c.trim_space.ensures);
      kept = kept_in (omega arith) (omega (arith, c.node_end-to.ensures)) c.write.ensures.kept;
      writes_element = record { for = λ name attrs kids anc x h. both-done a.text.now.room.now a.text.now.len c.args.text.now.fits (write_kids (self_at a.self.now.skip a.levels) anc (unpacked a.bits) (element name attrs kids nothing)) ((self_at a.self.now.skip a.levels).below (attrs ∷ anc) (unpacked a.bits) kids) trim_space (kids_is (self_at a.self.now.skip a.levels) anc (unpacked a.bits) name attrs kids (bytes a.text.now)) (below-wrote a.self.now.skip a.levels (unpacked a.bits) anc x h c.node_end-to.ensures c.write.ensures.writes_forest) (ap (wrote c.write.new.text) c.in_ok-write.was) c.trim_space.ensures.writes };
    }

pub led-returns : goal.led-returns
led-returns t c =
    record {
      room = room_on (leaf_room c.push_block_lead.ensures) (room_on (c.flow.ensures.room) (leaf_room c.push_linebreak.ensures));
      kept = c.flow.ensures.kept;
      writes_element = led_done c.args.self.now.sheet.now c.args.nodes.now c.args.c c.requires.1 (self_at c.args.self.now.skip c.args.levels) (item_of c.args.item) c.args.first c.args.text.now.room.now c.args.text.now.len c.args.text.now.fits c.push_block_lead.ensures.writes (ap (wrote c.push_block_lead.new.text) c.in_ok-push_block_lead.was) c.flow.ensures.writes_element (ap (wrote c.flow.new.text) c.in_ok-flow.was) c.push_linebreak.ensures.writes;
    }

pub led-returns-in_err-flow : goal.led-returns-in_err-flow
led-returns-in_err-flow t c =
    record {
      room = room_on (leaf_room c.push_block_lead.ensures) (c.flow.ensures.room);
      kept = c.flow.ensures.kept;
      writes_element = stops_element (wrote_err _ _ c.from_residual-in_err-flow.ensures.0) (led_full c.args.self.now.sheet.now c.args.nodes.now c.args.c c.requires.1 (self_at c.args.self.now.skip c.args.levels) (item_of c.args.item) c.args.first c.args.text.now.room.now c.args.text.now.len c.args.text.now.fits c.push_block_lead.ensures.writes (ap (wrote c.push_block_lead.new.text) c.in_ok-push_block_lead.was) c.flow.ensures.writes_element (ap (wrote c.flow.new.text) c.in_err-flow.was));
    }

pub led-returns-in_err-push_block_lead : goal.led-returns-in_err-push_block_lead
led-returns-in_err-push_block_lead t c =
    record {
      room = leaf_room c.push_block_lead.ensures;
      kept = kept_none c.args.nodes.now;
      writes_element = stops_element (wrote_err _ _ c.from_residual.ensures.0) (led_none c.args.self.now.sheet.now c.args.nodes.now c.args.c c.requires.1 (self_at c.args.self.now.skip c.args.levels) (item_of c.args.item) c.args.first c.args.text.now.room.now c.args.text.now.len c.args.text.now.fits c.push_block_lead.ensures.writes (ap (wrote c.push_block_lead.new.text) c.in_err-push_block_lead.was));
    }

pub link-returns-then-has_element : goal.link-returns-then-has_element
link-returns-then-has_element t c =
    let a = c.args in
    let href = a.dest.now in record {
      room = c.body.ensures.room;
      kept = c.body.ensures.kept;
      writes_element = record {
        for = λ name attrs kids anc x h.
            alike (to_image (self_at a.self.now.skip a.levels) anc a.opts href name attrs kids (bytes a.text.now) (sym (c.has_element.ensures a.at kids (element_kids x c.node_end-end.ensures)) ∙ c.if-has_element.true))
            (subst (λ (o : FormatOpts). Writes (length a.text.now.room.now) c.body.new.text.room.now (wrote c.body.new.text c.body.result) (link_of attrs href (write_kids (self_at a.self.now.skip a.levels) anc o (element name attrs kids nothing) []) push (bytes a.text.now))) (c.link_body.ensures ∙ ap link_body c.fresh-fresh.ensures) (c.body.ensures.writes_element.for name attrs kids anc x h));
      };
    }

pub link-body-requires-then-n-eq0 : goal.link-body-requires-then-n-eq0
link-body-requires-then-n-eq0 t c =
    let written = shown_below c.args.opts c.fresh-fresh.ensures c.include_node.ensures c.skip_escape-plain.ensures c.node_end-end.ensures c.write_text_behind.ensures in
    let a = c.args in
    let p = c.requires.0 in
    let w = done c.in_ok-n.was (written _ _ _ p.0.3) in
    (falls_in a.levels c.decreases (lit< tt), (p, subst (λ (o : FormatOpts). Fits o a.levels) (sym c.fresh-fresh.ensures) (omega (arith, c.requires.1)), c.requires.2))

pub link-returns-then-n-eq0 : goal.link-returns-then-n-eq0
link-returns-then-n-eq0 t c =
    let written = shown_below c.args.opts c.fresh-fresh.ensures c.include_node.ensures c.skip_escape-plain.ensures c.node_end-end.ensures c.write_text_behind.ensures in
    let no_image = no_image_below c.node_end-end.ensures c.has_element.ensures c.if-has_element.false in
    let a = c.args in
    let href = a.dest.now in record {
      room = room_on (room_behind _ refl refl c.write_text_behind.auto.room) (c.body-then-n-eq0.ensures.room);
      kept = c.body-then-n-eq0.ensures.kept;
      writes_element = record {
        for = λ name attrs kids anc x h.
            let w = done c.in_ok-n.was (written _ _ _ x) in
            alike (to_body (self_at a.self.now.skip a.levels) anc a.opts href name attrs kids (bytes a.text.now) (no_image _ _ _ x) (null_none (shown_text a.opts kids).text (sym w.count ∙ c.if-n-eq0.true)))
            (subst₂ (λ (k : ℕ) (u : Bytes). Writes k c.body-then-n-eq0.new.text.room.now (wrote c.body-then-n-eq0.new.text c.body-then-n-eq0.result) (link_of attrs href (write_kids (self_at a.self.now.skip a.levels) anc (fresh a.opts) (element name attrs kids nothing) []) push u)) (back_length a.text.now.room.now a.text.now.len c.args.text.now.fits (shown_text a.opts kids) w) (back_text a.text.now.room.now a.text.now.len c.args.text.now.fits (shown_text a.opts kids) w)
            (subst (λ (o : FormatOpts). Writes (length (back a.text.now.room.now a.text.now.len c.write_text_behind.new.room)) c.body-then-n-eq0.new.text.room.now (wrote c.body-then-n-eq0.new.text c.body-then-n-eq0.result) (link_of attrs href (write_kids (self_at a.self.now.skip a.levels) anc o (element name attrs kids nothing) []) push (take a.text.now.len (back a.text.now.room.now a.text.now.len c.write_text_behind.new.room)))) c.fresh-fresh.ensures (c.body-then-n-eq0.ensures.writes_element.for name attrs kids anc x h)));
      };
    }

pub link-returns : goal.link-returns
link-returns t c =
    let written = shown_below c.args.opts c.fresh-fresh.ensures c.include_node.ensures c.skip_escape-plain.ensures c.node_end-end.ensures c.write_text_behind.ensures in
    let no_image = no_image_below c.node_end-end.ensures c.has_element.ensures c.if-has_element.false in
    let a = c.args in
    let href = a.dest.now in record {
      room = room_on (room_behind _ refl refl c.write_text_behind.auto.room) (leaf_room c.push_text_link.ensures);
      kept = kept_none a.nodes.now;
      writes_element = record {
        for = λ name attrs kids anc x h.
            let w = done c.in_ok-n.was (written _ _ _ x) in
            alike (to_text (self_at a.self.now.skip a.levels) anc a.opts href name attrs kids (bytes a.text.now) (no_image _ _ _ x) (null_more (shown_text a.opts kids).text (λ z. c.if-n-eq0.false (w.count ∙ z))))
            (nest-done a.text.now.room.now a.text.now.len c.args.text.now.fits (written _ _ _ x) (λ z. text_link_step a.opts attrs href z) c.in_ok-n.was
            (subst (λ (l : List Attr). Writes (length (back a.text.now.room.now a.text.now.len c.write_text_behind.new.room)) c.push_text_link.new.text.room.now (wrote c.push_text_link.new.text c.push_text_link.result) (text_link_step a.opts l href (take c.in_ok-n.n (drop a.text.now.len (back a.text.now.room.now a.text.now.len c.write_text_behind.new.room))) (take a.text.now.len (back a.text.now.room.now a.text.now.len c.write_text_behind.new.room)))) (of_node attrs_behind c.field-field.ensures ∙ sym x.attrs_are) c.push_text_link.ensures.writes));
      };
    }

pub link-returns-in_err-n : goal.link-returns-in_err-n
link-returns-in_err-n t c =
    let no_image = no_image_below c.node_end-end.ensures c.has_element.ensures c.if-has_element.false in
    let written = shown_below c.args.opts c.fresh-fresh.ensures c.include_node.ensures c.skip_escape-plain.ensures c.node_end-end.ensures c.write_text_behind.ensures in
    let a = c.args in
    let href = a.dest.now in record {
      room = room_behind _ refl refl c.write_text_behind.auto.room;
      kept = kept_none a.nodes.now;
      writes_element = stops_element (wrote_err _ _ c.from_residual.ensures.0) (record {
        for = λ name attrs kids anc x h.
            alike (to_text (self_at a.self.now.skip a.levels) anc a.opts href name attrs kids (bytes a.text.now) (no_image _ _ _ x) (shown_null (shown_text a.opts kids) (text_grown (skip_escape (include_node (fresh a.opts))) kids []) (full c.in_err-n.was (written _ _ _ x))))
            (nest-full a.text.now.room.now a.text.now.len c.args.text.now.fits (written _ _ _ x) (text_link_step a.opts attrs href (shown_text a.opts kids).text) c.in_err-n.was);
      });
    }

pub node-field-field-requires : goal.node-field-field-requires
node-field-field-requires t c =
    let n = node_stands c.requires.0 in (n.inside, n.placed)

pub node-node_is_skipped-requires : goal.node-node_is_skipped-requires
node-node_is_skipped-requires t c =
    node_stands c.requires.0

pub node-write_text_node-requires : goal.node-write_text_node-requires
node-write_text_node-requires t c =
    node_stands c.requires.0

pub node-returns-then-tag-ne-OPEN : goal.node-returns-then-tag-ne-OPEN
node-returns-then-tag-ne-OPEN t c =
    let a = c.args in
    let u = c.opts in
    record {
      room = leaf_room c.write_text_node.ensures;
      kept = kept_none a.nodes.now;
      writes_forest = record { for = λ parent f anc h q. alike (ap (λ (o : FormatOpts). write_nodes (self_at a.self.now.skip a.levels) anc o f (bytes a.text.now)) (sym u.ensures) ∙ node_text a.self.now.sheet.now a.nodes.now parent a.at c.requires.0.later (self_at a.self.now.skip a.levels) anc u.result (bytes a.text.now) f h (λ e. c.if-tag-ne-OPEN.true (tag_of_node c.field-field.ensures c.tag.ensures ∙ e))) c.write_text_node.ensures.writes };
    }

pub node-returns-then-node_is_skipped : goal.node-returns-then-node_is_skipped
unfolding serializer
node-returns-then-node_is_skipped t c =
    let tagged = sym (tag_of_node c.field-field.ensures c.tag.ensures) ∙ c.if-tag-ne-OPEN.false in
    let a = c.args in record {
      room = room_same c.args.text.now;
      kept = kept_none a.nodes.now;
      writes_forest = record {
        for = λ parent f anc h q.
            alike (ap (λ (g : Forest). write_nodes (self_at a.self.now.skip a.levels) anc (unpacked a.bits) g (bytes a.text.now)) (alone_element a.self.now.sheet.now a.nodes.now parent a.at c.requires.0.later f h tagged)
            ∙ element_skipped (self_at a.self.now.skip a.levels) anc (unpacked a.bits) (body_at a.self.now.sheet.now (place_at a.nodes.now a.at)) (attrs_behind a.self.now.sheet.now (place_at a.nodes.now a.at)) (kids_of f) (bytes a.text.now) ((sym (first_skipped c.args.self.now.sheet.now (place_at c.args.nodes.now c.args.at) (tags_to_skip (skip_of c.args.self.now.skip)) tagged) ∙ sym c.node_is_skipped.ensures) ∙ c.if-node_is_skipped.true))
            (record { says = keeps a.text.now.room.now a.text.now.len c.args.text.now.fits });
      };
    }

pub node-opened-requires : goal.node-opened-requires
node-opened-requires t c =
    (node_placed c.requires.0 (sym (tag_of_node c.field-field.ensures c.tag.ensures) ∙ c.if-tag-ne-OPEN.false)).0

pub node-inside-requires : goal.node-inside-requires
node-inside-requires t c =
    let p = node_placed c.requires.0 (sym (tag_of_node c.field-field.ensures c.tag.ensures) ∙ c.if-tag-ne-OPEN.false) in
    (falls_in c.args.levels c.decreases (lit< tt), (p, c.requires.1))

pub node-returns : goal.node-returns
unfolding serializer
node-returns t c =
    let tagged = sym (tag_of_node c.field-field.ensures c.tag.ensures) ∙ c.if-tag-ne-OPEN.false in
    let a = c.args in
    let name = body_at a.self.now.sheet.now (place_at a.nodes.now a.at) in
    let attrs = attrs_behind a.self.now.sheet.now (place_at a.nodes.now a.at) in record {
      room = room_on (let e = (node_placed c.requires.0 tagged).0 in leaf_room (c.opened.ensures e.0 e.1 e.2 e.3)) (c.inside.ensures.room);
      kept = c.inside.ensures.kept;
      writes_forest = record {
        for = λ parent f anc h q.
            both-done a.text.now.room.now a.text.now.len c.args.text.now.fits (write_nodes (self_at a.self.now.skip a.levels) anc (unpacked a.bits) f) (opened (unpacked a.bits) (tag_of name) attrs (kids_of f))
            (in_element (self_at a.self.now.skip a.levels) anc (unpacked a.bits) name attrs (kids_of f)) (node_goes (self_at a.self.now.skip a.levels) anc (unpacked a.bits) (bytes a.text.now) a.self.now.sheet.now a.nodes.now parent a.at c.requires.0.later f h tagged (sym (first_skipped c.args.self.now.sheet.now (place_at c.args.nodes.now c.args.at) (tags_to_skip (skip_of c.args.self.now.skip)) tagged) ∙ sym c.node_is_skipped.ensures ∙ c.if-node_is_skipped.false)) (opened_as (tag_of name) attrs (kids_of f) (bytes a.text.now) c.opts-2.ensures (c.opened.ensures name attrs (kids_of f) (node_element a.self.now.sheet.now a.nodes.now parent a.at (end_at a.nodes.now a.at) f h c.requires.0.later c.requires.0.alone.positive tagged)).writes) (ap (wrote c.opened.new.text) c.in_ok-opened.was)
            (alone_writes c.requires.0 tagged c.inside.ensures.writes_element parent f anc h q);
      };
    }

pub node-returns-in_err-opened : goal.node-returns-in_err-opened
unfolding serializer
node-returns-in_err-opened t c =
    let tagged = sym (tag_of_node c.field-field.ensures c.tag.ensures) ∙ c.if-tag-ne-OPEN.false in
    let a = c.args in
    let name = body_at a.self.now.sheet.now (place_at a.nodes.now a.at) in
    let attrs = attrs_behind a.self.now.sheet.now (place_at a.nodes.now a.at) in record {
      room = let e = (node_placed c.requires.0 tagged).0 in leaf_room (c.opened.ensures e.0 e.1 e.2 e.3);
      kept = kept_none a.nodes.now;
      writes_forest = stops_forest (wrote_err _ _ c.from_residual.ensures.0) (record {
        for = λ parent f anc h q.
            both-full a.text.now.room.now a.text.now.len c.args.text.now.fits (write_nodes (self_at a.self.now.skip a.levels) anc (unpacked a.bits) f) (opened (unpacked a.bits) (tag_of name) attrs (kids_of f))
            (in_element (self_at a.self.now.skip a.levels) anc (unpacked a.bits) name attrs (kids_of f)) (node_goes (self_at a.self.now.skip a.levels) anc (unpacked a.bits) (bytes a.text.now) a.self.now.sheet.now a.nodes.now parent a.at c.requires.0.later f h tagged (sym (first_skipped c.args.self.now.sheet.now (place_at c.args.nodes.now c.args.at) (tags_to_skip (skip_of c.args.self.now.skip)) tagged) ∙ sym c.node_is_skipped.ensures ∙ c.if-node_is_skipped.false)) (opened_as (tag_of name) attrs (kids_of f) (bytes a.text.now) c.opts-2.ensures (c.opened.ensures name attrs (kids_of f) (node_element a.self.now.sheet.now a.nodes.now parent a.at (end_at a.nodes.now a.at) f h c.requires.0.later c.requires.0.alone.positive tagged)).writes) (ap (wrote c.opened.new.text) c.in_err-opened.was);
      });
    }

pub row-loop-c-init : goal.row-loop-c-init
row-loop-c-init t c =
    let a = c.args in
    (room_same a.text.now, row_start (serializer (tags_to_skip (skip_of a.self.now.skip)) a.levels) a.opts c.requires.0 c.node_end-to.ensures c.next_cell-c.ensures.later c.next_cell-c.ensures.cells a.text.now.room.now a.text.now.len c.args.text.now.fits)

pub row-cell-requires : goal.row-cell-requires
row-cell-requires t c =
    (falls_in c.args.levels c.decreases (lit< tt), (row_placed c.loop-c.invariant.1 c.loop-c-test.true, c.requires.1))

pub row-store_span-requires : goal.row-store_span-requires
row-store_span-requires t c =
    omega (arith, row_inside c.loop-c.invariant.1 c.loop-c-test.true, c.cell.ensures.kept.long)

pub row-overflow_add-text : goal.row-overflow_add-text
row-overflow_add-text t c =
    let p = c.loop-c.invariant.1 in
    let w = done c.in_ok-n.was (row_writes p c.loop-c-test.true c.cell.ensures.writes p.some.0 p.some.1) in
    omega (arith, temp_fits c.loop-c.text.room.now c.loop-c.text.len (row_reach p) _ w, back_length c.loop-c.text.room.now c.loop-c.text.len (row_reach p) _ w, row_long p, c.well_formed)

pub row-returns-in_err-n : goal.row-returns-in_err-n
row-returns-in_err-n t c =
    let p = c.loop-c.invariant.1 in
    record {
      room = room_on (c.loop-c.invariant.0) (room_behind _ refl refl c.cell.auto.room);
      kept = row_kept p c.loop-c-test.true c.cell.ensures.kept;
      row_writes = λ cells x. stops_row (wrote_err _ _ c.from_residual.ensures.0) (row_stop p c.loop-c-test.true (row_writes p c.loop-c-test.true c.cell.ensures.writes) c.in_err-n.was _ _ cells x);
    }

pub row-node_end-after-requires : goal.row-node_end-after-requires
row-node_end-after-requires t c =
    omega (arith, row_inside c.loop-c.invariant.1 c.loop-c-test.true, c.cell.ensures.kept.long, c.store_span.ensures.0.long)

pub row-next_cell-c-requires-in-loop-c : goal.row-next_cell-c-requires-in-loop-c
row-next_cell-c-requires-in-loop-c t c =
    row_behind c.loop-c.invariant.1 c.loop-c-test.true c.cell.ensures.kept c.store_span.ensures.0 c.node_end-after.ensures

pub row-loop-c-smaller : goal.row-loop-c-smaller
row-loop-c-smaller t c =
    omega (arith, row_later c.loop-c.invariant.1 c.loop-c-test.true c.cell.ensures.kept c.store_span.ensures.0 c.node_end-after.ensures, c.next_cell-c-in-loop-c.ensures.later, c.loop-c-test.true)

pub row-loop-c-preserved : goal.row-loop-c-preserved
row-loop-c-preserved t c =
    let p = c.loop-c.invariant.1 in
    (room_on c.loop-c.invariant.0 (room_behind _ refl refl c.cell.auto.room), row_on p c.loop-c-test.true (row_writes p c.loop-c-test.true c.cell.ensures.writes) c.in_ok-n.was c.cell.ensures.kept c.store_span.ensures.0 c.store_span.ensures.2 c.node_end-after.ensures c.next_cell-c-in-loop-c.ensures.later c.next_cell-c-in-loop-c.ensures.cells)

pub row-returns : goal.row-returns
row-returns t c =
    record {
      room = c.loop-c.invariant.0;
      kept = subst (λ (j : ℕ). Kept (c.args.tr + 1) j c.args.nodes.now c.loop-c.nodes) c.loop-c.invariant.1.to_is c.loop-c.invariant.1.kept;
      row_writes = row_end c.loop-c.invariant.1 c.loop-c-test.false;
    }

pub siblings-is_one_text-requires : goal.siblings-is_one_text-requires
siblings-is_one_text-requires t c =
    let p = c.requires.0 in
    (rep_le c.args.self.now.sheet.now c.args.nodes.now p.parent c.args.from c.args.to p.forest p.rep, λ l. placeds_at p l)

pub siblings-write_text_node-requires : goal.siblings-write_text_node-requires
siblings-write_text_node-requires t c =
    placeds_at c.requires.0 (omega (arith, (c.is_one_text.ensures (some_one c.args.levels c.is_one_text.result c.if-levels-is_one_text.true).1).0))

pub siblings-returns-then-levels-is_one_text : goal.siblings-returns-then-levels-is_one_text
siblings-returns-then-levels-is_one_text t c =
    let a = c.args in
    let u = c.opts in
    let b = some_one a.levels c.is_one_text.result c.if-levels-is_one_text.true in
    let o = c.is_one_text.ensures b.1 in record {
      room = leaf_room c.write_text_node.ensures;
      kept = kept_none a.nodes.now;
      writes_forest = record {
        for = λ parent f anc h q.
            alike (ap (λ (o : FormatOpts). write_at (tags_to_skip (skip_of a.self.now.skip)) a.levels anc o f (bytes a.text.now)) (sym u.ensures)
            ∙ write_some (tags_to_skip (skip_of a.self.now.skip)) a.levels anc u.result f (bytes a.text.now) b.0
            ∙ one_is a.self.now.sheet.now a.nodes.now parent a.from a.to o.0 o.1 (self_at a.self.now.skip (a.levels - 1)) anc u.result (bytes a.text.now) f h)
            c.write_text_node.ensures.writes;
      };
    }

pub siblings-returns : goal.siblings-returns
siblings-returns t c =
    c.write.ensures

pub write-returns-then-levels-eq0 : goal.write-returns-then-levels-eq0
write-returns-then-levels-eq0 t c =
    record {
      room = room_same c.args.text.now;
      kept = kept_none c.args.nodes.now;
      writes_forest = record { for = λ parent f anc h a. alike (write_none (tags_to_skip (skip_of c.args.self.now.skip)) c.args.levels anc (unpacked c.args.bits) f (bytes c.args.text.now) c.if-levels-eq0.true) (record { says = keeps c.args.text.now.room.now c.args.text.now.len c.args.text.now.fits }) };
    }

pub write-loop-at-init : goal.write-loop-at-init
write-loop-at-init t c = (
  room_same c.args.text.now,
  kept_none c.args.nodes.now,
  omega arith,
  c.requires.0,
  turn_first c.args.self.now.sheet.now c.args.nodes.now c.args.from c.args.to (λ anc f. write_nodes (self_at c.args.self.now.skip (c.args.levels - 1)) anc (unpacked c.args.bits) f) c.args.text.now.room.now c.args.text.now.len c.args.text.now.fits,
)

pub write-node-requires : goal.write-node-requires
write-node-requires t c =
    let l = c.loop-at in
    let p : 0 < c.args.levels = omega (arith, c.if-levels-eq0.false) in
    (falls_out c.args.levels c.decreases p (lit< tt), (node_kept l.invariant.1 (placeds_first l.invariant.3 c.loop-at-test.true), omega (arith, p, c.requires.1)))

pub write-returns-in_err-node : goal.write-returns-in_err-node
write-returns-in_err-node t c =
    record {
      room = room_on (c.loop-at.invariant.0) (c.node.ensures.room);
      kept = kept_on c.loop-at.invariant.1 c.loop-at.invariant.2 c.loop-at.invariant.3 c.loop-at-test.true c.node.ensures.kept;
      writes_forest = stops_forest (wrote_err _ _ c.from_residual.ensures.0) (record {
        for = λ parent f anc h a. alike (write_some (tags_to_skip (skip_of c.args.self.now.skip)) c.args.levels anc (unpacked c.args.bits) f (bytes c.args.text.now) (omega (arith, c.if-levels-eq0.false)))
            (turn_stop c.loop-at.invariant.4 (λ anc f. write_nodes (self_at c.args.self.now.skip (c.args.levels - 1)) anc (unpacked c.args.bits) f) (λ anc f. write_nodes (self_at c.args.self.now.skip (c.args.levels - 1)) anc (unpacked c.args.bits) f) (λ parent anc g h u. nodes_first (self_at c.args.self.now.skip (c.args.levels - 1)) anc (unpacked c.args.bits) g u) c.loop-at-test.true (writes_before c.loop-at.invariant.1 c.node.ensures.writes_forest) (ap (wrote c.node.new.text) c.in_err-node.was) parent f anc h a);
      });
    }

pub write-node_end-at-requires : goal.write-node_end-at-requires
write-node_end-at-requires t c =
    omega (arith, (placeds_at c.loop-at.invariant.3 c.loop-at-test.true).inside, (kept_on c.loop-at.invariant.1 c.loop-at.invariant.2 c.loop-at.invariant.3 c.loop-at-test.true c.node.ensures.kept).long)

pub write-loop-at-smaller : goal.write-loop-at-smaller
write-loop-at-smaller t c =
    omega (arith, placeds_later c.loop-at.invariant.3 c.loop-at-test.true, c.node_end-at.ensures, end_kept (kept_on c.loop-at.invariant.1 c.loop-at.invariant.2 c.loop-at.invariant.3 c.loop-at-test.true c.node.ensures.kept) c.loop-at.at, c.loop-at-test.true)

pub write-loop-at-preserved : goal.write-loop-at-preserved
write-loop-at-preserved t c =
    let l = c.loop-at in
    let lt = c.loop-at-test.true in
    let K = kept_on c.loop-at.invariant.1 c.loop-at.invariant.2 c.loop-at.invariant.3 c.loop-at-test.true c.node.ensures.kept in
    let q = c.node_end-at.ensures ∙ end_kept K l.at in
    let d = done (ap (wrote c.node.new.text) c.in_ok-node.was) (c.node.ensures.writes_forest.for (node_kept l.invariant.1 (placeds_first l.invariant.3 lt)).alone.parent (node_kept l.invariant.1 (placeds_first l.invariant.3 lt)).alone.forest (node_kept l.invariant.1 (placeds_first l.invariant.3 lt)).alone.anc (node_kept l.invariant.1 (placeds_first l.invariant.3 lt)).alone.rep (node_kept l.invariant.1 (placeds_first l.invariant.3 lt)).alone.around) in (
      room_on l.invariant.0 c.node.ensures.room,
      K,
      omega (arith, placeds_later l.invariant.3 lt, l.invariant.2, q),
      subst (λ (k : ℕ). Placeds c.args.self.now.sheet.now c.args.nodes.now k c.args.to) (sym q) (placeds_on l.invariant.3 lt),
      turn_on l.invariant.4 (λ anc f. write_nodes (self_at c.args.self.now.skip (c.args.levels - 1)) anc (unpacked c.args.bits) f) (λ anc f. write_nodes (self_at c.args.self.now.skip (c.args.levels - 1)) anc (unpacked c.args.bits) f) (λ parent anc g h u. nodes_first (self_at c.args.self.now.skip (c.args.levels - 1)) anc (unpacked c.args.bits) g u) lt (writes_before c.loop-at.invariant.1 c.node.ensures.writes_forest) q (ap (wrote c.node.new.text) c.in_ok-node.was),
    )

pub write-returns : goal.write-returns
write-returns t c =
    let l = c.loop-at in record {
      room = c.loop-at.invariant.0;
      kept = l.invariant.1;
      writes_forest = record {
        for = λ parent f anc h a. alike (write_some (tags_to_skip (skip_of c.args.self.now.skip)) c.args.levels anc (unpacked c.args.bits) f (bytes c.args.text.now) (omega (arith, c.if-levels-eq0.false)))
            (turn_last l.invariant.4 c.loop-at-test.false (λ anc u. nodes_none (self_at c.args.self.now.skip (c.args.levels - 1)) anc (unpacked c.args.bits) u) parent f anc h a);
      };
    }

pub write_element-returns-then-is_list : goal.write_element-returns-then-is_list
write_element-returns-then-is_list t c =
    let a = c.args in record {
      room = c.write_list.ensures.room;
      kept = c.write_list.ensures.kept;
      writes_element = record {
        for = λ name attrs kids anc x h.
            alike (by_list (self_at a.self.now.skip a.levels) anc (unpacked a.bits) name attrs kids (bytes a.text.now) (c.requires.1 ∙ element_name x) (sym c.is_list.ensures ∙ c.if-is_list.true)) (c.write_list.ensures.writes_element.for name attrs kids anc x h);
      };
    }

pub write_emphasis-write_behind-requires : goal.write_emphasis-write_behind-requires
write_emphasis-write_behind-requires t c = (
  falls_in c.args.levels c.decreases (lit< tt),
  (
    placed_kids c.requires.0 c.node_end-to.ensures,
    subst (λ (o : FormatOpts). Fits o c.args.levels) (sym (c.of-inner.ensures ∙ c.emphasis_opts.ensures)) (omega (arith, subst (λ (o : FormatOpts). Fits o (c.args.levels + 1)) (sym c.opts-opts.ensures) c.requires.2)),
  ),
)

pub write_emphasis-push_emphasis_by-requires : goal.write_emphasis-push_emphasis_by-requires
write_emphasis-push_emphasis_by-requires t c =
    let written = emphasis_below c.args.self.now.skip c.args.levels c.opts-opts.result c.requires.1 c.emphasis_opts.ensures c.of-inner.ensures c.node_end-to.ensures c.write_behind.ensures.writes_forest in
    let p = c.requires.0 in
    nest-fits c.args.text.now.room.now c.args.text.now.len c.args.text.now.fits (written _ _ _ p.1.0 p.0.3 p.1.1) c.in_ok-n.was

pub write_emphasis-returns : goal.write_emphasis-returns
write_emphasis-returns t c =
    let written = emphasis_below c.args.self.now.skip c.args.levels c.opts-opts.result c.requires.1 c.emphasis_opts.ensures c.of-inner.ensures c.node_end-to.ensures c.write_behind.ensures.writes_forest in
    let a = c.args in record {
      room = room_on (room_behind _ refl refl c.write_behind.auto.room) (leaf_room c.push_emphasis_by.ensures);
      kept = kept_in (omega arith) (omega (arith, c.node_end-to.ensures)) c.write_behind.ensures.kept;
      writes_element = record {
        for = λ name attrs kids anc x h. alike (emphasis_as (self_at a.self.now.skip a.levels) anc (tag_of name) attrs kids (bytes a.text.now) c.opts-opts.ensures)
            (nest-done a.text.now.room.now a.text.now.len c.args.text.now.fits (written _ _ _ anc x h) (λ z. emphasis_step c.opts-opts.result (tag_of name) z) c.in_ok-n.was
            (subst (λ (k : ℕ). Writes (length (back a.text.now.room.now a.text.now.len c.write_behind.new.room)) c.push_emphasis_by.new.text.room.now (wrote c.push_emphasis_by.new.text c.push_emphasis_by.result) (emphasis_step c.opts-opts.result k (take c.in_ok-n.n (drop a.text.now.len (back a.text.now.room.now a.text.now.len c.write_behind.new.room))) (take a.text.now.len (back a.text.now.room.now a.text.now.len c.write_behind.new.room)))) (c.requires.1 ∙ element_name x) c.push_emphasis_by.ensures.writes));
      };
    }

pub write_emphasis-returns-in_err-n : goal.write_emphasis-returns-in_err-n
write_emphasis-returns-in_err-n t c =
    let written = emphasis_below c.args.self.now.skip c.args.levels c.opts-opts.result c.requires.1 c.emphasis_opts.ensures c.of-inner.ensures c.node_end-to.ensures c.write_behind.ensures.writes_forest in
    let a = c.args in record {
      room = room_behind _ refl refl c.write_behind.auto.room;
      kept = kept_in (omega arith) (omega (arith, c.node_end-to.ensures)) c.write_behind.ensures.kept;
      writes_element = stops_element (wrote_err _ _ c.from_residual.ensures.0) (record {
        for = λ name attrs kids anc x h. alike (emphasis_as (self_at a.self.now.skip a.levels) anc (tag_of name) attrs kids (bytes a.text.now) c.opts-opts.ensures)
            (nest-full a.text.now.room.now a.text.now.len c.args.text.now.fits (written _ _ _ anc x h) (emphasis_step c.opts-opts.result (tag_of name) ((self_at a.self.now.skip a.levels).below (attrs ∷ anc) (emphasis_scope (scope_of (md_emphasis (tag_of name))) (inline (include_node c.opts-opts.result))) kids []).text) c.in_err-n.was);
      });
    }

pub write_link-returns-in-Some : goal.write_link-returns-in-Some
write_link-returns-in-Some t c =
    let a = c.args in
    let k = c.in-Some.ensures in record {
      room = c.link.ensures.room;
      kept = c.link.ensures.kept;
      writes_element = record {
        for = λ name attrs kids anc x h.
            alike (link_some (self_at a.self.now.skip a.levels) anc a.opts c.in-Some.dest.now name attrs kids (bytes a.text.now)
            (ap (attr (ascii "href")) (x.attrs_are ∙ sym (of_node attrs_behind c.field-field.ensures)) ∙ k.value_is)) (c.link.ensures.writes_element.for name attrs kids anc x h);
      };
    }

pub write_link-returns-in-None : goal.write_link-returns-in-None
write_link-returns-in-None t c =
    let a = c.args in record {
      room = c.kids.ensures.room;
      kept = c.kids.ensures.kept;
      writes_element = record {
        for = λ name attrs kids anc x h.
            alike (link_none (self_at a.self.now.skip a.levels) anc a.opts name attrs kids (bytes a.text.now)
            (ap (attr (ascii "href")) (x.attrs_are ∙ sym (of_node attrs_behind c.field-field.ensures)) ∙ (c.in-None.ensures).value_is))
            (kids_as (self_at c.args.self.now.skip c.args.levels) (c.of.ensures ∙ c.fresh.ensures) c.kids.ensures.writes_element name attrs kids anc x h);
      };
    }

pub write_list-items-requires : goal.write_list-items-requires
write_list-items-requires t c =
    (falls_in c.args.levels c.decreases (lit< tt), (placed_kids c.requires.0 c.node_end-to.ensures, fits_begun c.field.result.sheet.now c.field.result.place c.args.name c.opts-opts.result c.new-ctx.ensures c.kind_of-kind.ensures c.args.levels (subst (λ (o : FormatOpts). Fits o (c.args.levels + 1)) (sym c.opts-opts.ensures) c.requires.2)))

pub write_list-returns : goal.write_list-returns
write_list-returns t c =
    let a = c.args in
    let self = self_at a.self.now.skip a.levels in record {
      room = room_on (c.items.ensures.room) (leaf_room c.end_list.ensures);
      kept = kept_in (omega arith) (omega (arith, c.node_end-to.ensures)) c.items.ensures.kept;
      writes_element = record {
        for = λ name attrs kids anc x h.
            both-done a.text.now.room.now a.text.now.len c.args.text.now.fits (write_list self anc (unpacked a.bits) (tag_of name) attrs kids) (list_children self (attrs ∷ anc) kids c.new-ctx.result) (ended_list c.opts-opts.result)
            (ap (λ (o : FormatOpts). write_list self anc o (tag_of name) attrs kids (bytes a.text.now)) (sym c.opts-opts.ensures) ∙ list_parts a.self.now.sheet.now (place_at a.nodes.now a.at) a.name c.opts-opts.result c.new-ctx.ensures (c.kind_of-kind.ensures ∙ ap (kind_of a.name) (of_node attrs_behind c.field.ensures)) self anc (bytes a.text.now) refl c.requires.1 x)
            (c.items.ensures.writes_forest.for a.at kids (attrs ∷ anc) (element_kids x c.node_end-to.ensures) (around_it anc x h)) (ap (wrote c.items.new.text) c.in_ok-items.was) c.end_list.ensures.writes;
      };
    }

pub write_list-returns-in_err-items : goal.write_list-returns-in_err-items
write_list-returns-in_err-items t c =
    let a = c.args in
    let self = self_at a.self.now.skip a.levels in record {
      room = c.items.ensures.room;
      kept = kept_in (omega arith) (omega (arith, c.node_end-to.ensures)) c.items.ensures.kept;
      writes_element = stops_element (wrote_err _ _ c.from_residual.ensures.0) (record {
        for = λ name attrs kids anc x h.
            both-full a.text.now.room.now a.text.now.len c.args.text.now.fits (write_list self anc (unpacked a.bits) (tag_of name) attrs kids) (list_children self (attrs ∷ anc) kids c.new-ctx.result) (ended_list c.opts-opts.result)
            (ap (λ (o : FormatOpts). write_list self anc o (tag_of name) attrs kids (bytes a.text.now)) (sym c.opts-opts.ensures) ∙ list_parts a.self.now.sheet.now (place_at a.nodes.now a.at) a.name c.opts-opts.result c.new-ctx.ensures (c.kind_of-kind.ensures ∙ ap (kind_of a.name) (of_node attrs_behind c.field.ensures)) self anc (bytes a.text.now) refl c.requires.1 x)
            (c.items.ensures.writes_forest.for a.at kids (attrs ∷ anc) (element_kids x c.node_end-to.ensures) (around_it anc x h)) (ap (wrote c.items.new.text) c.in_err-items.was);
      });
    }

pub write_table-next_filled_row-first-requires : goal.write_table-next_filled_row-first-requires
write_table-next_filled_row-first-requires t c =
    let rows = rows_below c.args.self.now.sheet.now c.node_end-to.ensures in
    let p = c.requires.0 in
    (rows_of (p.0.1 ∷ p.1.0) p.0.2, rows _ _ _ p.1.0 p.0.3 p.1.1)

pub write_table-is_table_node_writable-requires : goal.write_table-is_table_node_writable-requires
write_table-is_table_node_writable-requires t c =
    let filled = filled_below c.next_filled_row-first.result c.node_end-to.ensures c.next_filled_row-first.ensures.rows in
    let p = c.requires.0 in
    let k = placed_kids p c.node_end-to.ensures in
    ((k.parent, k.forest, k.rep), (from_cells (rows_of (p.0.1 ∷ p.1.0) p.0.2), filled _ _ _ p.1.0 p.0.3 p.1.1))

pub write_table-returns-then-not-is_table_node_writable : goal.write_table-returns-then-not-is_table_node_writable
write_table-returns-then-not-is_table_node_writable t c =
    let writable = writable_below c.next_filled_row-first.result c.node_end-to.ensures c.next_filled_row-first.ensures.rows c.is_table_node_writable.ensures in
    let a = c.args in record {
      room = c.kids.ensures.room;
      kept = c.kids.ensures.kept;
      writes_element = record {
        for = λ name attrs kids anc x h.
            alike (table_flat (self_at a.self.now.skip a.levels) anc a.opts name attrs kids (bytes a.text.now) (sym (writable _ _ _ anc x h) ∙ c.if-not-is_table_node_writable.true))
            (kids_as (self_at c.args.self.now.skip c.args.levels) (c.of.ensures ∙ c.fresh.ensures) c.kids.ensures.writes_element name attrs kids anc x h);
      };
    }

pub write_table-cells-requires : goal.write_table-cells-requires
write_table-cells-requires t c =
    let filled = filled_below c.next_filled_row-first.result c.node_end-to.ensures c.next_filled_row-first.ensures.rows in
    let p = c.requires.0 in
    let R = from_cells (rows_of (p.0.1 ∷ p.1.0) p.0.2) in (
      falls_in c.args.levels c.decreases (lit< tt),
      (
        (R, rows_at c.args.self.now.sheet.now c.args.nodes.now c.next_filled_row-first.result c.node_end-to.result R (filled _ _ _ p.1.0 p.0.3 p.1.1)),
        (λ j l m. ends_in c.args.self.now.sheet.now c.args.nodes.now c.args.at (c.args.at + 1) c.node_end-to.result p.0.2 (element_kids p.0.3 c.node_end-to.ensures) j (omega (arith, l, c.next_filled_row-first.ensures.later)) m),
        c.requires.1,
      ),
    )

pub write_table-overflow_sub-n : goal.write_table-overflow_sub-n
write_table-overflow_sub-n t c =
    let written = cells_below c.next_filled_row-first.result c.node_end-to.ensures c.next_filled_row-first.ensures.rows (self_at c.args.self.now.skip c.args.levels) c.args.opts c.cells.ensures.rows_writes in
    let a = c.args in
    let p = c.requires.0 in
    omega (arith, behind_count a.text.now.room.now a.text.now.len (concat (rows_texts (self_at a.self.now.skip a.levels) a.opts (from_cells (rows_of (p.0.1 ∷ p.1.0) p.0.2)))) c.args.text.now.fits (done (ap (wrote c.cells.new.text) c.in_ok-cells.was) (written _ _ _ p.1.0 p.0.3 p.1.1).writes))

pub write_table-push_table-requires : goal.write_table-push_table-requires
write_table-push_table-requires t c =
    let filled = filled_below c.next_filled_row-first.result c.node_end-to.ensures c.next_filled_row-first.ensures.rows in
    let written = cells_below c.next_filled_row-first.result c.node_end-to.ensures c.next_filled_row-first.ensures.rows (self_at c.args.self.now.skip c.args.levels) c.args.opts c.cells.ensures.rows_writes in
    let writable = writable_below c.next_filled_row-first.result c.node_end-to.ensures c.next_filled_row-first.ensures.rows c.is_table_node_writable.ensures in
    let some : c.next_filled_row-first.result < c.node_end-to.result = let p = c.requires.0 in first_before c.next_filled_row-first.result c.node_end-to.result (c.if-not-is_table_node_writable.false) (λ l. writable _ _ _ p.1.0 p.0.3 p.1.1 ∙ writable_none c.args.self.now.sheet.now c.args.nodes.now c.next_filled_row-first.result c.node_end-to.result p.0.2 (from_cells (rows_of (p.0.1 ∷ p.1.0) p.0.2)) (filled _ _ _ p.1.0 p.0.3 p.1.1) l) in
    let a = c.args in
    let p = c.requires.0 in
    let R = from_cells (rows_of (p.0.1 ∷ p.1.0) p.0.2) in
    let k = c.cells.ensures.kept in
    let w = written _ _ _ p.1.0 p.0.3 p.1.1 in
    let d = done (ap (wrote c.cells.new.text) c.in_ok-cells.was) w.writes in (
      table_at a.self.now.sheet.now c.cells.new.nodes a.at (a.at + 1) c.next_filled_row-first.result c.node_end-to.result p.0.2 (p.0.1 ∷ p.1.0)
          (rep_kept k a.self.now.sheet.now a.at (a.at + 1) c.node_end-to.result p.0.2 (element_kids p.0.3 c.node_end-to.ensures)) (omega arith) c.next_filled_row-first.ensures.later some
          (rows_at_kept k a.self.now.sheet.now c.next_filled_row-first.result c.node_end-to.result R (filled _ _ _ p.1.0 p.0.3 p.1.1)),
      omega (arith, reaches d, behind_count a.text.now.room.now a.text.now.len (concat (rows_texts (self_at a.self.now.skip a.levels) a.opts R)) c.args.text.now.fits d),
      table_sum (self_at a.self.now.skip a.levels) a.opts R a.text.now.room.now a.text.now.len c.args.text.now.fits d (w.lengths_are c.cells.new.text.len (ap (wrote c.cells.new.text) c.in_ok-cells.was)),
    )

pub write_table-returns : goal.write_table-returns
write_table-returns t c =
    let filled = filled_below c.next_filled_row-first.result c.node_end-to.ensures c.next_filled_row-first.ensures.rows in
    let written = cells_below c.next_filled_row-first.result c.node_end-to.ensures c.next_filled_row-first.ensures.rows (self_at c.args.self.now.skip c.args.levels) c.args.opts c.cells.ensures.rows_writes in
    let writable = writable_below c.next_filled_row-first.result c.node_end-to.ensures c.next_filled_row-first.ensures.rows c.is_table_node_writable.ensures in
    let a = c.args in record {
      room =
          let p = c.requires.0 in
          let R = from_cells (rows_of (p.0.1 ∷ p.1.0) p.0.2) in
          let w = written _ _ _ p.1.0 p.0.3 p.1.1 in
          let d = done (ap (wrote c.cells.new.text) c.in_ok-cells.was) w.writes in
          let v =
          c.push_table.ensures (self_at a.self.now.skip a.levels) a.opts R (rows_at_kept c.cells.ensures.kept a.self.now.sheet.now c.next_filled_row-first.result c.node_end-to.result R (filled _ _ _ p.1.0 p.0.3 p.1.1))
          (w.lengths_are c.cells.new.text.len (ap (wrote c.cells.new.text) c.in_ok-cells.was)) (behind_bytes a.text.now.room.now a.text.now.len (concat (rows_texts (self_at a.self.now.skip a.levels) a.opts R)) c.args.text.now.fits d) in
          record { room_is = v.room_is ∙ c.cells.ensures.room.room_is; long = v.long ∙ c.cells.ensures.room.long };
      kept = kept_in (omega (arith, c.next_filled_row-first.ensures.later)) (omega (arith, c.node_end-to.ensures)) c.cells.ensures.kept;
      writes_element = record {
        for = λ name attrs kids anc x h.
            let R = from_cells (rows_of (attrs ∷ anc) kids) in
            let w = written _ _ _ anc x h in
            let d = done (ap (wrote c.cells.new.text) c.in_ok-cells.was) w.writes in
            alike (table_written (self_at a.self.now.skip a.levels) anc a.opts name attrs kids (bytes a.text.now) (sym (writable _ _ _ anc x h) ∙ c.if-not-is_table_node_writable.false))
            (table_done (self_at a.self.now.skip a.levels) a.opts R a.text.now.room.now a.text.now.len c.args.text.now.fits d
            ((c.push_table.ensures (self_at a.self.now.skip a.levels) a.opts R (rows_at_kept c.cells.ensures.kept a.self.now.sheet.now c.next_filled_row-first.result c.node_end-to.result R (filled _ _ _ anc x h)) (w.lengths_are c.cells.new.text.len (ap (wrote c.cells.new.text) c.in_ok-cells.was))
            (behind_bytes a.text.now.room.now a.text.now.len (concat (rows_texts (self_at a.self.now.skip a.levels) a.opts R)) c.args.text.now.fits d)).writes));
      };
    }

pub write_table-returns-in_err-cells : goal.write_table-returns-in_err-cells
write_table-returns-in_err-cells t c =
    let writable = writable_below c.next_filled_row-first.result c.node_end-to.ensures c.next_filled_row-first.ensures.rows c.is_table_node_writable.ensures in
    let written = cells_below c.next_filled_row-first.result c.node_end-to.ensures c.next_filled_row-first.ensures.rows (self_at c.args.self.now.skip c.args.levels) c.args.opts c.cells.ensures.rows_writes in
    let a = c.args in record {
      room = c.cells.ensures.room;
      kept = kept_in (omega (arith, c.next_filled_row-first.ensures.later)) (omega (arith, c.node_end-to.ensures)) c.cells.ensures.kept;
      writes_element = stops_element (wrote_err _ _ c.from_residual.ensures.0) (record {
        for = λ name attrs kids anc x h.
            let R = from_cells (rows_of (attrs ∷ anc) kids) in
            alike (table_written (self_at a.self.now.skip a.levels) anc a.opts name attrs kids (bytes a.text.now) (sym (writable _ _ _ anc x h) ∙ c.if-not-is_table_node_writable.false))
            (record { says = table_full (self_at a.self.now.skip a.levels) a.opts R a.text.now.room.now a.text.now.len (full (ap (wrote c.cells.new.text) c.in_err-cells.was) (written _ _ _ anc x h).writes) });
      });
    }

pub write_element-returns-in-21 : goal.write_element-returns-in-21
write_element-returns-in-21 t c =
    let u = c.opts in
    let a = c.args in
    record {
      room = c.write_link.ensures.room;
      kept = c.write_link.ensures.kept;
      writes_element = record {
        for = λ name attrs kids anc x h.
            element_as (self_at a.self.now.skip a.levels) anc name attrs kids (bytes a.text.now) u.ensures
            (by_link (self_at a.self.now.skip a.levels) anc u.result name attrs kids (bytes a.text.now) (c.requires.1 ∙ element_name x) (sym c.is_list.ensures ∙ c.if-is_list.false) c.in-21.is) (c.write_link.ensures.writes_element.for name attrs kids anc x h);
      };
    }

pub write_element-returns-in-22 : goal.write_element-returns-in-22
write_element-returns-in-22 t c =
    record {
      room = c.write_leaf.ensures.room;
      kept = kept_none c.args.nodes.now;
      writes_element = c.write_leaf.ensures.writes_element c.args.levels;
    }

pub write_element-returns-in-14 : goal.write_element-returns-in-14
write_element-returns-in-14 t c =
    let u = c.opts-in-14 in
    let a = c.args in
    record {
      room = c.write_table.ensures.room;
      kept = c.write_table.ensures.kept;
      writes_element = record {
        for = λ name attrs kids anc x h.
            element_as (self_at a.self.now.skip a.levels) anc name attrs kids (bytes a.text.now) u.ensures
            (by_table (self_at a.self.now.skip a.levels) anc u.result name attrs kids (bytes a.text.now) (c.requires.1 ∙ element_name x) (sym c.is_list.ensures ∙ c.if-is_list.false) c.in-14.is) (c.write_table.ensures.writes_element.for name attrs kids anc x h);
      };
    }

pub write_element-returns-in_default : goal.write_element-returns-in_default
write_element-returns-in_default t c =
    let a = c.args in
    record {
      room = c.write_emphasis.ensures.room;
      kept = c.write_emphasis.ensures.kept;
      writes_element = record {
        for = λ name attrs kids anc x h.
            alike (by_emphasis (self_at a.self.now.skip a.levels) anc (unpacked a.bits) name attrs kids (bytes a.text.now) (c.requires.1 ∙ element_name x) (sym c.is_list.ensures ∙ c.if-is_list.false) (search rules) (search rules) (search rules) (search rules) (search rules)) (c.write_emphasis.ensures.writes_element.for name attrs kids anc x h);
      };
    }

pub row-invariant_of-text-in-loop-c : goal.row-invariant_of-text-in-loop-c
row-invariant_of-text-in-loop-c t c =
    let p = c.loop-c.invariant.1 in
    let w = done c.in_ok-n.was (row_writes p c.loop-c-test.true c.cell.ensures.writes p.some.0 p.some.1) in
    record { fits = temp_fits c.loop-c.text.room.now c.loop-c.text.len (row_reach p) _ w }
