use Rattle.std.proofs.Common.{false}
use Rattle.lists_links.specs.Items.{item_of}
use Rattle.text.specs.Texts.{bytes}
use Rattle.serializer.proofs.Goings.{rule_cell, rule_line}
use Rattle.serializer.proofs.Rooms.{room_same, leaf_room, going_ok, going_err}
use Rattle.serializer.proofs.progress.rule_block.Goals as goal

pub returns-then-item : goal.returns-then-item
returns-then-item c =
    let g = c.args.before in let t = c.args.text.now in record {
      room = room_same t;
      goes = rule_cell (item_of c.args.item) g.first g.due t.room.now t.len t.fits c.if-item.true;
    }

pub returns-in_err-push_rule : goal.returns-in_err-push_rule
returns-in_err-push_rule c =
    let g = c.args.before in let w = c.push_rule.ensures in record {
      room = leaf_room w;
      goes = rule_line (item_of c.args.item) g.first g.due (bytes c.args.text.now) c.if-item.false (going_err _ _ false g.due _ c.from_residual.ensures.0 c.in_err-push_rule.was) w.writes;
    }

pub returns : goal.returns
returns c =
    let g = c.args.before in let w = c.push_rule.ensures in record {
      room = leaf_room w;
      goes = rule_line (item_of c.args.item) g.first g.due (bytes c.args.text.now) c.if-item.false (going_ok c.push_rule.new.text false g.due c.in_ok-push_rule.was) w.writes;
    }
