use Rattle.md.proofs.Answering.{cleared_behind}
use Rattle.md.proofs.call.clear_behind.Goals as goal

pub returns : goal.returns
returns c =
    cleared_behind c.args.text.now c.clear.new.m c.args.n c.requires c.clear.ensures
