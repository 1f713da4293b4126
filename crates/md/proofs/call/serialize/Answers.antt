use mathlib.Core.Path.{sym, subst}
use mathlib.Core.Bool.{Bool}
use lib.ListN.{length}
use Rattle.spec.specs.Call.{written}
use Rattle.input.specs.Scans.{skip_of}
use Rattle.text.specs.Writes.{Writes}
use Rattle.md.proofs.call.serialize.Goals as goal

pub returns-then-include_node : goal.returns-then-include_node
returns-then-include_node c =
    let a = c.args in
    subst (λ (t : Bool). Writes (length a.text.now) c.write_whole.new.text c.write_whole.result (written a.serializer.now.sheet.now (skip_of a.serializer.now.skip) a.start t)) (sym c.if-include_node.true) c.write_whole.ensures

pub returns : goal.returns
returns c =
    let a = c.args in
    subst (λ (t : Bool). Writes (length a.text.now) c.write_inside.new.text c.write_inside.result (written a.serializer.now.sheet.now (skip_of a.serializer.now.skip) a.start t)) (sym c.if-include_node.false) c.write_inside.ensures
