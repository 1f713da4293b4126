use Prim.Native.Nat.{◌+◌}
use Rattle.spec.specs.Call.{tags_to_skip}
use Rattle.spec.specs.Tree.{Forest}
use Rattle.spec.specs.Md.Elements.Code.{write_skip_md}
use Rattle.tree.specs.Memory.{end_at}
use Rattle.tree.specs.Represents.{Rep}
use Rattle.input.specs.Scans.{skip_of}
use Rattle.nodes.proofs.Numbers.{both}
use Rattle.nodes.proofs.Spots.{Going, closes, fall}
use Rattle.nodes.proofs.skip_md.write_open_skip_md.Given as goal

abbrev pub invariant-loop-open : goal.invariant-loop-open
invariant-loop-open l = (kids : Forest) → Rep l.tree.sheet.now l.tree.nodes.now l.i (l.i + 1) (end_at l.tree.nodes.now l.i) kids
    → Going (tags_to_skip (skip_of l.skip)) l.opts l.tree.sheet.now l.tree.nodes.now l.i l.open l.at l.initial.text l.text (both (write_skip_md (tags_to_skip (skip_of l.skip)) l.opts kids) (closes l.tree.sheet.now l.tree.nodes.now l.i))

abbrev pub decreases-loop-open : goal.decreases-loop-open
decreases-loop-open l = fall l.tree.nodes.now l.i l.open l.at
