use Prim.Native.Nat.{◌+◌, ◌-◌, ◌≤◌, ◌*◌}
use Rattle.input.specs.Scans.{skip_of}
use Rattle.lists_links.specs.Items.{item_of}
use Rattle.nodes.specs.Stands.{Placeds}
use Rattle.serializer.proofs.Goings.{GoingOn}
use Rattle.serializer.proofs.RowWriting.{RowProgress}
use Rattle.serializer.proofs.RowsWriting.{RowsProgress}
use Rattle.serializer.proofs.Turns.{Turn}
use Rattle.serializer.specs.Options.{unpacked}
use Rattle.text.specs.Texts.{bytes}
use Rattle.serializer.specs.Writers.{self_at, SameRoom, progress_on, at_text, FitsIn}
use Rattle.spec.specs.Call.{tags_to_skip}
use Rattle.spec.specs.Md.Elements.List.{item_children, list_children}
use Rattle.spec.specs.Md.Serializer.{serializer, write_nodes}
use Rattle.tree.specs.Memory.{Kept}
use lib.ListN.{length}
use Rattle.serializer.proofs.MDSerializer.+writers.Given as goal

abbrev pub decreases-alone : goal.decreases-alone
decreases-alone l = l.levels * 147573952589676412928 + 6

abbrev pub decreases-block : goal.decreases-block
decreases-block l = l.levels * 147573952589676412928 + 5

abbrev pub decreases-blocks : goal.decreases-blocks
decreases-blocks l = l.levels * 147573952589676412928 + 73786976294838206464

abbrev pub decreases-body : goal.decreases-body
decreases-body l = l.levels * 147573952589676412928 + 4

abbrev pub decreases-cell : goal.decreases-cell
decreases-cell l = l.levels * 147573952589676412928 + 3

abbrev pub decreases-cells : goal.decreases-cells
decreases-cells l = l.levels * 147573952589676412928 + 5

abbrev pub decreases-child : goal.decreases-child
decreases-child l = l.levels * 147573952589676412928 + 10 + (l.to - l.c) * 2

abbrev pub decreases-children : goal.decreases-children
decreases-children l = l.levels * 147573952589676412928 + 11 + (l.to - l.from) * 2

abbrev pub decreases-flat : goal.decreases-flat
decreases-flat l = l.levels * 147573952589676412928 + 3

abbrev pub decreases-flow : goal.decreases-flow
decreases-flow l = l.levels * 147573952589676412928 + 3

abbrev pub decreases-indented : goal.decreases-indented
decreases-indented l = l.levels * 147573952589676412928 + 2

abbrev pub decreases-inline : goal.decreases-inline
decreases-inline l = l.levels * 147573952589676412928 + 2

abbrev pub decreases-inside : goal.decreases-inside
decreases-inside l = l.levels * 147573952589676412928 + 73786976294838206469

abbrev pub decreases-item : goal.decreases-item
decreases-item l = l.levels * 147573952589676412928 + 73786976294838206465

abbrev pub decreases-items : goal.decreases-items
decreases-items l = l.levels * 147573952589676412928 + 73786976294838206466

abbrev pub decreases-kids : goal.decreases-kids
decreases-kids l = l.levels * 147573952589676412928 + 2

abbrev pub decreases-led : goal.decreases-led
decreases-led l = l.levels * 147573952589676412928 + 4

abbrev pub decreases-link : goal.decreases-link
decreases-link l = l.levels * 147573952589676412928 + 5

abbrev pub decreases-node : goal.decreases-node
decreases-node l = l.levels * 147573952589676412928 + 73786976294838206470

abbrev pub decreases-row : goal.decreases-row
decreases-row l = l.levels * 147573952589676412928 + 4

abbrev pub decreases-siblings : goal.decreases-siblings
decreases-siblings l = l.levels * 147573952589676412928 + 1

abbrev pub decreases-write : goal.decreases-write
decreases-write l = l.levels * 147573952589676412928 + 0

abbrev pub decreases-write_element : goal.decreases-write_element
decreases-write_element l = l.levels * 147573952589676412928 + 73786976294838206468

abbrev pub decreases-write_emphasis : goal.decreases-write_emphasis
decreases-write_emphasis l = l.levels * 147573952589676412928 + 2

abbrev pub decreases-write_link : goal.decreases-write_link
decreases-write_link l = l.levels * 147573952589676412928 + 6

abbrev pub decreases-write_list : goal.decreases-write_list
decreases-write_list l = l.levels * 147573952589676412928 + 73786976294838206467

abbrev pub decreases-write_table : goal.decreases-write_table
decreases-write_table l = l.levels * 147573952589676412928 + 6

abbrev pub decreases-write_behind : goal.decreases-write_behind
decreases-write_behind l = l.levels * 147573952589676412928 + 1

abbrev pub decreases-kids_behind : goal.decreases-kids_behind
decreases-kids_behind l = l.levels * 147573952589676412928 + 3

abbrev pub invariant-cells-loop-r : goal.invariant-cells-loop-r
invariant-cells-loop-r l = SameRoom l.initial.text l.text × RowsProgress (serializer (tags_to_skip (skip_of l.self.skip)) l.levels) l.opts l.self.sheet.now l.initial.nodes l.nodes l.from l.to l.r l.initial.text.room.now l.text.room.now l.initial.text.len l.text.len

abbrev pub decreases-cells-loop-r : goal.decreases-cells-loop-r
decreases-cells-loop-r l = l.to - l.r

abbrev pub invariant-children-loop-c : goal.invariant-children-loop-c
invariant-children-loop-c l = SameRoom l.initial.text l.text × Kept l.from l.to l.initial.nodes l.nodes × (l.from ≤ l.c) × Placeds l.self.sheet.now l.initial.nodes l.c l.to
    × GoingOn l.self.sheet.now l.initial.nodes l.from l.to (λ anc f. item_children (self_at l.self.skip l.levels) anc f (item_of l.item) (progress_on l.initial.going l.initial.text)) (length l.initial.text.room.now) (self_at l.self.skip l.levels) (item_of l.item) l.text.room.now l.c (at_text l.going l.text)

abbrev pub decreases-children-loop-c : goal.decreases-children-loop-c
decreases-children-loop-c l = l.to - l.c

abbrev pub invariant-items-loop-c : goal.invariant-items-loop-c
invariant-items-loop-c l = SameRoom l.initial.text l.text × Kept l.from l.to l.initial.nodes l.nodes × (l.from ≤ l.c) × Placeds l.self.sheet.now l.initial.nodes l.c l.to × FitsIn l.ctx l.levels
    × Turn l.self.sheet.now l.initial.nodes l.from l.to (λ anc f. list_children (self_at l.self.skip l.levels) anc f l.initial.ctx (bytes l.initial.text)) (length l.initial.text.room.now) (λ anc f. list_children (self_at l.self.skip l.levels) anc f l.ctx) l.text.room.now l.c l.text.len

abbrev pub decreases-items-loop-c : goal.decreases-items-loop-c
decreases-items-loop-c l = l.to - l.c

abbrev pub invariant-row-loop-c : goal.invariant-row-loop-c
invariant-row-loop-c l = SameRoom l.initial.text l.text × RowProgress (serializer (tags_to_skip (skip_of l.self.skip)) l.levels) l.opts l.self.sheet.now l.initial.nodes l.nodes l.tr l.to l.c l.initial.text.room.now l.text.room.now l.initial.text.len l.text.len

abbrev pub decreases-row-loop-c : goal.decreases-row-loop-c
decreases-row-loop-c l = l.to - l.c

abbrev pub invariant-write-loop-at : goal.invariant-write-loop-at
invariant-write-loop-at l = SameRoom l.initial.text l.text × Kept l.from l.to l.initial.nodes l.nodes × (l.from ≤ l.at) × Placeds l.self.sheet.now l.initial.nodes l.at l.to
    × Turn l.self.sheet.now l.initial.nodes l.from l.to (λ anc f. write_nodes (self_at l.self.skip (l.levels - 1)) anc (unpacked l.bits) f (bytes l.initial.text)) (length l.initial.text.room.now) (λ anc f. write_nodes (self_at l.self.skip (l.levels - 1)) anc (unpacked l.bits) f) l.text.room.now l.at l.text.len

abbrev pub decreases-write-loop-at : goal.decreases-write-loop-at
decreases-write-loop-at l = l.to - l.at
