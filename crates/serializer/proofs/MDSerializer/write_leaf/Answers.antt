use mathlib.Core.Path.{◌≡◌, ap, sym, ◌∙◌}
use mathlib.Core.List.{List}
use Rattle.spec.specs.Bytes.{isin}
use Rattle.spec.specs.Tree.{Attr}
use Rattle.spec.specs.Md.Elements.Blocks.{is_list}
use Rattle.spec.specs.Md.Elements.Image.{write_img}
use Rattle.tree.proofs.NodeFields.{of_node}
use Rattle.tree.specs.Represents.{attrs_behind}
use Rattle.text.specs.Texts.{bytes}
use Rattle.text.proofs.Writing.{alike}
use Rattle.nodes.proofs.Interrupts.{element_name}
use Rattle.serializer.proofs.Dispatch.{by_img, by_pre, by_code, element_as}
use Rattle.serializer.proofs.Rooms.{leaf_room}
use Rattle.serializer.specs.Options.{unpacked}
use Rattle.serializer.specs.Writers.{self_at}
use native.Mathlib.Omega.{arith}
use Rattle.serializer.proofs.MDSerializer.write_leaf.Goals as goal

pub returns-in-22-clause-writes_element : goal.returns-in-22-clause-writes_element
unfolding is_list isin
returns-in-22-clause-writes_element c levels =
    let a = c.args in
    let self = self_at a.self.now.skip levels in record {
      for = λ name attrs kids anc x h.
          alike (by_img self anc (unpacked a.bits) name attrs kids (bytes a.text.now) (c.requires.1 ∙ element_name x) (ap is_list c.in-22.is) c.in-22.is
          ∙ ap (λ (l : List Attr). write_img l (bytes a.text.now)) (x.attrs_are ∙ sym (of_node attrs_behind c.field.ensures))) c.write_img.ensures.writes;
    }

pub returns-in-23-clause-room : goal.returns-in-23-clause-room
returns-in-23-clause-room c =
    let p = c.requires.0 in leaf_room (c.write_pre.ensures p.0.0 p.0.1 p.0.2 p.1.0 p.0.3 p.1.1)

pub returns-in-23-clause-writes_element : goal.returns-in-23-clause-writes_element
unfolding is_list isin
returns-in-23-clause-writes_element c levels =
    let a = c.args in
    let self = self_at a.self.now.skip levels in record {
      for = λ name attrs kids anc x h.
          element_as self anc name attrs kids (bytes a.text.now) c.opts.ensures
          (by_pre self anc c.opts.result name attrs kids (bytes a.text.now) (c.requires.1 ∙ element_name x) (ap is_list c.in-23.is) c.in-23.is) ((c.write_pre.ensures name attrs kids anc x h).writes);
    }

pub returns-in_default-clause-room : goal.returns-in_default-clause-room
returns-in_default-clause-room c =
    let p = c.requires.0 in leaf_room (c.write_code.ensures 0 p.0.0 p.0.1 p.0.2 p.1.0 p.0.3 p.1.1)

pub returns-in_default-clause-writes_element : goal.returns-in_default-clause-writes_element
unfolding is_list isin
returns-in_default-clause-writes_element c levels =
    let a = c.args in
    let self = self_at a.self.now.skip levels in
    let is : a.name ≡ 24 = omega (arith, c.requires.2) in record {
      for = λ name attrs kids anc x h.
          element_as self anc name attrs kids (bytes a.text.now) c.opts-in_default.ensures
          (by_code self anc c.opts-in_default.result name attrs kids (bytes a.text.now) (c.requires.1 ∙ element_name x) (ap is_list is) is) ((c.write_code.ensures levels name attrs kids anc x h).writes);
    }
