use mathlib.Core.Path.{sym, ap, ◌∙◌}
use mathlib.Core.Bool.{not}
use mathlib.Core.List.{List}
use lib.Dec.{eqb}
use borrow.Author.Tests.{ne_eqb}
use Rattle.spec.specs.Bytes.{ascii}
use Rattle.spec.specs.Names.{tag_of}
use Rattle.spec.specs.Tree.{Attr, attr, kids_of}
use Rattle.spec.specs.Md.Elements.List.{number_or, number_of, start_of}
use Rattle.tree.specs.Memory.{place_at}
use Rattle.tree.specs.Represents.{attrs_behind}
use Rattle.nodes.specs.FirstElement.{first_element}
use Rattle.nodes.proofs.Siblings.{its_node, its_kids}
use Rattle.nodes.proofs.Interrupts.{element_kids, element_node, element_name, can_none, can_other, can_blank, can_bullet, can_number}
use Rattle.elements.proofs.list_nodes.can_interrupt_paragraph.Goals as goal

pub returns-in_default : goal.returns-in_default
returns-in_default c =
    λ name attrs kids x. sym (can_none (tag_of name) attrs kids (c.in_default.ensures c.args.i kids (element_kids x c.node_end-to.ensures)))

pub node_name-requires : goal.node_name-requires
node_name-requires c =
    let sh = c.args.tree.now.sheet.now in let ns = c.args.tree.now.nodes.now in let li = c.in-Some.li in let to = c.node_end-to.result in
    let u = c.in-Some.ensures in let h = u.2 c.args.i c.requires.2 (element_kids c.requires.3 c.node_end-to.ensures) in
    its_node sh ns c.args.i li to (first_element c.requires.2) h u.0

pub node_end-requires : goal.node_end-requires
node_end-requires c =
    let sh = c.args.tree.now.sheet.now in let ns = c.args.tree.now.nodes.now in let li = c.in-Some.li in let to = c.node_end-to.result in
    let u = c.in-Some.ensures in let h = u.2 c.args.i c.requires.2 (element_kids c.requires.3 c.node_end-to.ensures) in
    (its_node sh ns c.args.i li to (first_element c.requires.2) h u.0).inside

pub has_text_before_list-requires : goal.has_text_before_list-requires
has_text_before_list-requires c =
    let sh = c.args.tree.now.sheet.now in let ns = c.args.tree.now.nodes.now in let li = c.in-Some.li in let to = c.node_end-to.result in
    let u = c.in-Some.ensures in let h = u.2 c.args.i c.requires.2 (element_kids c.requires.3 c.node_end-to.ensures) in
    (li, kids_of (first_element c.requires.2), its_kids sh ns c.args.i li to (first_element c.requires.2) h u.0 c.node_end.ensures)

pub begins_with_one-requires : goal.begins_with_one-requires
begins_with_one-requires c =
    let sh = c.args.tree.now.sheet.now in let ns = c.args.tree.now.nodes.now in let li = c.in-Some.li in let to = c.node_end-to.result in
    let u = c.in-Some.ensures in let h = u.2 c.args.i c.requires.2 (element_kids c.requires.3 c.node_end-to.ensures) in
    (element_node c.requires.3, its_node sh ns c.args.i li to (first_element c.requires.2) h u.0)

pub returns-then-node_name-ne-LI : goal.returns-then-node_name-ne-LI
returns-then-node_name-ne-LI c =
    λ name attrs kids x.
    let sh = c.args.tree.now.sheet.now in let ns = c.args.tree.now.nodes.now in let li = c.in-Some.li in let to = c.node_end-to.result in
    let u = c.in-Some.ensures in let h = u.2 c.args.i kids (element_kids x c.node_end-to.ensures) in
    sym (can_other sh ns (tag_of name) attrs c.args.i li to kids h u.0 u.1 (λ q. c.if-node_name-ne-LI.true (c.node_name.ensures ∙ q)))

pub returns-then-not-has_text_before_list : goal.returns-then-not-has_text_before_list
returns-then-not-has_text_before_list c =
    λ name attrs kids x.
    let sh = c.args.tree.now.sheet.now in let ns = c.args.tree.now.nodes.now in let li = c.in-Some.li in let to = c.node_end-to.result in
    let u = c.in-Some.ensures in let h = u.2 c.args.i kids (element_kids x c.node_end-to.ensures) in
    sym (can_blank sh ns (tag_of name) attrs c.args.i li to kids h u.0 u.1 (sym c.node_name.ensures ∙ c.if-node_name-ne-LI.false)
    (sym (c.has_text_before_list.ensures li (kids_of (first_element kids)) (its_kids sh ns c.args.i li to (first_element kids) h u.0 c.node_end.ensures)) ∙ c.if-not-has_text_before_list.true))

pub returns-then-node_name-ne-OL : goal.returns-then-node_name-ne-OL
returns-then-node_name-ne-OL c =
    λ name attrs kids x.
    let sh = c.args.tree.now.sheet.now in let ns = c.args.tree.now.nodes.now in let li = c.in-Some.li in let to = c.node_end-to.result in
    let u = c.in-Some.ensures in let h = u.2 c.args.i kids (element_kids x c.node_end-to.ensures) in
    ap not (ne_eqb c.node_name-2.result 12 c.if-node_name-ne-OL.true)
    ∙ sym (can_bullet sh ns (tag_of name) attrs c.args.i li to kids h u.0 u.1 (sym c.node_name.ensures ∙ c.if-node_name-ne-LI.false)
    (sym (c.has_text_before_list.ensures li (kids_of (first_element kids)) (its_kids sh ns c.args.i li to (first_element kids) h u.0 c.node_end.ensures)) ∙ c.if-not-has_text_before_list.false)
    (λ q. c.if-node_name-ne-OL.true (c.node_name-2.ensures ∙ (element_name x ∙ q))))

pub returns-else-node_name-ne-OL : goal.returns-else-node_name-ne-OL
returns-else-node_name-ne-OL c =
    λ name attrs kids x.
    let sh = c.args.tree.now.sheet.now in let ns = c.args.tree.now.nodes.now in let li = c.in-Some.li in let to = c.node_end-to.result in
    let u = c.in-Some.ensures in let h = u.2 c.args.i kids (element_kids x c.node_end-to.ensures) in
    c.begins_with_one.ensures
    ∙ sym (can_number sh ns (tag_of name) attrs c.args.i li to kids h u.0 u.1 (sym c.node_name.ensures ∙ c.if-node_name-ne-LI.false)
    (sym (c.has_text_before_list.ensures li (kids_of (first_element kids)) (its_kids sh ns c.args.i li to (first_element kids) h u.0 c.node_end.ensures)) ∙ c.if-not-has_text_before_list.false)
    (sym (c.node_name-2.ensures ∙ element_name x) ∙ c.if-node_name-ne-OL.false)
    ∙ ap (λ (a : List Attr). eqb (number_or (number_of (attr (ascii "value") (attrs_behind sh (place_at ns li)))) (start_of a)) 1) x.attrs_are)
