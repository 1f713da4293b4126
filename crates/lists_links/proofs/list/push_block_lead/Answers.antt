use Prim.Native.Nat.{ℕ}
use mathlib.Core.Path.{ap}
use mathlib.Core.List.{List}
use lib.Seq.{length-take-le}
use Rattle.spec.specs.Out.{push}
use Rattle.lists_links.proofs.ItemLeads.{lead_none, lead_indented, lead_flow}
use Rattle.text.specs.Texts.{bytes}
use Rattle.text.proofs.Texts.{as_step, pushes_nothing}
use Rattle.lists_links.proofs.list.push_block_lead.Goals as goal

pub returns-then-is_first_block-indented : goal.returns-then-is_first_block-indented
returns-then-is_first_block-indented c =
    let a = c.args.text.now in
    let e = lead_none c.args.item (bytes a) (length-take-le a.len a.room.now a.fits) c.args.is_first_block c.args.indented c.if-is_first_block-indented.true in
    as_step (ap (λ (x : List ℕ). push x (bytes a)) e) (pushes_nothing a)

pub returns-then-indented : goal.returns-then-indented
returns-then-indented c =
    let a = c.args.text.now in
    let e = lead_indented c.args.item (bytes a) (length-take-le a.len a.room.now a.fits) c.args.is_first_block c.args.indented c.if-is_first_block-indented.false c.if-indented.true in
    as_step (ap (λ (x : List ℕ). push x (bytes a)) e) c.push_repeated.ensures

pub returns : goal.returns
returns c =
    let a = c.args.text.now in
    let e = lead_flow c.args.item (bytes a) (length-take-le a.len a.room.now a.fits) c.args.is_first_block c.args.indented c.if-is_first_block-indented.false c.if-indented.false in
    as_step (ap (λ (x : List ℕ). push x (bytes a)) e) c.push_flow_lead.ensures
