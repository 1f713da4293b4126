use mathlib.Core.Path.{◌∙◌}
use lib.ListN.{length}
use Rattle.spec.specs.Call.{written}
use Rattle.tree.specs.Accepted.{storable}
use Rattle.input.specs.Scans.{skip_of}
use Rattle.text.proofs.Writing.{done, full, reaches}
use Rattle.md.proofs.Answering.{started, answers_written, answers_full}
use Rattle.md.proofs.call.write_sheet.Goals as goal

pub store_nodes-requires : goal.store_nodes-requires
store_nodes-requires c =
    let a = c.args in
    storable a.sheet.now (skip_of a.skip) a.start (length a.nodes.now) c.requires

pub invariant_of-serialize : goal.invariant_of-serialize
invariant_of-serialize c =
    let a = c.args in
    record { short = (storable a.sheet.now (skip_of a.skip) a.start (length a.nodes.now) c.requires).short }

pub serialize-requires : goal.serialize-requires
serialize-requires c =
    let a = c.args in
    started (skip_of a.skip) (length a.nodes.now) c.requires c.store_nodes.ensures.0 c.store_nodes.ensures.1

pub clear_behind-requires : goal.clear_behind-requires
clear_behind-requires c =
    reaches (done c.in-Ok.is c.serialize.ensures)

pub returns-in-Ok : goal.returns-in-Ok
returns-in-Ok c =
    let a = c.args in
    answers_written (written a.sheet.now (skip_of a.skip) a.start a.include_node) a.nodes.now a.text.now c.serialize.new.nodes c.clear.ensures
    (c.serialize.auto.nodes ∙ c.store_nodes.auto.nodes) (done c.in-Ok.is c.serialize.ensures) c.clear_behind.ensures

pub returns-in-Err : goal.returns-in-Err
returns-in-Err c =
    let a = c.args in
    answers_full (written a.sheet.now (skip_of a.skip) a.start a.include_node) a.nodes.now a.text.now c.serialize.new.nodes c.clear-in-Err.ensures
    (c.serialize.auto.nodes ∙ c.store_nodes.auto.nodes) c.serialize.new.text (full c.in-Err.is c.serialize.ensures) c.clear-in-Err-2.ensures
    c.serialize.auto.text
