use Rattle.std.proofs.Common.{false, ◌+◌, take, length, ap, arith, rules}
use borrow.Author.Tests.{tests}
use Rattle.std.proofs.Math.Seq.{take-length}
use Rattle.std.proofs.lemmas.Iterator.{YieldsList-from_range}
use Rattle.std.proofs.lemmas.Iterator.Consumers.{YieldsList-from_filter, count_from_yields_List}
use Rattle.spec.specs.Md.Elements.Table.{pipes_escaped}
use Rattle.marks.specs.Pipes.{bare_pipe}
use Rattle.marks.proofs.Pipes.{bare_count}
use Rattle.marks.proofs.table.count_bare_pipes.Goals as goal

pub returns : goal.returns
returns c =
    let s = c.args.s.now in
    let count = count_from_yields_List c.filter.result c.count.result c.count.ensures.ran
    (YieldsList-from_filter _ (λ i. bare_pipe (take (i + 1) s)) (YieldsList-from_range 0 (length s) (length s) c.filter.ensures.source (omega arith)) c.filter.ensures.closure (λ x r q k. search (rules, tests))) in
    omega (arith, count, bare_count s (length s) (omega arith), ap (λ t. length (pipes_escaped false t)) (take-length s))
