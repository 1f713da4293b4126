use Rattle.std.proofs.Common.{rules, ◌≡◌, inl, ap, ◌∙◌, length, arith}
use borrow.Author.Tests.{tests}
use Rattle.std.proofs.lemmas.Iterator.Consumers.{YieldsList-from_filter, count_from_yields_List}
use Rattle.spec.specs.Fields.{fields}
use Rattle.spec.specs.Questions.{node_count}
use Rattle.input.specs.Fields.{fields_left}
use Rattle.input.specs.Scans.{begins_node}
use Rattle.input.proofs.Splitting.{few_fields, fields_from_run, nodes_counted}
use Rattle.input.proofs.questions.node_count.Goals as goal

pub count-requires-clause-fits : goal.count-requires-clause-fits
count-requires-clause-fits c =
    let all : length (fields_left c.filter.result.iter) ≡ length (fields c.args.s.now) = ap length (ap fields_left c.filter.ensures.source ∙ c.«new».ensures) in
    inl (omega (arith, few_fields c.args.s.now))

pub overflow_add-result : goal.overflow_add-result
overflow_add-result c =
    let all : length (fields_left c.filter.result.iter) ≡ length (fields c.args.s.now) = ap length (ap fields_left c.filter.ensures.source ∙ c.«new».ensures) in
    omega (arith, few_fields c.args.s.now, c.count.ensures.bound)

pub returns : goal.returns
unfolding node_count
returns c =
    let all : fields_left c.filter.result.iter ≡ fields c.args.s.now = ap fields_left c.filter.ensures.source ∙ c.«new».ensures in
    let count = count_from_yields_List c.filter.result c.count.result c.count.ensures.ran
    (YieldsList-from_filter _ (λ f. begins_node f.tag) (fields_from_run c.filter.result.iter c.args.s.now all) c.filter.ensures.closure (λ x r q k. search (rules, tests))) in
    omega (arith, count, nodes_counted (fields c.args.s.now))
