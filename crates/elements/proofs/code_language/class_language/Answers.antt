use Rattle.std.proofs.Common.{rules}
use borrow.Author.Tests.{tests}
use Rattle.std.proofs.lemmas.Iterator.Search.{find_from_yields_List}
use Rattle.std.proofs.lemmas.Iterator.Splits.{YieldsList-from_slice_split}
use Rattle.spec.specs.Bytes.{ascii, white, starts_with}
use Rattle.elements.proofs.Languages.{class_none, class_some}
use Rattle.elements.proofs.code_language.class_language.Goals as goal

pub returns-in_err-find : goal.returns-in_err-find
returns-in_err-find c =
    class_none c.args.class.now
    (find_from_yields_List (starts_with (ascii "language-")) _ _ c.find.result c.find.ensures.ran
    (YieldsList-from_slice_split _ white c.args.class.now c.split.ensures.rest c.split.ensures.done c.split.ensures.closure (λ x b q k. search (rules, tests))) (λ x b q k. search (rules, tests)))
    c.in_err-find.was c.from_residual.ensures

pub returns : goal.returns
returns c =
    class_some c.args.class.now
    (find_from_yields_List (starts_with (ascii "language-")) _ _ c.find.result c.find.ensures.ran
    (YieldsList-from_slice_split _ white c.args.class.now c.split.ensures.rest c.split.ensures.done c.split.ensures.closure (λ x b q k. search (rules, tests))) (λ x b q k. search (rules, tests)))
    c.in_ok-find.was c.strip_prefix.ensures.cases
