use mathlib.Core.Path.{◌≡◌, sym, ap, refl, ◌∙◌}
use mathlib.Core.Bool.{Bool, true, false, cond}
use lib.ListN.{length, length-append}
use Rattle.spec.specs.Bytes.{ascii, decimal}
use Rattle.spec.specs.Md.Ctx.{prefix, prefix_of, ul_prefix}
use Rattle.spec.specs.declared.ctx.ListKind.{ListKind}
use native.Mathlib.Omega.{arith}
use Rattle.lists_links.proofs.ctx.prefix_len.Goals as goal

bullet-length : (b : Bool) → length (cond b (ascii "+ ") (ascii "- ")) ≡ 2
bullet-length true = refl
bullet-length false = refl

pub returns-in-Ul : goal.returns-in-Ul
unfolding prefix prefix_of
returns-in-Ul c =
    (sym (ap (λ (k : ListKind). length (prefix_of k (ul_prefix c.args.ctx))) c.in-Ul.is ∙ bullet-length c.args.ctx.opts.table_cell), omega arith)

pub returns-in-Ol : goal.returns-in-Ol
unfolding prefix prefix_of
returns-in-Ol c =
    let n = c.in-Ol.n in
    (sym (ap (λ (k : ListKind). length (prefix_of k (ul_prefix c.args.ctx))) c.in-Ol.is ∙ length-append (decimal n) (ascii ". ") ∙ omega (arith, c.digits.ensures.0)), omega (arith, c.digits.ensures.1))
