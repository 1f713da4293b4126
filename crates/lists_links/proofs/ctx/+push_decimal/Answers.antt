use Prim.Native.Nat.{◌+◌, ◌%◌}
use mathlib.Core.Path.{subst}
use mathlib.Core.List.{[], ◌∷◌}
use Rattle.spec.specs.Out.{push}
use Rattle.text.specs.declared.text.Text.{Text}
use Rattle.text.specs.Texts.{bytes, WritesTo}
use Rattle.text.proofs.Texts.{as_step, next, stop}
use Rattle.lists_links.proofs.Prefixes.{last_only, last_behind}
use Rattle.lists_links.proofs.ctx.+push_decimal.Goals.{then-n-ge10+in_ok-push_decimal, else-n-ge10}
use Rattle.lists_links.proofs.ctx.+push_decimal.Goals as goal

pub returns-in_err-push_decimal : goal.returns-in_err-push_decimal
returns-in_err-push_decimal t c =
    as_step (last_behind c.args.n (bytes c.args.text.now) c.if-n-ge10.true) (stop (push ((48 + c.args.n % 10) ∷ [])) c.in_err-push_decimal.was c.push_decimal.ensures c.from_residual.ensures.0)

pub returns : goal.returns
returns t c =
    elim c.if-n-ge10.branch [
      | then-n-ge10+in_ok-push_decimal w ↦
          as_step (last_behind c.args.n (bytes c.args.text.now) w.if-n-ge10.true)
          (next w.in_ok-push_decimal.was w.push_decimal.ensures (subst (λ (b : Text). WritesTo b c.push_byte.new.self c.push_byte.result (push ((48 + c.args.n % 10) ∷ []))) w.text-is c.push_byte.ensures))
      | else-n-ge10 w ↦
          as_step (last_only c.args.n (bytes c.args.text.now) w.if-n-ge10.false)
          (subst (λ (b : Text). WritesTo b c.push_byte.new.self c.push_byte.result (push ((48 + c.args.n % 10) ∷ []))) w.text-is c.push_byte.ensures)
    ]
