use Prim.Native.Nat.{ℕ}
use mathlib.Core.List.{List}
use Rattle.spec.specs.Md.Ctx.{new}
use Rattle.spec.specs.Md.TextUtils.{push_normalized_text}
use Rattle.text.specs.Texts.{bytes}
use Rattle.text.proofs.Texts.{as_step, kept}
use Rattle.lists_links.proofs.Values.{some_step, no_step}
use Rattle.lists_links.proofs.image.push_alt.Goals as goal

pub returns-in-Some : goal.returns-in-Some
returns-in-Some c =
    as_step (some_step (λ (alt : List ℕ). push_normalized_text alt new) (bytes c.args.text.now) c.in-Some.ensures) c.push_normalized.ensures

pub returns-in-None : goal.returns-in-None
returns-in-None c =
    as_step (no_step (λ (alt : List ℕ). push_normalized_text alt new) (bytes c.args.text.now) c.in-None.ensures) (kept c.args.text.now)
