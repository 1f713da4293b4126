use Rattle.spec.specs.Md.TextUtils.{push_title}
use Rattle.text.specs.Texts.{bytes}
use Rattle.text.proofs.Texts.{as_step, kept}
use Rattle.lists_links.proofs.Values.{some_step, no_step}
use Rattle.lists_links.proofs.link.push_title_of.Goals as goal

pub returns-in-Some : goal.returns-in-Some
returns-in-Some c = as_step (some_step push_title (bytes c.args.text.now) c.in-Some.ensures) c.push_title.ensures

pub returns-in-None : goal.returns-in-None
returns-in-None c = as_step (no_step push_title (bytes c.args.text.now) c.in-None.ensures) (kept c.args.text.now)
