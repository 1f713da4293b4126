use mathlib.Core.Path.{sym, ◌∙◌}
use Rattle.text.specs.Texts.{bytes}
use Rattle.text.proofs.Texts.{as_step}
use Rattle.lists_links.proofs.Linking.{url_itself, url_wrapped, url_plain}
use Rattle.lists_links.proofs.url.push_md_url.Goals as goal

pub returns-then-is_plain_dest : goal.returns-then-is_plain_dest
returns-then-is_plain_dest c =
    let a = c.args in
    as_step (url_itself a.dest.now (bytes a.text.now) (sym c.is_plain_dest.ensures ∙ c.if-is_plain_dest.true)) c.push_all.ensures

pub returns-then-needs_wrap : goal.returns-then-needs_wrap
returns-then-needs_wrap c =
    let a = c.args in
    as_step (url_wrapped a.dest.now (bytes a.text.now) (sym c.needs_wrap.ensures ∙ c.if-needs_wrap.true)) c.push_wrapped.ensures

pub returns-else-needs_wrap : goal.returns-else-needs_wrap
returns-else-needs_wrap c =
    let a = c.args in
    as_step (url_plain a.dest.now (bytes a.text.now) (sym c.needs_wrap.ensures ∙ c.if-needs_wrap.false)) c.push_dest.ensures
