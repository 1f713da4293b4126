use mathlib.Core.Path.{sym}
use Rattle.spec.specs.Md.Elements.List.{item_from}
use Rattle.lists_links.proofs.list.item_from.Goals as goal

pub returns : goal.returns
unfolding item_from
returns c =
    λ begun e. rw (c.requires.1, c.prefix_len.ensures.0, sym e)
