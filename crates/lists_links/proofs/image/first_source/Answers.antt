use Rattle.std.proofs.Common.{rules}
use Rattle.lists_links.proofs.Values.{source_within}
use Rattle.lists_links.proofs.image.first_source.Goals as goal

pub returns : goal.returns
returns c = source_within c.attribute.result c.attribute.ensures c.and_then.ensures (λ x k. search rules)
