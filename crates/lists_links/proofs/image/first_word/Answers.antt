use Rattle.std.proofs.Common.{refl}
use Rattle.lists_links.proofs.Values.{source_none, source_some}
use Rattle.lists_links.proofs.image.first_word.Goals as goal

pub returns-then-n-eq0 : goal.returns-then-n-eq0
returns-then-n-eq0 c =
    source_none c.args.value.now c.trim_start_matches.result c.trim_start_matches.ensures c.trim_start_matches-2.result c.trim_start_matches-2.ensures c.trim_end_matches-n.result
    c.trim_end_matches-n.ensures c.if-n-eq0.true

pub returns : goal.returns
returns c =
    source_some c.args.value.now c.trim_start_matches.result c.trim_start_matches.ensures c.trim_start_matches-2.result c.trim_start_matches-2.ensures c.trim_end_matches-n.result
    c.trim_end_matches-n.ensures _ refl c.if-n-eq0.false
