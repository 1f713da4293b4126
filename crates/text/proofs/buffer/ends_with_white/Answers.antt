use Rattle.text.proofs.Reading.{ends_white}
use Rattle.text.proofs.buffer.ends_with_white.Goals as goal

pub returns : goal.returns
returns c =
    ends_white c.args.s.now c.trim_end_matches.result c.trim_end_matches.ensures
