use Rattle.spec.specs.Md.TextUtils.{trim_blanks}
use Rattle.normalized.proofs.text_utils.trim_trailing_space.Goals as goal

pub returns : goal.returns
unfolding trim_blanks
returns c =
    c.trim_end_matches.ensures
