use mathlib.Core.Bool.{or-false}
use Rattle.spec.specs.Bytes.{isin}
use Rattle.spec.specs.Md.TextUtils.{is_escaped}
use Rattle.normalized.proofs.fast_copy.is_sign.Goals as goal

pub returns : goal.returns
unfolding is_escaped isin
returns c =
    λ rest e. simp (c.is_always_escaped.ensures, e, or-false)
