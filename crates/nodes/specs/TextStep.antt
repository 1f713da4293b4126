-- What `write_text` does at one node.
use Rattle.std.specs.Prelude.{ℕ, cond, get_or, eqb}
use Rattle.spec.specs.Bytes.{Bytes}
use Rattle.spec.specs.Out.{Step, keep}
use Rattle.spec.specs.Md.TextUtils.{push_normalized_text}
use Rattle.spec.specs.declared.ctx.FormatOpts.{FormatOpts}
use Rattle.tree.specs.Nodes.{body_at}

-- the text whose field stands at p is appended; any other node adds nothing
unfoldable pub text_step : FormatOpts → Bytes → ℕ → Step
text_step opts sh p t = cond (eqb (get_or sh p 0) 4) (push_normalized_text (body_at sh p) opts t) (keep t)
