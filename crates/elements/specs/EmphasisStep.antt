-- What `write_emphasis` does behind the emphasis text.
use Rattle.std.specs.Prelude.{ℕ, cond, []}
use Rattle.spec.specs.Bytes.{Bytes, null}
use Rattle.spec.specs.Out.{Step, keep}
use Rattle.spec.specs.Md.Ctx.{contains, scope_of}
use Rattle.spec.specs.Md.Elements.Emphasis.{md_emphasis, push_emphasis}
use Rattle.spec.specs.declared.ctx.FormatOpts.{FormatOpts}

-- inside an emphasis of its kind it gets no marker
unfoldable pub emphasis_step : FormatOpts → ℕ → Bytes → Step
emphasis_step opts name content t =
    cond (null content) (keep t)
    (push_emphasis (cond (contains opts.emphasis_scope (scope_of (md_emphasis name))) [] (md_emphasis name)) content t)
