-- What `write_pre` does outside a link's text.
use Rattle.std.specs.Prelude.{cond, [], ◌++◌}
use Rattle.spec.specs.Bytes.{Bytes, ascii, ends_with}
use Rattle.spec.specs.Out.{Step, push}
use Rattle.spec.specs.Md.Elements.Code.{fenced_block}

-- the fenced block, on lines of its own
abbrev pub pre_step : Bytes → Bytes → Step
pre_step lang content t = push (cond (ends_with (ascii "\n\n") t) [] (ascii "\n") ++ fenced_block lang content) t
