-- How texts that come in pieces end.
use Rattle.std.specs.Prelude.{Bool, cond}
use Rattle.spec.specs.Bytes.{Bytes, ascii, null, one, ends_with, trim_end_matches}
use Rattle.spec.specs.Md.Elements.Code.{is_tab_or_blank}

-- whether a text ends with LF but for tabs and blanks, where s is its end, and `before` says it of what stands before s
unfoldable pub ended_by : Bool → Bytes → Bool
ended_by before s =
    cond (null (trim_end_matches (one is_tab_or_blank) s)) before (ends_with (ascii "\n") (trim_end_matches (one is_tab_or_blank) s))
