-- What a link's writers do behind the link's text.
use Rattle.std.specs.Prelude.{Bool, cond, List, length}
use Rattle.spec.specs.Bytes.{Bytes, ascii, null, is_blank}
use Rattle.spec.specs.Tree.{Attr}
use Rattle.spec.specs.Out.{Step, keep, push, and_then, beside}
use Rattle.spec.specs.Md.Ctx.{fresh}
use Rattle.spec.specs.Md.TextUtils.{escape_trailing_bang, push_normalized_text}
use Rattle.spec.specs.Md.Elements.Link.{link_end}
use Rattle.spec.specs.declared.ctx.FormatOpts.{FormatOpts}

-- the text of a link is appended as it stands, or word by word
abbrev pub append_by : Bool → FormatOpts → Bytes → Step
append_by plain opts = cond plain (λ s. push_normalized_text s opts) push

unfoldable pub bracket : Step
bracket t = and_then (escape_trailing_bang t) (push (ascii "["))

-- up to the end of the link's text, which counts meanwhile
unfoldable pub link_front : Bytes → (Bytes → Step) → Step
link_front s append t = beside (length s) (and_then (bracket t) (append s))

unfoldable pub link_shown : List Attr → Bytes → Bytes → (Bytes → Step) → Step
link_shown attrs href s append t = and_then (link_front s append t) (link_end attrs href)

-- `link_of` behind the link's text s
unfoldable pub link_step : List Attr → Bytes → Bytes → (Bytes → Step) → Step
link_step attrs href s append t = cond (null s) (keep t) (link_shown attrs href s append t)

-- s is appended word by word, and counts meanwhile
unfoldable pub plain_step : FormatOpts → Bytes → Step
plain_step opts s t = beside (length s) (push_normalized_text s opts t)

-- `link_to` behind the texts s of a link that shows them
unfoldable pub text_link_step : FormatOpts → List Attr → Bytes → Bytes → Step
text_link_step opts attrs href s t =
    cond (is_blank s) (plain_step (fresh opts) s t) (link_step attrs href s (λ s. push_normalized_text s (fresh opts)) t)
