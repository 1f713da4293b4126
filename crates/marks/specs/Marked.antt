-- push_emphasis in two parts: what is done to the text before the emphasis text, and that text.
use Rattle.std.specs.Prelude.{Bool, cond, not, ◌&&◌, [], length}
use Rattle.spec.specs.Bytes.{Bytes, ascii, starts_with, ends_with}
use Rattle.spec.specs.Out.{Step, keep, push, and_then, beside}
use Rattle.spec.specs.Md.TextUtils.{escape_trailing_bang}
use Rattle.spec.specs.Md.Elements.Emphasis.{ends_with_emphasis, try_trim_prev_emphasis_marker}

-- the blank that an emphasis text began with
abbrev pub lead_blank : Bool → Step
lead_blank lead t = push (cond (lead && not (ends_with (ascii " ") t)) (ascii " ") []) t

abbrev pub bang_if : Bool → Step
bang_if bang t = cond bang (escape_trailing_bang t) (keep t)

abbrev pub marked_front : Bytes → Bool → Bool → Step
marked_front marker lead bang acc =
    and_then (try_trim_prev_emphasis_marker marker acc) λ t₁.
    and_then (lead_blank lead t₁) λ t₂.
    and_then (push (cond (ends_with_emphasis marker acc) [] marker) t₂) (bang_if bang)

-- `done` is the emphasis text with its closing marker, and counts until it is appended
abbrev pub marked_with : Bytes → Bool → Bytes → Step
marked_with marker lead done acc = beside (length done) (and_then (marked_front marker lead (starts_with (ascii "[") done) acc) (push done))
