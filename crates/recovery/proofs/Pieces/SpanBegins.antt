-- The first backtick of a written code span is not escaped.
use Rattle.std.specs.Prelude.{◌≡◌, refl, Bool, true, cond, [], ◌++◌}
use Rattle.std.proofs.Math.Bool.{false}
use Rattle.std.proofs.Common.{append-nil}
use Rattle.spec.specs.Bytes.{Bytes, ascii, ends_with}
use Rattle.spec.specs.Everything.{everything}
use Rattle.spec.specs.Pieces.Images.{waits}
use Rattle.spec.specs.Reading.Inline.{escaped, slashed}
use Rattle.recovery.proofs.Pieces.Bangs.{waits_app}
use Rattle.recovery.proofs.Pieces.CodeSpans.{apart_behind}

-- 2.4: a reader comes to the first backtick of the span that stands behind t (`code_text`) with no backslash before it that escapes it, if none
-- waits at the end of t: none does behind texts (`settled_text`), links, spans, emphasis and line ends (`settled_last`)
pub span_unescaped : (t : Bytes) → waits false t ≡ false → escaped (waits false (apart_behind t)) 96 ≡ false
unfolding apart_behind
span_unescaped t h = go (ends_with (ascii "`") t)
  where
    go : (b : Bool) → escaped (waits false (t ++ cond b (ascii " ") [])) 96 ≡ false
    go true = rw (waits_app false t (ascii " "), h) (unfold waits slashed escaped in refl)
    go false = rw (append-nil t, h) (unfold escaped in refl)

-- behind a backslash that waits it is escaped; no text of nodes ends so
pub backtick_lost : escaped (waits false (apart_behind (ascii "a\\"))) 96 ≡ true
unfolding everything apart_behind
backtick_lost = refl
