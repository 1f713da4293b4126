-- `elements/image.rs`.
use Rattle.std.specs.Prelude.{cond, List, eqb}
use Rattle.std.proofs.Math.Option.{Option, none, some}
use Rattle.spec.specs.Bytes.{Bytes, ascii, null, one, trim_end_matches, trim_end, words, first_word, or_else}
use Rattle.spec.specs.Tree.{Attr, attr}
use Rattle.spec.specs.Out.{Step, keep, push, and_then}
use Rattle.spec.specs.Md.Ctx.{new}
use Rattle.spec.specs.Md.TextUtils.{push_normalized_text, push_md_url, push_title}

-- the value, if it holds more than White_Space
unfoldable pub filled_value : Option Bytes → Option Bytes
filled_value none = none
filled_value (some s) = cond (null (trim_end s)) none (some s)

-- the first source of a `srcset`, if there is one
unfoldable pub first_source : Option Bytes → Option Bytes
first_source none = none
first_source (some s) =
    let u = trim_end_matches (one (λ b. eqb b 44)) (first_word (words s)) in
    cond (null u) none (some u)

unfoldable pub source : List Attr → Option Bytes
source attrs =
    or_else (filled_value (attr (ascii "src") attrs))
    (or_else (first_source (attr (ascii "srcset") attrs)) (filled_value (attr (ascii "data-src") attrs)))

-- f of the value, if there is one
unfoldable pub if_some : Option Bytes → (Bytes → Step) → Step
if_some none f text = keep text
if_some (some s) f text = f s text

unfoldable pub image_of : List Attr → Bytes → Step
image_of attrs src text =
    and_then (push (ascii "![") text) λ t₁.
    and_then (if_some (attr (ascii "alt") attrs) (λ alt. push_normalized_text alt new) t₁) λ t₂.
    and_then (push (ascii "](") t₂) λ t₃.
    and_then (push_md_url src t₃) λ t₄.
    and_then (if_some (attr (ascii "title") attrs) push_title t₄) (push (ascii ")"))

unfoldable pub write_img : List Attr → Step
write_img attrs = if_some (source attrs) (image_of attrs)
