-- `elements/emphasis.rs`.
use Rattle.std.specs.Prelude.{ℕ, ◌+◌, ◌-◌, ◌%◌, Bool, cond, not, ◌&&◌, ◌||◌, List, [], ◌∷◌, ◌++◌, length, take, drop, eqb}
use Rattle.spec.specs.Bytes.{
  Bytes,
  ascii,
  null,
  same,
  isin,
  starts_with,
  ends_with,
  one,
  trim_end_matches,
  trim_ascii_end,
  trim_end,
}
use Rattle.spec.specs.Names as tag
use Rattle.spec.specs.Tree.{Attr, Forest}
use Rattle.spec.specs.Out.{Step, cut, keep, push, and_then, beside, nested}
use Rattle.spec.specs.Md.Ctx.{contains, scope_of, include_node, inline, emphasis_scope}
use Rattle.spec.specs.Md.TextUtils.{escape_trailing_bang}
use Rattle.spec.specs.Md.MDSerializer.{Ancestors, MDSerializer}
use Rattle.spec.specs.declared.ctx.FormatOpts.{FormatOpts}

-- of `strong`, `b`, `em` and `i`
unfoldable pub md_emphasis : ℕ → Bytes
md_emphasis name = cond (isin name (tag.strong ∷ tag.b ∷ [])) (ascii "**") (ascii "*")

-- how many backslashes s ends with
unfoldable pub backslashes : Bytes → ℕ
backslashes s = length s - length (trim_end_matches (one (λ b. eqb b 92)) s)

-- document 01: "`!` flips the bits, so it holds for an even count of backslashes"
unfoldable pub is_exact_marker_end : Bytes → Bytes → Bool
is_exact_marker_end tail marker =
    let prefix = take (length tail - length marker) tail in
    ends_with marker tail
    && (not (same marker (ascii "*") && ends_with (ascii "*") prefix) && eqb (backslashes prefix % 2) 0)

-- the text ends with the marker of an emphasis just closed, with one blank behind it at most
unfoldable pub ends_with_emphasis : Bytes → Bytes → Bool
ends_with_emphasis marker acc =
    let trimmed = trim_ascii_end acc in
    let trailing = drop (length trimmed) acc in
    not (null marker || null acc)
    && ((null trailing || same trailing (ascii " ")) && is_exact_marker_end trimmed marker)

unfoldable pub drop_end : ℕ → Bytes → Bytes
drop_end n s = take (length s - n) s

-- the text without that marker, a blank behind it kept
unfoldable pub try_trim_prev_emphasis_marker : Bytes → Step
try_trim_prev_emphasis_marker marker acc =
    let hasSpace = ends_with (ascii " ") acc in
    let short = drop_end (length marker + cond hasSpace 1 0) acc in
    cond (ends_with_emphasis marker acc) (and_then (cut (λ t. short) acc) (push (cond hasSpace (ascii " ") []))) (keep acc)

-- the emphasis text with its closing marker, blanks at its ends moved out of it
unfoldable pub closed : Bytes → Bytes → Bytes
closed marker content =
    let begun = cond (starts_with (ascii " ") content) (drop 1 content) content in
    cond (ends_with (ascii " ") begun) (drop_end 1 begun ++ (marker ++ ascii " ")) (begun ++ marker)

-- The steps in the order of the Rust. The emphasis text counts until it is appended; it is never longer than `closed` in
-- the steps before, and the text before it grows, so that the last append has the greatest total
unfoldable pub push_marked : Bytes → Bytes → Step
push_marked marker content acc =
    let merged = ends_with_emphasis marker acc in
    let done = closed marker content in
    beside (length done)
    (and_then (try_trim_prev_emphasis_marker marker acc) λ t₁.
    and_then (push (cond (starts_with (ascii " ") content && not (ends_with (ascii " ") t₁)) (ascii " ") []) t₁) λ t₂.
    and_then (push (cond merged [] marker) t₂) λ t₃.
    and_then (cond (starts_with (ascii "[") done) (escape_trailing_bang t₃) (keep t₃)) (push done))

unfoldable pub push_emphasis : Bytes → Bytes → Step
push_emphasis marker content acc =
    cond (null (trim_end content)) (beside (length content) (push content acc)) (push_marked marker content acc)

unfoldable pub write_emphasis : MDSerializer → Ancestors → FormatOpts → ℕ → List Attr → Forest → Step
write_emphasis self anc opts name attrs kids =
    let emphasis = md_emphasis name in
    let scope = scope_of emphasis in
    let written = self.below (attrs ∷ anc) (emphasis_scope scope (inline (include_node opts))) kids [] in
    let marker = cond (contains opts.emphasis_scope scope) [] emphasis in
    nested written
    (λ t. cond (null written.text) (keep t) (push_emphasis marker written.text t))
