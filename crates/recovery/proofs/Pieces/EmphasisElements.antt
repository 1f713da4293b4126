-- What the writer appends for an element of emphasis that holds a plain text: blanks, marks, words, marks, blanks.
use Rattle.std.specs.Prelude.{ℕ, suc, ◌≡◌, Bool, true, cond, not, ◌&&◌}
use Rattle.std.proofs.Math.Path.{refl}
use Rattle.std.proofs.Common.{ap, ◌∙◌, true≢false}
use Rattle.std.proofs.Math.Bool.{false, or-true}
use mathlib.Core.List.{List, [], ◌∷◌, ◌++◌, append-nil}
use Rattle.std.proofs.Math.Dec.{eqb}
use Rattle.std.proofs.lemmas.Bool.{not-true}
use Rattle.spec.specs.Bytes.{Bytes, ascii, null, same, isin, among, every, ends_with, digit, white, white_space_of, is_white_space, unless, trim_end_matches, trim_end, words}
use Rattle.spec.specs.Names as tag
use Rattle.spec.specs.Names.{tag_of}
use Rattle.spec.specs.Tree.{Attr, Forest, nothing, text}
use Rattle.spec.specs.Plain.{plain_text}
use Rattle.spec.specs.Reading.Lines.{punctuation, letter, letter_or_digit}
use Rattle.spec.specs.Out.{keep, push, and_then, nested}
use Rattle.spec.specs.Md.Constants.{DEFAULT_SKIP_TAGS}
use Rattle.spec.specs.Md.TextUtils.{starts_with_white, ends_with_white, normalized, push_normalized_text}
use Rattle.spec.specs.Md.Heading.{md_prefix}
use Rattle.spec.specs.Md.MDSerializer.{Ancestors}
use Rattle.spec.specs.Md.Ctx.{scope_of, include_node, inline, emphasis_scope}
use Rattle.spec.specs.Md.Elements.Blocks.{is_md_block, is_list}
use Rattle.spec.specs.Md.Elements.Emphasis.{md_emphasis, ends_with_emphasis, push_marked, push_emphasis, write_emphasis}
use Rattle.spec.specs.Md.Serializer.{open_break, opened, has_writer, write_element, in_element, write_element_node, write_nodes, write_at, serializer}
use Rattle.spec.specs.declared.ctx.FormatOpts.{FormatOpts}
use Rattle.spec.proofs.Tests.{and_l, and_r, or_elim, apart, isin_yes, null_nil}
use Rattle.recovery.proofs.Words.{text_words, text_some}
use Rattle.recovery.proofs.Clean.{some_app}
use Rattle.recovery.proofs.Written.Ends.{first_is, null_app}
use Rattle.recovery.proofs.Written.Normalized.{no_marker_empty}
use Rattle.recovery.proofs.Written.Contexts.{opts_at}
use Rattle.recovery.proofs.Written.Known.{known}
use Rattle.recovery.proofs.Written.Seen.{not_high}
use Rattle.recovery.proofs.Pieces.Emphasis.{marked}
use Rattle.recovery.proofs.Pieces.EmphasisTokens.{extra, marks}
use Rattle.recovery.proofs.Pieces.EmphasisSpelt.{edge}
use Rattle.recovery.proofs.Pieces.EmphasisSheets.{is_strong, is_emphasis}
use Rattle.recovery.proofs.Pieces.EmphasisTexts.{blank_if, spelled, Spelled, spelled_line, line_start, appended, padded, body_padded, behind_padded, before_padded}

-- ---- more than White_Space

pub edge_wide : (p q : Bool) (b : ℕ) → (p ≡ true → q ≡ true) → edge p b ≡ true → edge q b ≡ true
unfolding edge
edge_wide p q b f h = or_elim (letter_or_digit b) (p && punctuation b) (λ e. rw e) (λ e. rw (f (and_l p (punctuation b) e), and_r p (punctuation b) e) (or-true (letter_or_digit b))) h

edge_seen : (b : ℕ) (z : Bytes) → edge true b ≡ true → is_white_space (b ∷ z) ≡ false
unfolding is_white_space white_space_of among same edge letter_or_digit letter digit punctuation
edge_seen b z h =
    rw (
      apart (edge true) b 9 h refl,
      apart (edge true) b 10 h refl,
      apart (edge true) b 11 h refl,
      apart (edge true) b 12 h refl,
      apart (edge true) b 13 h refl,
      apart (edge true) b 32 h refl,
      apart (edge true) b 0xC2 h refl,
      apart (edge true) b 0xE1 h refl,
      apart (edge true) b 0xE2 h refl,
      apart (edge true) b 0xE3 h refl,
    )

seen_padded : (l : Bool) (b : ℕ) (r : Bytes) → edge true b ≡ true → null (trim_end (blank_if l ++ (b ∷ r))) ≡ false
unfolding trim_end trim_end_matches unless null
seen_padded true b r h = rw (edge_seen b (trim_end_matches is_white_space r) h, not_high 32 b (trim_end_matches is_white_space r) (unfold white isin in refl))
seen_padded false b r h = rw (edge_seen b (trim_end_matches is_white_space r) h)

seen_text : (l r p : Bool) (e : Bytes) → null e ≡ false → first_is (edge p) e ≡ true → null (trim_end (padded l e r)) ≡ false
unfolding first_is null
seen_text l r p [] n h = absurd (true≢false n)
seen_text l r p (b ∷ e) n h = seen_padded l b (e ++ blank_if r) (edge_wide p true b (λ q. refl) h)

-- ---- the element

-- a test that holds of all four
of_emphasis : (q : ℕ → Bool) (n : ℕ) → is_emphasis n ≡ true → every q (tag.strong ∷ tag.b ∷ tag.em ∷ tag.i ∷ []) ≡ true → q n ≡ true
unfolding is_emphasis
of_emphasis q n h k = isin_yes q n (tag.strong ∷ tag.b ∷ tag.em ∷ tag.i ∷ []) h k

pub not_emphasis : (q : ℕ → Bool) (n : ℕ) → is_emphasis n ≡ true → every (λ x. not (q x)) (tag.strong ∷ tag.b ∷ tag.em ∷ tag.i ∷ []) ≡ true → q n ≡ false
not_emphasis q n h k = not-true (q n) (of_emphasis (λ x. not (q x)) n h k)

opened_inline : (item : Bool) (o n : ℕ) (attrs : List Attr) (kids : Forest) (t : Bytes) → is_emphasis n ≡ true → (opened (opts_at item o) n attrs kids t).text ≡ t
unfolding opened open_break and_then push keep
opened_inline item o n attrs kids t h =
    let b : is_md_block n ≡ false = not_emphasis is_md_block n h (unfold every is_md_block isin in refl) in
    let p : md_prefix n ≡ [] = null_nil (md_prefix n) (of_emphasis (λ n. null (md_prefix n)) n h (unfold every md_prefix null in refl)) in
    rw (b, p) (append-nil t)

-- the options inside
abbrev within : Bool → FormatOpts → FormatOpts
within m opts = emphasis_scope (scope_of (marks m)) (inline (include_node opts))

marks_of : (n : ℕ) → md_emphasis n ≡ marks (is_strong n)
unfolding md_emphasis is_strong
marks_of n = go (isin n (tag.strong ∷ tag.b ∷ []))
  where
    go : (m : Bool) → cond m (ascii "**") (ascii "*") ≡ marks m
    go true = unfold extra in refl
    go false = unfold extra in refl

written_inside : (m : ℕ) (anc : Ancestors) (item k : Bool) (o : ℕ) (attrs : List Attr) (s t : Bytes)
    → null (normalized (within k (opts_at item o)) [] s) ≡ false
    → null (trim_end (normalized (within k (opts_at item o)) [] s)) ≡ false
    → (n : ℕ) → md_emphasis n ≡ marks k
    → (write_emphasis (serializer DEFAULT_SKIP_TAGS (suc m)) anc (opts_at item o) n attrs (text s nothing) t).text
    ≡ (push_marked (marks k) (normalized (within k (opts_at item o)) [] s) t).text
unfolding write_emphasis nested serializer write_at write_nodes push_normalized_text and_then push keep push_emphasis
written_inside m anc item true o attrs s t h w n e = rw e (unfold extra same in rw (h, w))
written_inside m anc item false o attrs s t h w n e = rw e (unfold extra same in rw (h, w))

in_emphasis : (m : ℕ) (anc : Ancestors) (item : Bool) (o : ℕ) (name : Bytes) (attrs : List Attr) (kids : Forest) (t : Bytes) → is_emphasis (tag_of name) ≡ true
    → (in_element (serializer DEFAULT_SKIP_TAGS m) anc (opts_at item o) name attrs kids t).text
    ≡ (write_emphasis (serializer DEFAULT_SKIP_TAGS m) anc (opts_at item o) (tag_of name) attrs kids t).text
unfolding in_element write_element
in_emphasis m anc item o name attrs kids t h =
    let n : ℕ = tag_of name in
    rw (
      of_emphasis (has_writer (opts_at item o)) n h (unfold every has_writer isin in refl),
      not_emphasis is_list n h (unfold every is_list isin in refl),
      not_emphasis (λ x. eqb x tag.a) n h (unfold every in refl),
      not_emphasis (λ x. eqb x tag.img) n h (unfold every in refl),
      not_emphasis (λ x. eqb x tag.pre) n h (unfold every in refl),
      not_emphasis (λ x. eqb x tag.table) n h (unfold every in refl),
      not_emphasis (λ x. eqb x tag.code) n h (unfold every in refl),
    )

element_node : (m : ℕ) (anc : Ancestors) (item : Bool) (o : ℕ) (name : Bytes) (attrs : List Attr) (kids : Forest) (t : Bytes) → is_emphasis (tag_of name) ≡ true
    → (write_element_node (serializer DEFAULT_SKIP_TAGS m) anc (opts_at item o) name attrs kids t).text
    ≡ (write_emphasis (serializer DEFAULT_SKIP_TAGS m) anc (opts_at item o) (tag_of name) attrs kids t).text
unfolding write_element_node and_then serializer
element_node m anc item o name attrs kids t h =
    rw (known name (not_emphasis (λ n. eqb n 0) (tag_of name) h (unfold every in refl)))
    (ap (λ (r : Bytes). (in_element (serializer DEFAULT_SKIP_TAGS m) anc (opts_at item o) name attrs kids r).text) (opened_inline item o (tag_of name) attrs kids t h)
    ∙ in_emphasis m anc item o name attrs kids t h)

-- the text inside
inside_text : (item k : Bool) (o : ℕ) (s : Bytes) → plain_text s ≡ true
    → normalized (within k (opts_at item o)) [] s ≡ padded (starts_with_white s) (spelled true (words s)) (ends_with_white s)
inside_text item k o s h = appended (within k (opts_at item o)) [] s refl no_marker_empty h ∙ unfold line_start null in refl

pub text_spelled : (start : Bool) (s : Bytes) → plain_text s ≡ true → Spelled (spelled start (words s)) (words s)
text_spelled start s h = spelled_line start (words s) (text_words s h) (text_some s h)

pub emphasis_appended : (m : ℕ) (anc : Ancestors) (item : Bool) (o : ℕ) (name : Bytes) (attrs : List Attr) (s t : Bytes) (p : Bool)
    → is_emphasis (tag_of name) ≡ true → plain_text s ≡ true → first_is (edge p) (spelled true (words s)) ≡ true
    → ends_with_emphasis (marks (is_strong (tag_of name))) t ≡ false
    → (write_element_node (serializer DEFAULT_SKIP_TAGS (suc m)) anc (opts_at item o) name attrs (text s nothing) t).text
    ≡ (t ++ blank_if (starts_with_white s && not (ends_with (ascii " ") t)))
    ++ (marks (is_strong (tag_of name)) ++ (spelled true (words s) ++ (marks (is_strong (tag_of name)) ++ blank_if (ends_with_white s))))
emphasis_appended m anc item o name attrs s t p i h f e =
    let k : Bool = is_strong (tag_of name) in
    let w : Bytes = spelled true (words s) in
    let l : Bool = starts_with_white s in
    let r : Bool = ends_with_white s in
    let q : Spelled w (words s) = text_spelled true s h in
    let x : normalized (within k (opts_at item o)) [] s ≡ padded l w r = inside_text item k o s h in
    element_node (suc m) anc item o name attrs (text s nothing) t i
    ∙ (written_inside m anc item k o attrs s t (ap null x ∙ null_app (blank_if l) (w ++ blank_if r) (some_app w (blank_if r) q.some))
    (ap (λ (z : Bytes). null (trim_end z)) x ∙ seen_text l r p w q.some f) (tag_of name) (marks_of (tag_of name))
    ∙ (ap (λ (z : Bytes). (push_marked (marks k) z t).text) x
    ∙ (marked (extra k) (padded l w r) t e
    ∙ rw (body_padded l r w q.first q.last, behind_padded l r w q.first q.last, before_padded l r w t q.first))))
