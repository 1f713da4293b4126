-- A written heading line, whatever it holds, is an ATX heading with that content.
use Rattle.std.specs.Prelude.{ℕ, zero, suc, ◌+◌, ◌-◌, ◌<◌, ◌≡◌, Bool, true, not, ◌||◌, eqb, ltb, length, replicate, take, drop}
use Rattle.std.proofs.Common.{arith, sym, ◌∙◌, length-append, eqb-true, le-leb, le-ltb, lt-ltb, ltb-true, ltb-false}
use Rattle.std.proofs.Math.Path.{refl, ap}
use Rattle.std.proofs.Math.Bool.{false, and-false}
use mathlib.Core.List.{[], ◌∷◌, ◌++◌, append_assoc}
use Rattle.std.proofs.Math.Seq.{take-append-add, drop-append-add}
use Rattle.spec.specs.Bytes.{Bytes, ascii, null, same, isin, every, ends_with, blank, one, unless, white_space_of, among, is_white_space, trim_end_matches, trim_end}
use Rattle.spec.specs.Everything.{everything}
use Rattle.spec.specs.Names as tag
use Rattle.spec.specs.Md.Heading.{md_prefix, escape_closing_hashes}
use Rattle.spec.specs.Md.TextUtils.{trim_blanks}
use Rattle.spec.specs.Pieces.Lines.{stripped, heading_content}
use Rattle.spec.specs.Reading.Inline.{unescape}
use Rattle.spec.specs.Reading.Lines.{space_or_tab, run, drop_run, strip}
use Rattle.spec.specs.Reading.Starts.{heading_start, without_closing, ends, atx_heading_by, atx_heading, lead, start_by, start}
use Rattle.spec.proofs.Tests.{and_l, and_r, every_imp, every_replicate, null_nil}
use Rattle.recovery.proofs.Joined.{in_line}
use Rattle.recovery.specs.Closed.{hash}
use Rattle.recovery.proofs.Written.Ends.{last_is, last_keep, last_replicate, trim_none, trim_cut, trim_behind, ends_not}
use Rattle.recovery.proofs.Written.WhiteSpace.{blank_not}
use Rattle.recovery.proofs.Pieces.Trims.{trim_run, trim_more, Tail, tail_of}
use Rattle.recovery.proofs.Pieces.Closing.{closes_by, closing_none, closes_blanks}
use Rattle.recovery.proofs.Pieces.ClosingEscapes.{last_byte, Escaped, kept, backed, wanted, escape_yes, escape_no, escapes, escaped_blank, escaped_tab, escaped_unescape}

-- ---- the marks

-- behind the marks of a heading stands a blank, or nothing
unfoldable pub apart_from : Bytes → Bool
apart_from [] = true
apart_from (b ∷ d) = eqb b 32

marks_run : (n : ℕ) (d : Bytes) → apart_from d ≡ true → run 35 (replicate n 35 ++ d) ≡ n
unfolding run apart_from
marks_run zero [] h = refl
marks_run zero (b ∷ d) h = rw (eqb-true b 32 h)
marks_run (suc n) d h = ap suc (marks_run n d h)

marks_drop : (n : ℕ) (d : Bytes) → apart_from d ≡ true → drop_run 35 (replicate n 35 ++ d) ≡ d
unfolding drop_run apart_from
marks_drop zero [] h = refl
marks_drop zero (b ∷ d) h = rw (eqb-true b 32 h)
marks_drop (suc n) d h = marks_drop n d h

marks_end : (d : Bytes) → apart_from d ≡ true → ends d ≡ true
unfolding ends apart_from space_or_tab
marks_end [] h = refl
marks_end (b ∷ d) h = rw h

pub heading_start_lem : (level : ℕ) (d : Bytes) → level < 6 → apart_from d ≡ true
    → start (replicate (suc level) 35 ++ d) ≡ heading_start (suc level) (without_closing d)
unfolding start start_by lead atx_heading atx_heading_by
heading_start_lem level d l h = rw (marks_run level d h, marks_drop level d h, marks_end d h, le-leb (suc level) 6 l)

-- where no run of # closes it, the content is what stands behind the marks
pub content_same : (d : Bytes) → closes_by 32 d ≡ false → closes_by 9 d ≡ false → heading_content d ≡ stripped d
unfolding heading_content stripped
content_same d h k = ap strip (closing_none d h k)

-- ---- the backslash is that of the content alone

trim_front : (y c : Bytes) → null (trim_end c) ≡ false → trim_end (y ++ (32 ∷ c)) ≡ y ++ (32 ∷ trim_end c)
unfolding trim_end trim_end_matches unless
trim_front [] c h = rw (blank_not [] (trim_end_matches is_white_space c) h)
trim_front (b ∷ y) c h = rw (trim_front y c h, blank_not (b ∷ y) (trim_end_matches is_white_space c) h)

stem_front : (y r : Bytes) → trim_end_matches (one hash) (y ++ (32 ∷ r)) ≡ y ++ (32 ∷ trim_end_matches (one hash) r)
stem_front y r =
    ap (trim_end_matches (one hash)) (sym (append_assoc y (32 ∷ []) r))
    ∙ (trim_behind hash (y ++ (32 ∷ [])) r (last_keep hash y (32 ∷ []) (unfold last_is null hash in refl)) ∙ append_assoc y (32 ∷ []) (trim_end_matches (one hash) r))

less_front : (y a b : Bytes) → ltb (length (y ++ a)) (length (y ++ b)) ≡ ltb (length a) (length b)
less_front y a b = go (ltb (length a) (length b)) refl
  where
    go : (t : Bool) → ltb (length a) (length b) ≡ t → ltb (length (y ++ a)) (length (y ++ b)) ≡ t
    go true e = lt-ltb (length (y ++ a)) (length (y ++ b)) (rw (length-append y a, length-append y b) (omega (arith, ltb-true (length a) (length b) e)))
    go false e = le-ltb (length (y ++ a)) (length (y ++ b)) (rw (length-append y a, length-append y b) (omega (arith, ltb-false (length a) (length b) e)))

ends_front : (y : Bytes) (b : ℕ) (h : Bytes) → ends_with (ascii " ") (y ++ (b ∷ h)) ≡ ends_with (ascii " ") (b ∷ h)
unfolding ends_with
ends_front y b h =
    let n : length (y ++ (b ∷ h)) - 1 ≡ length y + (length (b ∷ h) - 1) = rw (length-append y (b ∷ h)) (omega arith) in
    rw (n, drop-append-add y (b ∷ h) (length (b ∷ h) - 1))

wanted_front : (y h r : Bytes) → wanted (y ++ (32 ∷ h)) (y ++ (32 ∷ r)) ≡ wanted (32 ∷ h) (32 ∷ r)
unfolding wanted
wanted_front y h r = rw (less_front y (32 ∷ h) (32 ∷ r), ends_front y 32 h)

pub escape_front : (y c : Bytes) → null (trim_end c) ≡ false → (escape_closing_hashes (y ++ (32 ∷ c))).text ≡ y ++ (escape_closing_hashes (32 ∷ c)).text
escape_front y c n = go (wanted (32 ∷ trim_end_matches (one hash) (trim_end c)) (32 ∷ trim_end c)) refl
  where
    go : (t : Bool) → wanted (32 ∷ trim_end_matches (one hash) (trim_end c)) (32 ∷ trim_end c) ≡ t
        → (escape_closing_hashes (y ++ (32 ∷ c))).text ≡ y ++ (escape_closing_hashes (32 ∷ c)).text
    go true q =
        let r : Bytes = trim_end c in
        let h : Bytes = trim_end_matches (one hash) r in
        rw (
          escape_yes (y ++ (32 ∷ c)) (y ++ (32 ∷ r)) (y ++ (32 ∷ h)) (trim_front y c n) (stem_front y r) (wanted_front y h r ∙ q),
          escape_yes (32 ∷ c) (32 ∷ r) (32 ∷ h) (trim_front [] c n) (stem_front [] r) q,
          length-append y (32 ∷ h),
          take-append-add y (32 ∷ c) (length (32 ∷ h)),
          drop-append-add y (32 ∷ c) (length (32 ∷ h)),
        )
        (append_assoc y (take (length (32 ∷ h)) (32 ∷ c)) (92 ∷ drop (length (32 ∷ h)) (32 ∷ c)))
    go false q =
        let r : Bytes = trim_end c in
        let h : Bytes = trim_end_matches (one hash) r in
        rw (
          escape_no (y ++ (32 ∷ c)) (y ++ (32 ∷ r)) (y ++ (32 ∷ h)) (trim_front y c n) (stem_front y r) (wanted_front y h r ∙ q),
          escape_no (32 ∷ c) (32 ∷ r) (32 ∷ h) (trim_front [] c n) (stem_front [] r) q,
        )

-- ---- a heading without content

-- a line begins behind the text
unfoldable pub at_line : Bytes → Bool
at_line x = null x || ends_with (ascii "\n") x

line_stem : (x hs : Bytes) → at_line x ≡ true → every hash hs ≡ true → (trim_end_matches (one hash) (x ++ hs) ≡ x) × (ends_with (ascii " ") x ≡ false)
unfolding at_line null
line_stem [] hs h a = (trim_none hash hs a, unfold ends_with same in refl)
line_stem (b ∷ x) hs h a =
    let f : Bytes = take (length (b ∷ x) - 1) (b ∷ x) in
    let is : b ∷ x ≡ f ++ (10 ∷ []) = last_byte 10 (b ∷ x) h in (
      trim_cut hash (b ∷ x) hs (ap (last_is hash) is ∙ last_keep hash f (10 ∷ []) (unfold last_is null hash in refl)) a,
      ap (ends_with (ascii " ")) is ∙ ends_not [] 32 f 10 refl,
    )

trim_blank : (c : Bytes) → null (trim_end c) ≡ true → trim_end (32 ∷ c) ≡ []
trim_blank c h = trim_more (32 ∷ []) c (null_nil (trim_end c) h) ∙ unfold trim_end trim_end_matches is_white_space white_space_of among same unless in refl

wanted_not : (stem content : Bytes) → ends_with (ascii " ") stem ≡ false → wanted stem content ≡ false
unfolding wanted
wanted_not stem content h = rw h (and-false (ltb (length stem) (length content)))

escape_blank : (x c : Bytes) (n : ℕ) → null (trim_end c) ≡ true → at_line x ≡ true
    → (escape_closing_hashes ((x ++ replicate (suc n) 35) ++ (32 ∷ c))).text ≡ (x ++ replicate (suc n) 35) ++ (32 ∷ c)
escape_blank x c n h k =
    let hs : Bytes = replicate (suc n) 35 in
    let a : every hash hs ≡ true = every_replicate hash (suc n) 35 (unfold hash in refl) in
    let content : trim_end ((x ++ hs) ++ (32 ∷ c)) ≡ x ++ hs = trim_more (x ++ hs) (32 ∷ c) (trim_blank c h) ∙ trim_run x hs a (unfold null in refl) in
    let s : (trim_end_matches (one hash) (x ++ hs) ≡ x) × (ends_with (ascii " ") x ≡ false) = line_stem x hs k a in
    escape_no ((x ++ hs) ++ (32 ∷ c)) (x ++ hs) x content s.0 (wanted_not x (x ++ hs) s.1)

escape_nothing : (c : Bytes) → null (trim_end c) ≡ true → (escape_closing_hashes (32 ∷ c)).text ≡ 32 ∷ c
escape_nothing c h = escape_no (32 ∷ c) [] [] (trim_blank c h) (unfold trim_end_matches in refl) (unfold wanted ends_with same in refl)

-- the content's own backslash is the one that the writer puts into the text
pub heading_written : (x c : Bytes) (n : ℕ) → (not (null (trim_end c)) || at_line x) ≡ true
    → (escape_closing_hashes (x ++ (replicate (suc n) 35 ++ (32 ∷ c)))).text ≡ x ++ (replicate (suc n) 35 ++ (escape_closing_hashes (32 ∷ c)).text)
heading_written x c n h =
    ap (λ (u : Bytes). (escape_closing_hashes u).text) (sym (append_assoc x (replicate (suc n) 35) (32 ∷ c)))
    ∙ (go (null (trim_end c)) refl h ∙ append_assoc x (replicate (suc n) 35) (escape_closing_hashes (32 ∷ c)).text)
  where
    go : (t : Bool) → null (trim_end c) ≡ t → (not t || at_line x) ≡ true
        → (escape_closing_hashes ((x ++ replicate (suc n) 35) ++ (32 ∷ c))).text ≡ (x ++ replicate (suc n) 35) ++ (escape_closing_hashes (32 ∷ c)).text
    go true e k = escape_blank x c n e k ∙ ap (λ (u : Bytes). (x ++ replicate (suc n) 35) ++ u) (sym (escape_nothing c e))
    go false e k = escape_front (x ++ replicate (suc n) 35) c e

-- ---- blanks at the end

trim_same : (p : ℕ → Bool) (a z : Bytes) → every p z ≡ true → trim_end_matches (one p) (a ++ z) ≡ trim_end_matches (one p) a
unfolding trim_end_matches
trim_same p [] z h = trim_none p z h
trim_same p (b ∷ a) z h = rw (trim_same p a z h)

blank_is : (z : Bytes) → every blank z ≡ true → every space_or_tab z ≡ true
unfolding blank space_or_tab
blank_is z h = every_imp blank space_or_tab z (λ b e. rw e) h

-- a text without the blanks at its end closes no other way, and has the same content
trim_closes : (k : ℕ) (d : Bytes) → closes_by k d ≡ false → closes_by k (trim_blanks d) ≡ false
unfolding trim_blanks
trim_closes k d h =
    let t : Tail blank d (trim_end_matches (one blank) d) = tail_of blank d in
    sym (closes_blanks k (trim_end_matches (one blank) d) t.tail t.all) ∙ (ap (closes_by k) (sym t.is) ∙ h)

trim_content : (d : Bytes) → stripped (trim_blanks d) ≡ stripped d
unfolding trim_blanks stripped
trim_content d =
    let t : Tail blank d (trim_end_matches (one blank) d) = tail_of blank d in
    ap strip (sym (trim_same space_or_tab (trim_end_matches (one blank) d) t.tail (blank_is t.tail t.all)) ∙ ap (trim_end_matches (one space_or_tab)) (sym t.is))

trim_apart : (d : Bytes) → apart_from d ≡ true → apart_from (trim_blanks d) ≡ true
unfolding trim_blanks trim_end_matches apart_from
trim_apart [] h = refl
trim_apart (b ∷ d) h = go (one blank (b ∷ trim_end_matches (one blank) d))
  where
    go : (t : Bool) → apart_from (unless t (b ∷ trim_end_matches (one blank) d)) ≡ true
    go true = unfold unless in refl
    go false = unfold unless in h

trim_marks : (x d : Bytes) (n : ℕ) → trim_blanks (x ++ (replicate (suc n) 35 ++ d)) ≡ x ++ (replicate (suc n) 35 ++ trim_blanks d)
unfolding trim_blanks
trim_marks x d n =
    let hs : Bytes = replicate (suc n) 35 in
    ap (trim_end_matches (one blank)) (sym (append_assoc x hs d))
    ∙ (trim_behind blank (x ++ hs) d (last_keep blank x hs (last_replicate blank n 35 (unfold blank in refl))) ∙ append_assoc x hs (trim_end_matches (one blank) d))

-- ---- the heading

-- The line behind x is an ATX heading of that level, and c is its content but for blanks at its ends and the backslash before a last
-- run of #, which the reading of escapes takes away; also when the blanks at the line's end are trimmed
pub record ReadHeading (level : ℕ) (text x c : Bytes) : Type 0 where
  pub content : Bytes
  pub written : text ≡ x ++ (replicate level 35 ++ content)
  pub read : start (replicate level 35 ++ content) ≡ heading_start level (without_closing content)
  pub whole : heading_content content ≡ stripped content
  pub meant : unescape false content ≡ unescape false (32 ∷ c)
  pub one_line : every in_line c ≡ true → every in_line content ≡ true
  pub trimmed : trim_blanks text ≡ x ++ (replicate level 35 ++ trim_blanks content)
  pub read_trimmed : start (replicate level 35 ++ trim_blanks content) ≡ heading_start level (without_closing (trim_blanks content))
  pub whole_trimmed : heading_content (trim_blanks content) ≡ stripped content

escaped_apart : {e d : Bytes} → Escaped e d → apart_from e ≡ true → apart_from d ≡ true
unfolding apart_from
escaped_apart (kept h) k = k
escaped_apart (backed [] hs w n a f) k = refl
escaped_apart (backed (b ∷ front) hs w n a f) k = k

line_more : (q : ℕ → Bool) (p r : Bytes) → q 92 ≡ true → every q (p ++ (32 ∷ r)) ≡ true → every q (p ++ (32 ∷ 92 ∷ r)) ≡ true
unfolding every
line_more q [] r s k = rw (and_l (q 32) _ k, s) (and_r (q 32) _ k)
line_more q (b ∷ p) r s k = rw (and_l (q b) _ k) (line_more q p r s (and_r (q b) _ k))

escaped_line : {e d : Bytes} → Escaped e d → every in_line e ≡ true → every in_line d ≡ true
escaped_line (kept h) k = k
escaped_line (backed front hs w n a f) k = line_more in_line front (hs ++ w) (unfold in_line isin in refl) k

-- Whatever c holds, but for a run of # at its end behind a tab. Where c is White_Space alone, the heading must stand at the
-- beginning of a line
pub heading_recovered : (x c : Bytes) (l : ℕ) → l < 6 → (not (null (trim_end c)) || at_line x) ≡ true → closes_by 9 c ≡ false
    → ReadHeading (suc l) (escape_closing_hashes (x ++ (replicate (suc l) 35 ++ (32 ∷ c)))).text x c
heading_recovered x c l k h t =
    let d : Bytes = (escape_closing_hashes (32 ∷ c)).text in
    let e : Escaped (32 ∷ c) d = escapes (32 ∷ c) in
    let apart : apart_from d ≡ true = escaped_apart e (unfold apart_from in refl) in
    let noBlank : closes_by 32 d ≡ false = escaped_blank e in
    let noTab : closes_by 9 d ≡ false = escaped_tab e (unfold closes_by in t) in
    record {
      content = d;
      written = heading_written x c l h;
      read = heading_start_lem l d k apart;
      whole = content_same d noBlank noTab;
      meant = escaped_unescape e;
      one_line = λ q. escaped_line e (unfold every in_line isin in q);
      trimmed = ap trim_blanks (heading_written x c l h) ∙ trim_marks x d l;
      read_trimmed = heading_start_lem l (trim_blanks d) k (trim_apart d apart);
      whole_trimmed = content_same (trim_blanks d) (trim_closes 32 d noBlank) (trim_closes 9 d noTab) ∙ trim_content d;
    }

-- the marks are those of `md_prefix`
pub prefix_marks :
    (md_prefix tag.h1 ≡ replicate 1 35 ++ (32 ∷ [])) × (md_prefix tag.h2 ≡ replicate 2 35 ++ (32 ∷ []))
    × (md_prefix tag.h3 ≡ replicate 3 35 ++ (32 ∷ [])) × (md_prefix tag.h4 ≡ replicate 4 35 ++ (32 ∷ []))
    × (md_prefix tag.h5 ≡ replicate 5 35 ++ (32 ∷ [])) × (md_prefix tag.h6 ≡ replicate 6 35 ++ (32 ∷ []))
unfolding md_prefix
prefix_marks = (refl, refl, refl, refl, refl, refl)

-- ---- the exceptions

-- a run of # behind a tab gains no backslash, and the reader takes it for a closing sequence
pub tab_lost : heading_content (escape_closing_hashes (ascii " a\t#")).text ≡ ascii "a"
unfolding everything
tab_lost = refl

-- behind a blank, as in an item, a heading without content gains the backslash before its marks
pub marks_lost : (escape_closing_hashes (ascii "- # ")).text ≡ ascii "- \\# "
unfolding everything
marks_lost = refl
