-- A line of several texts begins no block.
use Rattle.std.specs.Prelude.{ℕ, ◌-◌, ◌≡◌, ◌&&◌, ◌||◌, leb, length, take}
use Rattle.std.proofs.Common.{arith, sym, ap, ◌∙◌, true≢false, length-append, le-leb}
use Rattle.std.proofs.Math.Path.{refl}
use Rattle.std.proofs.Math.Bool.{Bool, true, false, cond, not, and-false, and-true, or-true}
use Rattle.std.proofs.lemmas.Bool.{false≢true, not-true}
use mathlib.Core.List.{List, [], ◌∷◌, ◌++◌, append-nil, append_assoc}
use Rattle.std.proofs.Math.Dec.{eqb}
use Rattle.spec.specs.Bytes.{Bytes, ascii, null, same, every, ends_with, blank, digit, one, trim_end_matches, is_blank, words, first_word}
use Rattle.spec.specs.Everything.{everything}
use Rattle.spec.specs.Md.Ctx.{new}
use Rattle.spec.specs.Md.TextUtils.{is_ordered_list_marker, before_marker, at_indent, ends_with_marker_digits, escaped_chunk, ends_with_white, starts_with_white, more_words, normalized_words, normalized}
use Rattle.spec.specs.Pieces.Lines.{is_text_start}
use Rattle.spec.specs.Reading.Starts.{start_in}
use Rattle.spec.specs.declared.ctx.FormatOpts.{FormatOpts}
use Rattle.spec.proofs.Tests.{and_l, and_r, or_elim, apart, every_imp, same_eq}
use Rattle.recovery.specs.Closed.{phrase}
use Rattle.recovery.proofs.Starts.{dot, dot_ends, marker_dot_ends}
use Rattle.recovery.proofs.Words.{all_of, kept, plain_byte, plain_word, plain_words, plain_bytes, words_plain}
use Rattle.recovery.proofs.Written.Ends.{last_is, null_app, last_keep, last_none, trim_fix, trim_none, trim_cut, last_not}
use Rattle.recovery.proofs.Written.Normalized.{normalized_words_lem, no_marker_digits, no_marker_empty}
use Rattle.recovery.proofs.Pieces.ClosingEscapes.{last_byte}
use Rattle.recovery.proofs.Pieces.Escapes.{from_some, dot_chunk}
use Rattle.recovery.proofs.Pieces.Headings.{at_line}
use Rattle.recovery.proofs.Pieces.TextStarts.{Line, bare, digits, free, free_app, free_other, free_behind, some_length, line_start_lem, line_blank, line_from, line_chunk}

-- ---- digits at the end of a text

line_last : (p : ℕ → Bool) (b : ℕ) (u : Bytes) → p 10 ≡ false → at_line (b ∷ u) ≡ true → last_is p (b ∷ u) ≡ false
unfolding at_line null
line_last p b u h k =
    rw (last_byte 10 (b ∷ u) k) (last_keep p (take (length (b ∷ u) - 1) (b ∷ u)) (10 ∷ []) (unfold last_is null in h))

line_indent : (u : Bytes) → at_line u ≡ true → at_indent (before_marker u) ≡ true
line_indent [] h = unfold everything in refl
line_indent (b ∷ u) h = rw before (unfold at_indent in rw (trim_fix blank (b ∷ u) (line_last blank b u (unfold blank in refl) h)) (unfold at_line in h))
  where
    before : before_marker (b ∷ u) ≡ b ∷ u
    before = unfold before_marker in rw (last_not [] 32 (b ∷ u) (line_last (λ c. eqb c 32) b u refl h))

line_stem : (u ds : Bytes) → at_line u ≡ true → every digit ds ≡ true → trim_end_matches (one digit) (u ++ ds) ≡ u
line_stem [] ds h k = trim_none digit ds k
line_stem (b ∷ u) ds h k = trim_cut digit (b ∷ u) ds (line_last digit b u (unfold digit in refl) h) k

-- digits that begin a line, with nothing behind them
pub digits_marker : (u ds : Bytes) → at_line u ≡ true → every digit ds ≡ true → null ds ≡ false
    → ends_with_marker_digits (u ++ ds) ≡ leb (length ds) 9
unfolding ends_with_marker_digits
digits_marker u ds h k n =
    let m : length (u ++ ds) - length u ≡ length ds = rw (length-append u ds) (omega arith) in
    rw (line_stem u ds h k, m, line_indent u h, le-leb 1 (length ds) (some_length ds n)) (and-true (leb (length ds) 9))

-- ---- what is appended for one text

dots_end : (w : Bytes) → (same w (ascii ".") || same w (ascii ")")) ≡ false → is_ordered_list_marker w ≡ false → dot_ends w ≡ false
unfolding dot_ends
dots_end [] h k = refl
dots_end (b ∷ w) h k = go (digit b) refl w h k
  where
    go : (t : Bool) → digit b ≡ t → (w : Bytes) → (same (b ∷ w) (ascii ".") || same (b ∷ w) (ascii ")")) ≡ false
        → is_ordered_list_marker (b ∷ w) ≡ false → cond t (dot_ends w) (dot b && null w) ≡ false
    go true d w h k = sym (marker_dot_ends b w d) ∙ k
    go false d [] h k = unfold dot null in and-true (eqb b 46 || eqb b 41) ∙ (unfold same in simp and-true at h)
    go false d (c ∷ w) h k = unfold null in and-false (dot b)

-- the words behind the first, and a blank at the end
line_tail : {l : Bytes} (ws : List Bytes) (t : Bool) → null l ≡ false → Line l → Line (l ++ (more_words true ws ++ cond t (ascii " ") []))
unfolding more_words
line_tail [] true n h = line_blank [] n h
line_tail {l} [] false n h = rw (append-nil l) h
line_tail (w ∷ ws) t n h = line_blank ((escaped_chunk w true false ++ more_words true ws) ++ cond t (ascii " ") []) n h

-- ---- where a line begins

-- a line of texts begins behind u
pub record Opens (opts : FormatOpts) (u : Bytes) : Type 0 where
  pub follows : ((ends_with (ascii "\n") u || ends_with (ascii " ") u) || null u) ≡ true
  pub begins : ((null u || ends_with (ascii "\n") u) || opts.list_item) ≡ true
  pub none : ends_with_marker_digits u ≡ false
  pub marks : (ds : Bytes) → every digit ds ≡ true → null ds ≡ false → ends_with_marker_digits (u ++ ds) ≡ leb (length ds) 9

line_follows : (u : Bytes) → at_line u ≡ true → ((ends_with (ascii "\n") u || ends_with (ascii " ") u) || null u) ≡ true
unfolding at_line
line_follows u h = or_elim (null u) _ (λ e. rw e (or-true (ends_with (ascii "\n") u || ends_with (ascii " ") u))) (λ e. rw e) h

line_no_digits : (u : Bytes) → at_line u ≡ true → ends_with_marker_digits u ≡ false
unfolding at_line null
line_no_digits [] h = no_marker_empty
line_no_digits (b ∷ u) h = rw (last_byte 10 (b ∷ u) h) (no_marker_digits (take (length (b ∷ u) - 1) (b ∷ u)) 10 (unfold digit in refl))

-- at the beginning of the text, and behind a line end
pub opens_line : (opts : FormatOpts) (u : Bytes) → at_line u ≡ true → Opens opts u
opens_line opts u h =
    record {
      follows = line_follows u h;
      begins = unfold at_line in rw h;
      none = line_no_digits u h;
      marks = λ ds k n. digits_marker u ds h k n;
    }

chunk_some : (w : Bytes) → plain_word w ≡ true → null (escaped_chunk w true true) ≡ false
unfolding escaped_chunk plain_word null
chunk_some [] h = absurd (false≢true h)
chunk_some (b ∷ w) h = from_some true _ _ b w

-- ---- behind digits

-- the text ends with them
digits_ends : (p : ℕ → Bool) (u ds : Bytes) → ((b : ℕ) → digit b ≡ true → p b ≡ false) → every digit ds ≡ true → null ds ≡ false → last_is p (u ++ ds) ≡ false
digits_ends p u ds f h n =
    last_keep p u ds (last_none p ds (every_imp digit (λ b. not (p b)) ds (λ b e. ap not (f b e)) h) n)

digits_not : (c : ℕ) (u ds : Bytes) → digit c ≡ false → every digit ds ≡ true → null ds ≡ false → ends_with (c ∷ []) (u ++ ds) ≡ false
digits_not c u ds k h n = last_not [] c (u ++ ds) (digits_ends (λ b. eqb b c) u ds (λ b e. apart digit b c e k) h n)

front_some : (x y : Bytes) → null x ≡ false → null (x ++ y) ≡ false
unfolding null
front_some [] y h = absurd (true≢false h)
front_some (b ∷ x) y h = refl

-- a line that has nothing yet: what stands before it ends with a line end or a blank, or its first text has a word
unfoldable pub led : Bytes → Bytes → Bytes → Bool
led u l s = not (null l) || ((ends_with (ascii "\n") u || ends_with (ascii " ") u) || (null s || not (is_blank s)))

-- a line of digits: no digits and dot follow straight behind them in one text
unfoldable pub unjoined : Bytes → Bytes → Bool
unjoined l s = not (not (null l) && every digit l) || (starts_with_white s || not (is_ordered_list_marker (first_word (words s))))

not_led : (n z s : Bool) → (n || (z || not s)) ≡ true → (not n && (not z && s)) ≡ true → ⊥
not_led true z s a e = false≢true e
not_led false true s a e = false≢true e
not_led false false true a e = false≢true a
not_led false false false a e = false≢true e

-- the line stays of its kind behind each text
module _ (opts : FormatOpts) (escape : opts.skip_escape ≡ false) (outside : opts.inline ≡ false) where
  words_bare : (u s : Bytes) (ws : List Bytes) → Opens opts u → plain_words ws ≡ true → Line (normalized_words opts u s ws)
  unfolding phrase
  words_bare u s [] h k = unfold normalized_words in bare
  words_bare u s (w ∷ ws) h k =
      let p : plain_word w ≡ true = unfold plain_words in and_l (plain_word w) _ k in
      rw (normalized_words_lem opts u s (w ∷ ws) escape outside h.follows h.begins h.none (unfold null in refl))
      (rw (append_assoc (escaped_chunk w true true) (more_words true ws) (cond (ends_with_white s) (ascii " ") []))
      (line_tail ws (ends_with_white s) (chunk_some w p) (line_chunk w (plain_bytes w p))))

  -- the first word behind digits
  word_digits : (ds w : Bytes) (start marked : Bool) → every digit ds ≡ true → null ds ≡ false → every plain_byte w ≡ true
      → is_ordered_list_marker w ≡ false → marked ≡ leb (length ds) 9
      → (t : Bool) → (same w (ascii ".") || same w (ascii ")")) ≡ t → Line (ds ++ (cond (t && marked) (ascii "\\") [] ++ escaped_chunk w true start))
  word_digits ds w start true h n k m e true d = free (free_other ds 92 (escaped_chunk w true start) h n (unfold digit in refl) (unfold dot in refl))
  word_digits ds w start false h n k m e true d =
      rw (dot_chunk w start d)
      (or_elim (same w (ascii ".")) _ (λ q. rw (same_eq w (ascii ".") q) (free (free_behind ds 46 [] h n (unfold digit in refl) (λ z. rw (← e) (and-false (dot 46))))))
      (λ q. rw (same_eq w (ascii ")") q) (free (free_behind ds 41 [] h n (unfold digit in refl) (λ z. rw (← e) (and-false (dot 41)))))) d)
  word_digits ds w start marked h n k m e false d =
      unfold escaped_chunk in line_from ds start _ _ w h n k (λ q. absurd (true≢false (sym q ∙ dots_end w d m)))

  words_digits : (u ds s : Bytes) (ws : List Bytes) → Opens opts u → every digit ds ≡ true → null ds ≡ false → plain_words ws ≡ true
      → (starts_with_white s || not (is_ordered_list_marker (first_word ws))) ≡ true → Line (ds ++ normalized_words opts (u ++ ds) s ws)
  unfolding normalized_words plain_words first_word
  words_digits u ds s [] l h n k m = rw (append-nil ds) (digits h n)
  words_digits u ds s (w ∷ ws) l h n k m =
      rw (
        escape,
        outside,
        digits_not 10 u ds (unfold digit in refl) h n,
        digits_not 32 u ds (unfold digit in refl) h n,
        null_app u ds n,
        l.marks ds h n,
      )
      (go (starts_with_white s) refl)
    where
      d : Bool
      d = same w (ascii ".") || same w (ascii ")")

      end : Bytes
      end = cond (ends_with_white s) (ascii " ") []

      go : (t : Bool) → starts_with_white s ≡ t
          → Line (ds ++ (cond t (ascii " ") (cond (d && leb (length ds) 9) (ascii "\\") []) ++ (escaped_chunk w true opts.list_item ++ (more_words true ws ++ end))))
      go true e = line_blank (escaped_chunk w true opts.list_item ++ (more_words true ws ++ end)) n (digits h n)
      go false e =
          let c : Bytes = cond (d && leb (length ds) 9) (ascii "\\") [] ++ escaped_chunk w true opts.list_item in
          let marker : is_ordered_list_marker w ≡ false = not-true _ (rw e at m) in
          let p : every plain_byte w ≡ true = plain_bytes w (and_l (plain_word w) _ k) in
          rw (
            ← append_assoc (cond (d && leb (length ds) 9) (ascii "\\") []) (escaped_chunk w true opts.list_item) (more_words true ws ++ end),
            ← append_assoc ds c (more_words true ws ++ end),
          )
          (line_tail ws (ends_with_white s) (front_some ds c n) (word_digits ds w opts.list_item (leb (length ds) 9) h n p marker refl d refl))

  -- one text more
  text_line_lem : {l : Bytes} (u s : Bytes) → Opens opts u → every kept s ≡ true → led u l s ≡ true → unjoined l s ≡ true → Line l
      → Line (l ++ normalized opts (u ++ l) s)
  text_line_lem {l} u s h k a b (free f) = free (free_app l (normalized opts (u ++ l) s) f)
  text_line_lem u s h k a b bare =
      unfold normalized led null in
      rw (append-nil u) (go (not (ends_with (ascii "\n") u || ends_with (ascii " ") u) && (not (null s) && is_blank s)) refl)
    where
      go : (t : Bool) → (not (ends_with (ascii "\n") u || ends_with (ascii " ") u) && (not (null s) && is_blank s)) ≡ t
          → Line (cond t (ascii " ") (normalized_words opts u s (words s)))
      go true e =
          let q : ((ends_with (ascii "\n") u || ends_with (ascii " ") u) || (null s || not (is_blank s))) ≡ true = unfold led null in a in
          absurd (not_led (ends_with (ascii "\n") u || ends_with (ascii " ") u) (null s) (is_blank s) q e)
      go false e = words_bare u s (words s) h (words_plain s k)
  text_line_lem {l} u s h k a b (digits d n) =
      unfold normalized in
      rw (digits_not 10 u l (unfold digit in refl) d n, digits_not 32 u l (unfold digit in refl) d n)
      (go (not (null s) && is_blank s))
    where
      go : (t : Bool) → Line (l ++ cond t (ascii " ") (normalized_words opts (u ++ l) s (words s)))
      go true = line_blank [] n (digits d n)
      go false = words_digits u l s (words s) h d n (words_plain s k) (unfold unjoined in rw (n, d) at b)

-- ---- several texts

-- what is appended behind t for some texts, one after the other
unfoldable pub appended : FormatOpts → Bytes → List Bytes → Bytes
appended opts t [] = []
appended opts t (s ∷ ss) = normalized opts t s ++ appended opts (t ++ normalized opts t s) ss

-- each text finds the line as `led` and `unjoined` say; l is the line so far, and u stands before it
unfoldable pub clear : FormatOpts → Bytes → Bytes → List Bytes → Bool
clear opts u l [] = true
clear opts u l (s ∷ ss) = (led u l s && unjoined l s) && clear opts u (l ++ normalized opts (u ++ l) s) ss

pub texts_line : (opts : FormatOpts) {l : Bytes} (u : Bytes) (ss : List Bytes) → opts.skip_escape ≡ false → opts.inline ≡ false → Opens opts u
    → all_of kept ss ≡ true → clear opts u l ss ≡ true → Line l → Line (l ++ appended opts (u ++ l) ss)
unfolding appended all_of clear
texts_line opts {l} u [] e i h k c r = rw (append-nil l) r
texts_line opts {l} u (s ∷ ss) e i h k c r =
    let n : Bytes = normalized opts (u ++ l) s in
    let first : (led u l s && unjoined l s) ≡ true = and_l (led u l s && unjoined l s) _ c in
    rw (← append_assoc l n (appended opts ((u ++ l) ++ n) ss), append_assoc u l n)
    (texts_line opts {l = l ++ n} u ss e i h (and_r (every kept s) _ k) (and_r (led u l s && unjoined l s) _ c)
    (text_line_lem opts e i u s h (and_l (every kept s) _ k) (and_l (led u l s) _ first) (and_r (led u l s) _ first) r))

-- 4.8: a line of texts begins no block, behind an open paragraph or not, whatever the texts hold but NUL, VT and `&`
pub texts_start : (opts : FormatOpts) (u : Bytes) (ss : List Bytes) (par : Bool) → opts.skip_escape ≡ false → opts.inline ≡ false
    → Opens opts u → all_of kept ss ≡ true → clear opts u [] ss ≡ true → is_text_start (start_in par (appended opts u ss)) ≡ true
texts_start opts u ss par e i h k c = line_start_lem (rw (append-nil u) at (texts_line opts u ss e i h k c bare)) par

-- the digits of a marker in one text and its dot in the next
pub marker_parted : (appended new (ascii "\n") (ascii "1" ∷ ascii ". Fit" ∷ []) ≡ ascii "1\\. Fit") × (clear new (ascii "\n") [] (ascii "1" ∷ ascii ". Fit" ∷ []) ≡ true)
unfolding everything appended clear led unjoined
marker_parted = (refl, refl)

-- ---- the exceptions

-- digits, and then digits and a dot in the next text: they are a list marker
pub marker_joined : appended new [] (ascii "1" ∷ ascii "1. Fit" ∷ []) ≡ ascii "11. Fit"
unfolding everything appended
marker_joined = refl

pub marker_begins : is_text_start (start_in false (ascii "11. Fit")) ≡ false
unfolding everything
marker_begins = refl

-- a blank text where nothing is written yet: the next is not taken for the beginning of a line
pub blank_led : appended new [] (ascii " " ∷ ascii "# Fit" ∷ []) ≡ ascii " # Fit"
unfolding everything appended
blank_led = refl
