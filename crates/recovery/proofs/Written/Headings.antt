-- The writer's headings are the closed form's.
use Rattle.std.specs.Prelude.{ℕ, suc, ◌<◌, ◌≡◌, Bool, cond, not, ◌&&◌, ◌||◌, eqb, length, replicate}
use Rattle.std.proofs.Common.{arith, ap, ◌∙◌, true≢false, length-append}
use Rattle.std.proofs.Math.Path.{refl, sym}
use Rattle.std.proofs.Math.Bool.{true, false, and-false}
use mathlib.Core.List.{List, [], ◌∷◌, ◌++◌, append-nil, append_assoc}
use Rattle.std.proofs.Math.Dec.{ltb}
use Rattle.std.proofs.Math.Seq.{take-append_seam, drop-append_seam}
use borrow.Author.Tests.{eqb-true, lt-ltb, not-true}
use Rattle.spec.specs.Bytes.{Bytes, ascii, null, same, isin, every, ends_with, white, blank, digit, one, unless, trim_end_matches, words, first_word}
use Rattle.spec.specs.Plain.{wide_blanks, begins_with_any, ends_with_any, last_word, plain_ends, without, plain_text}
use Rattle.spec.specs.Out.{keep, replace}
use Rattle.spec.specs.Md.TextUtils.{is_escaped, escaped_from, escaped_chunk, ends_with_white, more_words, normalized_words, normalized}
use Rattle.spec.specs.Md.Heading.{escape_closing_hashes}
use Rattle.spec.specs.declared.ctx.FormatOpts.{FormatOpts}
use Rattle.spec.proofs.Tests.{and_l, and_r, apart, every_imp}
use Rattle.recovery.proofs.Words.{plain_byte, plain_word, plain_words, plain_bytes, text_words, text_some}
use Rattle.recovery.proofs.Escapes.{Esc, every_Esc, every_plain, null_Esc, chunk_Esc, word_Esc}
use Rattle.recovery.proofs.Written.Ends.{null_app, last_is, first_is, last_keep, last_none, last_replicate, trim_cut, trim_behind, ends_by, last_not}
use Rattle.recovery.proofs.Written.Breaks.{end_blank}
use Rattle.recovery.proofs.Written.Normalized.{no_marker_digits}
use Rattle.recovery.proofs.Written.Phrases.{word_some, word_last}
use Rattle.recovery.proofs.Written.WhiteSpace.{settled, word_settled, settled_Esc, trim_word}
use Rattle.recovery.specs.Closed.{hash, heading_word, heading_words, heading_line}

-- ---- the backslash before a run of #

-- a byte other than the blank
unfoldable solid : ℕ → Bool
solid b = not (blank b)

trim_solid : (e : Bytes) → every solid e ≡ true → every solid (trim_end_matches (one hash) e) ≡ true
unfolding trim_end_matches every
trim_solid [] h = refl
trim_solid (b ∷ e) h = go (one hash (b ∷ trim_end_matches (one hash) e)) (trim_solid e (and_r (solid b) _ h))
  where
    go : (t : Bool) → every solid (trim_end_matches (one hash) e) ≡ true → every solid (unless t (b ∷ trim_end_matches (one hash) e)) ≡ true
    go true ih = unfold unless every in refl
    go false ih = unfold unless every in rw (and_l (solid b) _ h) ih

one_not : (b : ℕ) (s : Bytes) → null s ≡ false → one hash (b ∷ s) ≡ false
unfolding null one
one_not b [] h = absurd (true≢false h)
one_not b (c ∷ s) h = refl

-- a text that is more than a run keeps something
trim_some : (e : Bytes) → every hash e ≡ false → null (trim_end_matches (one hash) e) ≡ false
unfolding trim_end_matches every
trim_some [] h = absurd (true≢false h)
trim_some (b ∷ e) h = go (hash b) (trim_end_matches (one hash) e) refl (λ q. trim_some e (rw q at h))
  where
    go : (t : Bool) (r : Bytes) → hash b ≡ t → (t ≡ true → null r ≡ false) → null (unless (one hash (b ∷ r)) (b ∷ r)) ≡ false
    go true r q f = rw (one_not b r (f refl)) (unfold unless null in refl)
    go false [] q f = unfold one unless null in rw q
    go false (c ∷ r) q f = unfold one unless null in refl

behind_run : (x : Bytes) → last_is hash (x ++ (32 ∷ [])) ≡ false
behind_run x = last_keep hash x (32 ∷ []) (unfold last_is null hash in refl)

-- where the last word is more than a run, nothing changes
closing_some : (x e z : Bytes) → every hash e ≡ false → null e ≡ false → every solid e ≡ true → settled e ≡ true → every blank z ≡ true
    → (escape_closing_hashes ((x ++ (32 ∷ e)) ++ z)).text ≡ (x ++ (32 ∷ e)) ++ z
unfolding escape_closing_hashes keep hash
closing_some x e z h n d s k =
    let r : Bytes = trim_end_matches (one hash) e in
    let stem : trim_end_matches (one hash) (x ++ (32 ∷ e)) ≡ (x ++ (32 ∷ [])) ++ r =
    ap (trim_end_matches (one hash)) (sym (append_assoc x (32 ∷ []) e)) ∙ trim_behind hash (x ++ (32 ∷ [])) e (behind_run x) in
    let last : ends_with (ascii " ") ((x ++ (32 ∷ [])) ++ r) ≡ false =
    last_not [] 32 ((x ++ (32 ∷ [])) ++ r)
    (last_keep (λ b. eqb b 32) (x ++ (32 ∷ [])) r (last_none (λ b. eqb b 32) r (unfold solid blank in trim_solid e d) (trim_some e h))) in
    rw (trim_word x e z n s k, stem, last, and-false (ltb (length ((x ++ (32 ∷ [])) ++ r)) (length (x ++ (32 ∷ e)))))

some_length : (e : Bytes) → null e ≡ false → 0 < length e
unfolding null
some_length [] h = absurd (true≢false h)
some_length (b ∷ e) h = omega arith

-- where it is a run, it gains a backslash
closing_run : (x e z : Bytes) → every hash e ≡ true → null e ≡ false → settled e ≡ true → every blank z ≡ true
    → (escape_closing_hashes ((x ++ (32 ∷ e)) ++ z)).text ≡ (x ++ (32 ∷ 92 ∷ e)) ++ z
unfolding escape_closing_hashes replace hash
closing_run x e z h n s k =
    let y : Bytes = x ++ (32 ∷ []) in
    let is : x ++ (32 ∷ e) ≡ y ++ e = sym (append_assoc x (32 ∷ []) e) in
    let stem : trim_end_matches (one hash) (y ++ e) ≡ y =
    trim_cut hash y e (behind_run x) h in
    let last : ends_with (ascii " ") y ≡ true = ends_by (ascii " ") x (ascii " ") refl ∙ unfold same in refl in
    let more : ltb (length y) (length (y ++ e)) ≡ true =
    lt-ltb (length y) (length (y ++ e)) (rw (length-append y e) (omega (arith, some_length e n))) in
    rw (trim_word x e z n s k, is, stem, last, more, append_assoc y e z, take-append_seam y (e ++ z), drop-append_seam y (e ++ z))
    (append_assoc x (32 ∷ []) (92 ∷ (e ++ z)) ∙ sym (append_assoc x (32 ∷ 92 ∷ e) z))

-- ---- the words

plain_solid : (b : ℕ) → plain_byte b ≡ true → solid b ≡ true
unfolding plain_byte white isin solid blank
plain_solid b h = rw (apart plain_byte b 32 h refl)

run_byte : (u : Bool) (b : ℕ) (r : Bytes) → hash b ≡ true → is_escaped false false u b r ≡ false
unfolding hash is_escaped isin
run_byte u b r h = rw (eqb-true b 35 h)

run_from : (u : Bool) (w : Bytes) → every hash w ≡ true → escaped_from false false u w ≡ w
unfolding escaped_from every
run_from u [] h = refl
run_from u (b ∷ w) h = rw (run_byte u b w (and_l (hash b) _ h)) (ap (λ (r : Bytes). b ∷ r) (run_from u w (and_r (hash b) _ h)))

-- a run of # is written as it stands
run_chunk : (w : Bytes) → every hash w ≡ true → escaped_chunk w true false ≡ w
unfolding escaped_chunk
run_chunk w h = run_from _ w h

more_chunk : (w : Bytes) → every hash w ≡ false → plain_word w ≡ true → every hash (escaped_chunk w true false) ≡ false
more_chunk w h k = go (every hash (escaped_chunk w true false)) refl
  where
    go : (t : Bool) → every hash (escaped_chunk w true false) ≡ t → t ≡ false
    go true q = absurd (true≢false (sym (every_plain hash (chunk_Esc false w (plain_bytes w k)) q) ∙ h))
    go false q = refl

closing_word : (t : Bool) (x w z : Bytes) → every hash w ≡ t → plain_word w ≡ true → ends_with_any wide_blanks w ≡ false → every blank z ≡ true
    → (escape_closing_hashes ((x ++ (32 ∷ escaped_chunk w true false)) ++ z)).text ≡ (x ++ (32 ∷ heading_word t w)) ++ z
unfolding heading_word
closing_word true x w z e h n k =
    rw (run_chunk w e) (closing_run x w z e (word_some w h) (word_settled w n (plain_bytes w h)) k)
closing_word false x w z e h n k =
    let q : Esc (escaped_chunk w true false) w = chunk_Esc false w (plain_bytes w h) in
    closing_some x (escaped_chunk w true false) z (more_chunk w e h) (null_Esc q ∙ word_some w h)
    (every_Esc solid (unfold solid blank in refl) q (every_imp plain_byte solid w plain_solid (plain_bytes w h)))
    (settled_Esc q (word_settled w n (plain_bytes w h))) k

seam : (x a m z : Bytes) → x ++ ((a ++ m) ++ z) ≡ (x ++ a) ++ (m ++ z)
seam x a m z = ap (λ (r : Bytes). x ++ r) (append_assoc a m z) ∙ sym (append_assoc x a (m ++ z))

closing_words : (x : Bytes) (ws : List Bytes) (z : Bytes) → plain_words ws ≡ true → null ws ≡ false
    → ends_with_any wide_blanks (last_word ws) ≡ false
    → every blank z ≡ true → (escape_closing_hashes (x ++ (more_words true ws ++ z))).text ≡ x ++ (heading_words ws ++ z)
unfolding plain_words null last_word more_words heading_words heading_word
closing_words x [] z h n e k = absurd (true≢false n)
closing_words x (w ∷ []) z h n e k =
    rw (append-nil (escaped_chunk w true false), append-nil (heading_word (every hash w) w), ← append_assoc x (32 ∷ escaped_chunk w true false) z)
    (closing_word (every hash w) x w z refl (and_l (plain_word w) _ h) e k ∙ append_assoc x (32 ∷ heading_word (every hash w) w) z)
closing_words x (w ∷ v ∷ ws) z h n e k =
    let c : Bytes = 32 ∷ escaped_chunk w true false in
    ap (λ (u : Bytes). (escape_closing_hashes u).text) (seam x c (more_words true (v ∷ ws)) z)
    ∙ (closing_words (x ++ c) (v ∷ ws) z (and_r (plain_word w) _ h) refl e k ∙ sym (seam x c (heading_words (v ∷ ws)) z))

-- ---- the line

-- what stands before the words of a heading
abbrev pub headed : Bytes → ℕ → Bytes
headed y l = (y ++ ascii "\n") ++ (replicate (suc l) 35 ++ ascii " ")

behind_blank : (p : Bytes) → ends_with (ascii " ") (p ++ ascii " ") ≡ true
unfolding same
behind_blank p = ends_by (ascii " ") p (ascii " ") refl

behind_lf : (p : Bytes) → ends_with (ascii "\n") (p ++ ascii " ") ≡ false
unfolding same
behind_lf p = ends_by (ascii "\n") p (ascii " ") refl

-- behind a blank, where no line begins: the words with a blank before each, the first of which stands already
normalized_more : (opts : FormatOpts) (p s : Bytes) (ws : List Bytes)
    → opts.skip_escape ≡ false
    → opts.inline ≡ false
    → opts.list_item ≡ false
    → null ws ≡ false
    → ascii " " ++ normalized_words opts (p ++ ascii " ") s ws ≡ more_words true ws ++ cond (ends_with_white s) (ascii " ") []
unfolding normalized_words more_words null
normalized_more opts p s [] e n l k = absurd (true≢false k)
normalized_more opts p s (w ∷ ws) e n l k =
    rw (
      e,
      n,
      l,
      behind_blank p,
      behind_lf p,
      null_app p (ascii " ") refl,
      no_marker_digits p 32 (unfold digit in refl),
      and-false (same w (ascii ".") || same w (ascii ")")),
    )
    (ap (λ (r : Bytes). 32 ∷ r) (sym (append_assoc (escaped_chunk w true false) (more_words true ws) (cond (ends_with_white s) (ascii " ") []))))

normalized_behind : (opts : FormatOpts) (p s : Bytes)
    → opts.skip_escape ≡ false
    → opts.inline ≡ false
    → opts.list_item ≡ false
    → plain_text s ≡ true
    → ascii " " ++ normalized opts (p ++ ascii " ") s ≡ more_words true (words s) ++ cond (ends_with_white s) (ascii " ") []
unfolding normalized
normalized_behind opts p s e n l h =
    rw (behind_blank p, behind_lf p) (normalized_more opts p s (words s) e n l (text_some s h))

last_plain : (s : Bytes) → plain_text s ≡ true → ends_with_any wide_blanks (last_word (words s)) ≡ false
unfolding plain_text plain_ends
last_plain s h = not-true _ (and_r (not (begins_with_any wide_blanks (first_word (words s)))) _ (and_r (not (null (words s)) && without (0 ∷ 11 ∷ 38 ∷ []) s) _ h))

-- what the writer has written before it closes a heading
pub heading_grown : (opts : FormatOpts) (y s : Bytes) (l : ℕ)
    → opts.skip_escape ≡ false
    → opts.inline ≡ false
    → opts.list_item ≡ false
    → plain_text s ≡ true
    → headed y l ++ normalized opts (headed y l) s
    ≡ ((y ++ ascii "\n") ++ replicate (suc l) 35) ++ (more_words true (words s) ++ cond (ends_with_white s) (ascii " ") [])
heading_grown opts y s l e n i h =
    let p : Bytes = (y ++ ascii "\n") ++ replicate (suc l) 35 in
    ap (λ (u : Bytes). u ++ normalized opts u s) (sym (append_assoc (y ++ ascii "\n") (replicate (suc l) 35) (ascii " ")))
    ∙ (append_assoc p (ascii " ") (normalized opts (p ++ ascii " ") s) ∙ ap (λ (r : Bytes). p ++ r) (normalized_behind opts p s e n i h))

-- and when it closes it
pub heading_text : (opts : FormatOpts) (y s : Bytes) (l : ℕ)
    → opts.skip_escape ≡ false
    → opts.inline ≡ false
    → opts.list_item ≡ false
    → plain_text s ≡ true
    → (escape_closing_hashes (headed y l ++ normalized opts (headed y l) s)).text
    ≡ ((y ++ ascii "\n") ++ heading_line (suc l) (words s)) ++ cond (ends_with_white s) (ascii " ") []
unfolding heading_line
heading_text opts y s l e n i h =
    let z : Bytes = cond (ends_with_white s) (ascii " ") [] in
    let p : Bytes = (y ++ ascii "\n") ++ replicate (suc l) 35 in
    ap (λ (u : Bytes). (escape_closing_hashes u).text) (heading_grown opts y s l e n i h)
    ∙ (closing_words p (words s) z (text_words s h) (text_some s h) (last_plain s h) (end_blank (ends_with_white s))
    ∙ (sym (append_assoc p (heading_words (words s)) z)
    ∙ ap (λ (r : Bytes). r ++ z) (append_assoc (y ++ ascii "\n") (replicate (suc l) 35) (heading_words (words s)))))

-- ---- its ends

words_last : (x : Bytes) (ws : List Bytes) → plain_words ws ≡ true → last_is white x ≡ false → last_is white (x ++ heading_words ws) ≡ false
unfolding plain_words heading_words
words_last x [] h k = rw (append-nil x) k
words_last x (w ∷ ws) h l =
    let k : plain_word w ≡ true = and_l (plain_word w) _ h in
    let c : Bytes = heading_word (null ws && every hash w) w in
    let e : last_is white c ≡ false = word_last w (word_Esc (null ws && every hash w) (null ws) w refl k) k in
    rw (← append_assoc x (32 ∷ c) (heading_words ws))
    (words_last (x ++ (32 ∷ c)) ws (and_r (plain_word w) _ h) (last_keep white x (32 ∷ c) (last_keep white (32 ∷ []) c e)))

pub heading_first : (l : ℕ) (ws : List Bytes) → first_is white (heading_line (suc l) ws) ≡ false
unfolding heading_line first_is white isin
heading_first l ws = refl

pub heading_last : (s : Bytes) (l : ℕ) → plain_text s ≡ true → last_is white (heading_line (suc l) (words s)) ≡ false
unfolding heading_line
heading_last s l h = words_last (replicate (suc l) 35) (words s) (text_words s h) (last_replicate white l 35 (unfold white isin in refl))
