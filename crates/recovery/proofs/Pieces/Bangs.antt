-- No image begins before a link: behind the text before it no `!` stands that is not escaped.
use Rattle.std.specs.Prelude.{ℕ, ◌-◌, ◌≡◌, Bool, cond, not, ◌&&◌, ◌||◌, eqb, length, take}
use Rattle.std.proofs.Math.Path.{refl}
use Rattle.std.proofs.Common.{sym, ap, ◌∙◌, true≢false, eqb-true}
use Rattle.std.proofs.Math.Bool.{true, false, and-false, and-true}
use Rattle.std.proofs.lemmas.Bool.{false≢true}
use mathlib.Core.List.{List, [], ◌∷◌, ◌++◌, append-nil, append_assoc}
use Rattle.spec.specs.Bytes.{Bytes, ascii, null, same, isin, starts_with, ends_with, is_blank, words}
use Rattle.spec.specs.Everything.{everything}
use Rattle.spec.specs.Md.TextUtils.{ends_with_marker_digits, is_escaped, escaped_from, escaped_chunk, ends_with_white, starts_with_white, more_words, normalized_words, normalized, escape_trailing_bang}
use Rattle.spec.specs.Out.{keep, replace}
use Rattle.spec.specs.Pieces.Images.{waits, opens_image}
use Rattle.spec.specs.Reading.Inline.{escaped, slashed}
use Rattle.spec.specs.Reading.Lines.{punctuation}
use Rattle.spec.specs.declared.ctx.FormatOpts.{FormatOpts}
use Rattle.spec.proofs.Tests.{and_r, or_elim, same_eq}
use Rattle.recovery.proofs.Escapes.{escaped_punctuation}
use Rattle.recovery.proofs.Fences.{ends_more}
use Rattle.recovery.proofs.Pieces.ClosingEscapes.{last_byte}
use Rattle.recovery.proofs.Pieces.Escapes.{bare_backslash, from_some, dot_chunk}
use Rattle.recovery.proofs.Written.Ends.{null_app, ends_by}

-- ---- the scan over a text in parts

pub waits_app : (s : Bool) (x y : Bytes) → waits s (x ++ y) ≡ waits (waits s x) y
unfolding waits
waits_app s [] y = refl
waits_app s (b ∷ x) y = waits_app (slashed s b) x y

opens_app : (s : Bool) (x y : Bytes) → null y ≡ false → opens_image s (x ++ y) ≡ opens_image (waits s x) y
unfolding opens_image waits
opens_app s [] y h = refl
opens_app s (b ∷ x) y h = rw (null_app x y h) (opens_app (slashed s b) x y h)

-- the last byte is that of the last part
ends_app : (c : ℕ) (x y : Bytes) → null y ≡ false → ends_with (c ∷ []) (x ++ y) ≡ ends_with (c ∷ []) y
ends_app c [] y k = refl
ends_app c (b ∷ []) [] k = unfold null in absurd (true≢false k)
ends_app c (b ∷ []) (d ∷ y) k = ends_more c b d y
ends_app c (b ∷ d ∷ x) y k = ends_more c b d (x ++ y) ∙ ends_app c (d ∷ x) y k

ends_one : (c b : ℕ) → ends_with (c ∷ []) (b ∷ []) ≡ eqb b c
unfolding ends_with same
ends_one c b = and-true (eqb b c)

-- a text that opens an image ends with `!`
opens_ends : (s : Bool) (t : Bytes) → opens_image s t ≡ true → ends_with (ascii "!") t ≡ true
unfolding opens_image null
opens_ends s [] h = absurd (false≢true h)
opens_ends s (b ∷ []) h = ends_one 33 b ∙ and_r (not (escaped s b)) _ h
opens_ends s (b ∷ c ∷ r) h = ends_more 33 b c r ∙ opens_ends (slashed s b) (c ∷ r) h

-- ---- the backslash

-- a `!` at the end of t is not escaped
unfoldable pub open_bang : Bytes → Bool
open_bang t = not (ends_with (ascii "!") t) || opens_image false t

bang_waits : (f : Bytes) → opens_image false (f ++ (33 ∷ [])) ≡ true → waits false f ≡ false
bang_waits f h = go (waits false f) (sym (opens_app false f (33 ∷ []) (unfold null in refl)) ∙ h)
  where
    go : (s : Bool) → opens_image s (33 ∷ []) ≡ true → s ≡ false
    go true e = unfold opens_image null escaped punctuation in absurd (false≢true e)
    go false e = refl

bang_closed : (f : Bytes) → waits false f ≡ false → opens_image false (f ++ (92 ∷ 33 ∷ [])) ≡ false
bang_closed f h = opens_app false f (92 ∷ 33 ∷ []) (unfold null in refl) ∙ rw h (unfold opens_image null escaped slashed punctuation in refl)

-- 6.4: behind what `escape_trailing_bang` leaves, a bracket opens no image, whatever t holds, but where its last byte is a `!` that is
-- escaped already
pub no_image_lem : (t : Bytes) → open_bang t ≡ true → opens_image false (escape_trailing_bang t).text ≡ false
unfolding escape_trailing_bang open_bang replace keep
no_image_lem t h = go (ends_with (ascii "!") t) refl h
  where
    go : (e : Bool) → ends_with (ascii "!") t ≡ e → (not e || opens_image false t) ≡ true
        → opens_image false (cond e (replace (λ u. take (length u - 1) u ++ ascii "\\!") t) (keep t)).text ≡ false
    go true e k =
        let f : Bytes = take (length t - 1) t in
        let is : t ≡ f ++ (33 ∷ []) = last_byte 33 t e in
        bang_closed f (bang_waits f (sym (ap (opens_image false) is) ∙ k))
    go false e k = none (opens_image false t) refl
      where
        none : (o : Bool) → opens_image false t ≡ o → o ≡ false
        none true q = absurd (true≢false (sym (opens_ends false t q) ∙ e))
        none false q = refl

-- ---- texts leave no backslash and no escaped `!` at their end

pub record Settled (t : Bytes) : Type 0 where
  pub still : waits false t ≡ false
  pub bang : open_bang t ≡ true

pub settled_nothing : Settled []
unfolding waits open_bang ends_with same
settled_nothing = record { still = refl; bang = refl }

-- also behind a byte that is neither, as the one that ends a link, a code span, emphasis or a line
pub settled_last : (x : Bytes) (b : ℕ) → eqb b 92 ≡ false → eqb b 33 ≡ false → Settled (x ++ (b ∷ []))
settled_last x b h k =
    record {
      still = waits_app false x (b ∷ []) ∙ unfold waits slashed in rw h (and-false (not (waits false x)));
      bang = unfold open_bang same in rw (ends_by (ascii "!") x (b ∷ []) refl, k);
    }

bang_app : (x y : Bytes) → waits false x ≡ false → null y ≡ false → open_bang (x ++ y) ≡ open_bang y
unfolding open_bang
bang_app x y h k = rw (opens_app false x y k, h, ends_app 33 x y k)

pub settled_app : (x y : Bytes) → Settled x → Settled y → Settled (x ++ y)
settled_app x [] s t = rw append-nil s
settled_app x (b ∷ y) s t =
    record {
      still = waits_app false x (b ∷ y) ∙ rw s.still t.still;
      bang = bang_app x (b ∷ y) s.still (unfold null in refl) ∙ t.bang;
    }

settled_one : (b : ℕ) → eqb b 92 ≡ false → Settled (b ∷ [])
settled_one b h =
    record { still = unfold waits slashed in h; bang = unfold open_bang opens_image null escaped in rw (ends_one 33 b) (excluded (eqb b 33)) }
  where
    excluded : (t : Bool) → (not t || t) ≡ true
    excluded true = refl
    excluded false = refl

settled_pair : (b : ℕ) → punctuation b ≡ true → eqb b 33 ≡ false → Settled (92 ∷ b ∷ [])
settled_pair b p h =
    record {
      still = unfold waits slashed in refl;
      bang = unfold open_bang in rw (ends_more 33 92 b [], ends_one 33 b, h);
    }

settled_behind : (b : ℕ) (r : Bytes) → punctuation b ≡ true → null r ≡ false → Settled r → Settled (92 ∷ b ∷ r)
settled_behind b r p n s =
    record {
      still = unfold waits slashed in s.still;
      bang = bang_app (92 ∷ b ∷ []) r (unfold waits slashed in refl) n ∙ s.bang;
    }

-- `!` is escaped only before a bracket
last_bang : (start marker underline : Bool) (b : ℕ) → is_escaped start marker underline b [] ≡ true → eqb b 33 ≡ false
last_bang start marker underline b h = go (eqb b 33) refl
  where
    bang : is_escaped start marker underline 33 [] ≡ false
    bang = unfold is_escaped isin starts_with same in rw (and-false start, and-false marker, and-false underline, and-false start)

    go : (t : Bool) → eqb b 33 ≡ t → t ≡ false
    go true e = absurd (true≢false (sym h ∙ (ap (λ (c : ℕ). is_escaped start marker underline c []) (eqb-true b 33 e) ∙ bang)))
    go false e = refl

settled_from : (start marker underline : Bool) (w : Bytes) → Settled (escaped_from start marker underline w)
unfolding escaped_from
settled_from start marker underline [] = settled_nothing
settled_from start marker underline (b ∷ []) = go (is_escaped start marker underline b []) refl
  where
    go : (t : Bool) → is_escaped start marker underline b [] ≡ t → Settled (cond t (ascii "\\") [] ++ (b ∷ []))
    go true e = settled_pair b (escaped_punctuation start marker underline b [] e) (last_bang start marker underline b e)
    go false e = settled_one b (bare_backslash start marker underline b [] e)
settled_from start marker underline (b ∷ c ∷ w) =
    go (is_escaped start marker underline b (c ∷ w)) refl (settled_from false marker underline (c ∷ w)) (from_some false marker underline c w)
  where
    go : (t : Bool) → is_escaped start marker underline b (c ∷ w) ≡ t
        → Settled (escaped_from false marker underline (c ∷ w))
        → null (escaped_from false marker underline (c ∷ w)) ≡ false
        → Settled (cond t (ascii "\\") [] ++ (b ∷ escaped_from false marker underline (c ∷ w)))
    go true e s n = settled_behind b _ (escaped_punctuation start marker underline b (c ∷ w) e) n s
    go false e s n = settled_app (b ∷ []) _ (settled_one b (bare_backslash start marker underline b (c ∷ w) e)) s

settled_chunk : (w : Bytes) (start : Bool) → Settled (escaped_chunk w true start)
unfolding escaped_chunk
settled_chunk w start = settled_from start _ _ w

settled_blank : (t : Bool) → Settled (cond t (ascii " ") [])
settled_blank true = settled_last [] 32 refl refl
settled_blank false = settled_nothing

settled_more : (ws : List Bytes) → Settled (more_words true ws)
unfolding more_words
settled_more [] = settled_nothing
settled_more (w ∷ ws) = settled_app (ascii " ") _ (settled_blank true) (settled_app _ _ (settled_chunk w false) (settled_more ws))

-- the backslash before a dot that would make a list marker of the digits before it
settled_dot : (w : Bytes) (start : Bool) → (same w (ascii ".") || same w (ascii ")")) ≡ true → Settled (92 ∷ escaped_chunk w true start)
unfolding punctuation
settled_dot w start h =
    rw (dot_chunk w start h)
    (or_elim (same w (ascii ".")) _ (λ e. rw (same_eq w (ascii ".") e) (settled_pair 46 refl refl))
    (λ e. rw (same_eq w (ascii ")") e) (settled_pair 41 refl refl)) h)

settled_first : (white dot marker start : Bool) (w : Bytes) → (dot ≡ true → (same w (ascii ".") || same w (ascii ")")) ≡ true)
    → Settled (cond white (ascii " ") (cond (dot && marker) (ascii "\\") []) ++ escaped_chunk w true start)
settled_first true dot marker start w h = settled_app (ascii " ") _ (settled_blank true) (settled_chunk w start)
settled_first false true true start w h = settled_dot w start (h refl)
settled_first false true false start w h = settled_chunk w start
settled_first false false marker start w h = settled_chunk w start

settled_words : (opts : FormatOpts) (u s : Bytes) (ws : List Bytes) → opts.skip_escape ≡ false → Settled (normalized_words opts u s ws)
unfolding normalized_words
settled_words opts u s [] h = settled_nothing
settled_words opts u s (w ∷ ws) h =
    let dot : Bool = same w (ascii ".") || same w (ascii ")") in
    let start : Bool = (null u || ends_with (ascii "\n") u) || opts.list_item in
    let white : Bool = (opts.inline || not ((ends_with (ascii "\n") u || ends_with (ascii " ") u) || null u)) && starts_with_white s in
    let lead : Bytes = cond white (ascii " ") (cond (dot && ends_with_marker_digits u) (ascii "\\") []) in
    let end : Bytes = cond (ends_with_white s) (ascii " ") [] in
    rw (h, ← append_assoc lead (escaped_chunk w true start) (more_words true ws ++ end))
    (settled_app _ _ (settled_first white dot (ends_with_marker_digits u) start w (λ e. e))
    (settled_app _ _ (settled_more ws) (settled_blank (ends_with_white s))))

-- behind such a text, what is appended for a text leaves such a text
pub settled_text : (opts : FormatOpts) (u s : Bytes) → opts.skip_escape ≡ false → Settled u → Settled (u ++ normalized opts u s)
unfolding normalized
settled_text opts u s h k = settled_app u _ k (go (not (ends_with (ascii "\n") u || ends_with (ascii " ") u) && (not (null s) && is_blank s)))
  where
    go : (t : Bool) → Settled (cond t (ascii " ") (normalized_words opts u s (words s)))
    go true = settled_blank true
    go false = settled_words opts u s (words s) h

-- ---- the exception

-- a text that ends with an escaped `!`: the backslash is escaped, and the bracket opens an image. No text of nodes ends so (`settled_text`)
pub bang_lost : opens_image false (escape_trailing_bang (ascii "\\!")).text ≡ true
unfolding everything
bang_lost = refl
