-- The text of a link ends at the bracket that was written behind it.
use Rattle.std.specs.Prelude.{ℕ, zero, suc, ◌≡◌, not, ◌&&◌, ◌||◌, eqb, replicate}
use Rattle.std.proofs.Common.{arith, sym, ◌∙◌, length-append, eqb-true}
use Rattle.std.proofs.Math.Path.{refl}
use Rattle.std.proofs.Math.Bool.{Bool, true, false, cond, and-false}
use Rattle.std.proofs.lemmas.Bool.{false≢true, not-true}
use mathlib.Core.List.{List, [], ◌∷◌, ◌++◌, append_assoc}
use Rattle.std.proofs.Math.Option.{Option, none, some}
use Rattle.spec.specs.Bytes.{Bytes, ascii, null, same, isin, ends_with, digit, is_blank, words}
use Rattle.spec.specs.Md.Ctx.{new}
use Rattle.spec.specs.Md.TextUtils.{is_escaped, escaped_from, escaped_chunk, ends_with_white, starts_with_white, more_words, normalized_words, normalized}
use Rattle.spec.specs.Reading.Lines.{punctuation, run, drop_run}
use Rattle.spec.specs.Reading.Inline.{escaped, slashed, anywhere}
use Rattle.spec.specs.Pieces.CodeSpans.{preceded, up_to}
use Rattle.spec.specs.Pieces.LinkWholes.{span_by, span_length, brackets_behind, span_behind, link_text, is_some, span_closes, balanced_text, nested_link, holds_link}
use Rattle.spec.proofs.Tests.{and_l, and_r, apart}
use Rattle.recovery.proofs.Escapes.{escaped_punctuation}
use Rattle.recovery.proofs.Pieces.Cells.{quiet, unescaped_quiet}
use Rattle.recovery.proofs.Written.Normalized.{no_marker_digits}

-- ---- a code span that is closed goes no farther in a longer text

unfoldable extended : Bytes → Option (Bytes × Bytes) → Option (Bytes × Bytes)
extended z none = none
extended z (some p) = some (p.0, p.1 ++ z)

preceded_some : (x : Bytes) (o : Option (Bytes × Bytes)) → is_some (preceded x o) ≡ is_some o
unfolding preceded is_some
preceded_some x none = refl
preceded_some x (some p) = refl

preceded_extended : (x z : Bytes) (o : Option (Bytes × Bytes)) → preceded x (extended z o) ≡ extended z (preceded x o)
unfolding preceded extended
preceded_extended x z none = refl
preceded_extended x z (some p) = refl

up_to_extended : (n k : ℕ) (r z : Bytes) → is_some (up_to n k r) ≡ true → up_to n k (r ++ (93 ∷ z)) ≡ extended (93 ∷ z) (up_to n k r)
unfolding up_to
up_to_extended n k [] z h = go (eqb k n) h
  where
    go : (t : Bool) → is_some (cond t (some ([], [])) none) ≡ true
        → cond t (some ([], 93 ∷ z)) (preceded (replicate k 96 ++ (93 ∷ [])) (up_to n 0 z)) ≡ extended (93 ∷ z) (cond t (some ([], [])) none)
    go true e = unfold extended in refl
    go false e = unfold is_some in absurd (false≢true e)
up_to_extended n k (b ∷ r) z h = go (eqb b 96) (eqb k n) refl h (λ e. up_to_extended n (suc k) r z e) (λ e. up_to_extended n 0 r z e)
  where
    go : (t u : Bool) → eqb b 96 ≡ t
        → is_some (cond t (up_to n (cond t (suc k) 0) r) (cond u (some ([], b ∷ r)) (preceded (replicate k 96 ++ (b ∷ [])) (up_to n (cond t (suc k) 0) r)))) ≡ true
        → (is_some (up_to n (suc k) r) ≡ true → up_to n (suc k) (r ++ (93 ∷ z)) ≡ extended (93 ∷ z) (up_to n (suc k) r))
        → (is_some (up_to n 0 r) ≡ true → up_to n 0 (r ++ (93 ∷ z)) ≡ extended (93 ∷ z) (up_to n 0 r))
        → cond t (up_to n (cond t (suc k) 0) (r ++ (93 ∷ z))) (cond u (some ([], b ∷ (r ++ (93 ∷ z)))) (preceded (replicate k 96 ++ (b ∷ [])) (up_to n (cond t (suc k) 0) (r ++ (93 ∷ z)))))
        ≡ extended (93 ∷ z) (cond t (up_to n (cond t (suc k) 0) r) (cond u (some ([], b ∷ r)) (preceded (replicate k 96 ++ (b ∷ [])) (up_to n (cond t (suc k) 0) r))))
    go true u e q f g = f q
    go false true e q f g = unfold extended in refl
    go false false e q f g = rw (g (sym (preceded_some (replicate k 96 ++ (b ∷ [])) (up_to n 0 r)) ∙ q)) (preceded_extended (replicate k 96 ++ (b ∷ [])) (93 ∷ z) (up_to n 0 r))

run_more : (r z : Bytes) → run 96 (r ++ (93 ∷ z)) ≡ run 96 r
unfolding run
run_more [] z = refl
run_more (b ∷ r) z = rw (run_more r z)

drop_more : (r z : Bytes) → drop_run 96 (r ++ (93 ∷ z)) ≡ drop_run 96 r ++ (93 ∷ z)
unfolding drop_run
drop_more [] z = refl
drop_more (b ∷ r) z = go (eqb b 96) (drop_more r z)
  where
    go : (t : Bool) → drop_run 96 (r ++ (93 ∷ z)) ≡ drop_run 96 r ++ (93 ∷ z)
        → cond t (drop_run 96 (r ++ (93 ∷ z))) (b ∷ (r ++ (93 ∷ z))) ≡ cond t (drop_run 96 r) (b ∷ r) ++ (93 ∷ z)
    go true ih = ih
    go false ih = refl

by_more : (o : Option (Bytes × Bytes)) (r z : Bytes) → is_some o ≡ true → span_by (extended z o) (r ++ z) ≡ span_by o r
unfolding is_some span_by extended
by_more none r z h = absurd (false≢true h)
by_more (some p) r z h = rw (length-append r z, length-append p.1 z) (omega arith)

span_more : (r z : Bytes) → span_closes r ≡ true → span_length (r ++ (93 ∷ z)) ≡ span_length r
unfolding span_closes span_length
span_more r z h =
    rw (run_more r z, drop_more r z, up_to_extended (suc (run 96 r)) 0 (drop_run 96 r) z h)
    (by_more (up_to (suc (run 96 r)) 0 (drop_run 96 r)) r (93 ∷ z) h)

behind_more : (e : Bool) (b : ℕ) (r z : Bytes) → (not (not e && eqb b 96) || span_closes r) ≡ true → span_behind e b (r ++ (93 ∷ z)) ≡ span_behind e b r
unfolding span_behind
behind_more e b r z h = go (not e && eqb b 96) h
  where
    go : (t : Bool) → (not t || span_closes r) ≡ true → cond t (span_length (r ++ (93 ∷ z))) 0 ≡ cond t (span_length r) 0
    go true q = span_more r z q
    go false q = refl

-- ---- the text

end_parts : (n : ℕ) (s : Bool) (k : ℕ) (z : Bytes) → (eqb n 0 && (not s && eqb k 0)) ≡ true → link_text n s k (93 ∷ z) ≡ some ([], z)
end_parts n s k z h =
    let m : (not s && eqb k 0) ≡ true = and_r (eqb n 0) _ h in
    rw (eqb-true n 0 (and_l (eqb n 0) _ h), not-true s (and_l (not s) _ m), eqb-true k 0 (and_r (not s) _ m)) (unfold link_text escaped in refl)

-- a text whose brackets are escaped or balanced ends where it was joined
pub text_parts : (n : ℕ) (s : Bool) (k : ℕ) (x z : Bytes) → balanced_text n s k x ≡ true → link_text n s k (x ++ (93 ∷ z)) ≡ some (x, z)
unfolding link_text balanced_text
text_parts n s k [] z h = end_parts n s k z h
text_parts n s (suc k) (b ∷ x) z h = rw (text_parts n false k x z h) (unfold preceded in refl)
text_parts n s zero (b ∷ x) z h =
    let c : Bool = not (escaped s b) && (eqb b 93 && eqb n 0) in
    let q : Bool = not (not (escaped s b) && eqb b 96) || span_closes x in
    let m : (q && balanced_text (brackets_behind (escaped s b) n b) (slashed s b) (span_behind (escaped s b) b x) x) ≡ true = and_r (not c) _ h in
    rw (
      not-true c (and_l (not c) _ h),
      behind_more (escaped s b) b x z (and_l q _ m),
      text_parts (brackets_behind (escaped s b) n b) (slashed s b) (span_behind (escaped s b) b x) x z (and_r q _ m),
    )
    (unfold preceded in refl)

-- ---- words that the writer escapes

-- what holds of nothing, and of a text behind a byte that needs no escape or behind an escaped one
record Kept (P : Bytes → Type 0) : Type 0 where
  nothing : P []
  single : (b : ℕ) (r : Bytes) → quiet b ≡ true → P r → P (b ∷ r)
  double : (b : ℕ) (r : Bytes) → punctuation b ≡ true → P r → P (92 ∷ b ∷ r)

-- holds of what is appended behind an opening bracket
module _ (P : Bytes → Type 0) (kept : Kept P) where
  from_kept : (start marker underline : Bool) (w r : Bytes) → P r → P (escaped_from start marker underline w ++ r)
  unfolding escaped_from
  from_kept start marker underline [] r k = k
  from_kept start marker underline (b ∷ w) r k = go (is_escaped start marker underline b w) refl (from_kept false marker underline w r k)
    where
      go : (t : Bool) → is_escaped start marker underline b w ≡ t → P (escaped_from false marker underline w ++ r)
          → P ((cond t (ascii "\\") [] ++ (b ∷ escaped_from false marker underline w)) ++ r)
      go true e ih = kept.double b (escaped_from false marker underline w ++ r) (escaped_punctuation start marker underline b w e) ih
      go false e ih = kept.single b (escaped_from false marker underline w ++ r) (unescaped_quiet start marker underline b w e) ih

  chunk_kept : (w r : Bytes) (start : Bool) → P r → P (escaped_chunk w true start ++ r)
  unfolding escaped_chunk
  chunk_kept w r start k = from_kept start _ _ w r k

  blank_kept : (r : Bytes) → P r → P (32 ∷ r)
  unfolding quiet isin
  blank_kept r k = kept.single 32 r refl k

  more_kept : (ws : List Bytes) (r : Bytes) → P r → P (more_words true ws ++ r)
  unfolding more_words
  more_kept [] r k = k
  more_kept (w ∷ ws) r k =
      rw (append_assoc (escaped_chunk w true false) (more_words true ws) r)
      (blank_kept (escaped_chunk w true false ++ (more_words true ws ++ r)) (chunk_kept w (more_words true ws ++ r) false (more_kept ws r k)))

  lead_kept : (t : Bool) (r : Bytes) → P r → P (cond t (ascii " ") [] ++ r)
  lead_kept true r k = blank_kept r k
  lead_kept false r k = k

  end_kept : (t : Bool) → P (cond t (ascii " ") [])
  end_kept true = blank_kept [] kept.nothing
  end_kept false = kept.nothing

  words_kept : (u s : Bytes) (ws : List Bytes) → P (normalized_words new (u ++ (91 ∷ [])) s ws)
  unfolding normalized_words
  words_kept u s [] = kept.nothing
  words_kept u s (w ∷ ws) =
      let t : Bytes = u ++ (91 ∷ []) in
      let starts : Bool = (null t || ends_with (ascii "\n") t) || false in
      let e : Bytes = cond (ends_with_white s) (ascii " ") [] in
      rw (no_marker_digits u 91 (unfold digit in refl), and-false (same w (ascii ".") || same w (ascii ")")))
      (lead_kept (not ((ends_with (ascii "\n") t || ends_with (ascii " ") t) || null t) && starts_with_white s) (escaped_chunk w true starts ++ (more_words true ws ++ e))
      (chunk_kept w (more_words true ws ++ e) starts (more_kept ws e (end_kept (ends_with_white s)))))

  normalized_kept : (u s : Bytes) → P (normalized new (u ++ (91 ∷ [])) s)
  unfolding normalized
  normalized_kept u s =
      go (not (ends_with (ascii "\n") (u ++ (91 ∷ [])) || ends_with (ascii " ") (u ++ (91 ∷ []))) && (not (null s) && is_blank s))
    where
      go : (t : Bool) → P (cond t (ascii " ") (normalized_words new (u ++ (91 ∷ [])) s (words s)))
      go true = end_kept true
      go false = words_kept u s (words s)

-- ---- their brackets are escaped

quiet_text : (b : ℕ) (r : Bytes) → quiet b ≡ true → balanced_text 0 false 0 r ≡ true → balanced_text 0 false 0 (b ∷ r) ≡ true
unfolding balanced_text escaped slashed brackets_behind span_behind quiet isin
quiet_text b r h k =
    rw (apart quiet b 93 h refl, apart quiet b 96 h refl, apart quiet b 91 h refl, apart quiet b 92 h refl) k

back_text : (b : ℕ) (r : Bytes) → punctuation b ≡ true → balanced_text 0 false 0 r ≡ true → balanced_text 0 false 0 (92 ∷ b ∷ r) ≡ true
unfolding balanced_text escaped slashed brackets_behind span_behind
back_text b r h k = rw h k

pub normalized_text : (u s : Bytes) → balanced_text 0 false 0 (normalized new (u ++ (91 ∷ [])) s) ≡ true
normalized_text u s =
    normalized_kept (λ r. balanced_text 0 false 0 r ≡ true)
    (record { nothing = unfold balanced_text in refl; single = quiet_text; double = back_text }) u s

-- ---- and they hold no link

-- from every byte before it on, no link begins in r
unfoldable Linkless : Bytes → Type 0
Linkless r = (p : ℕ) → anywhere nested_link p false r ≡ false

quiet_linkless : (b : ℕ) (r : Bytes) → quiet b ≡ true → Linkless r → Linkless (b ∷ r)
unfolding Linkless anywhere escaped slashed nested_link quiet isin
quiet_linkless b r h k p = rw (apart quiet b 91 h refl, apart quiet b 92 h refl) (k _)

back_linkless : (b : ℕ) (r : Bytes) → punctuation b ≡ true → Linkless r → Linkless (92 ∷ b ∷ r)
unfolding Linkless anywhere escaped slashed nested_link
back_linkless b r h k p = rw h (k _)

pub normalized_linkless : (u s : Bytes) → holds_link (normalized new (u ++ (91 ∷ [])) s) ≡ false
unfolding holds_link Linkless
normalized_linkless u s =
    normalized_kept Linkless (record { nothing = λ p. unfold anywhere in refl; single = quiet_linkless; double = back_linkless }) u s 32
