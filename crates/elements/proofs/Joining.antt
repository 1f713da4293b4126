-- The words of a text that comes in pieces, joined by blanks.
use Prim.Native.Nat.{ℕ, ◌+◌, ◌≤◌, ◌<◌}
use native.Mathlib.Numerals.{add-one}
use mathlib.Core.Path.{◌≡◌, refl, ap, ◌∙◌, sym}
use mathlib.Core.Bool.{Bool, true, false, cond, not, ◌&&◌, ◌||◌, false≢true}
use mathlib.Core.List.{[], ◌∷◌, ◌++◌, append_assoc}
use lib.ListN.{length, drop, get_or, drop_of_length-le}
use lib.Seq.{drop-cons}
use Rattle.spec.specs.Bytes.{Bytes, ascii, white, words, split, parts, cut_at, filled, null, join, join_rest}
use Rattle.spec.specs.Out.{push, and_then}
use Rattle.spec.specs.Tree.{Forest, text_of}
use Rattle.text.proofs.Writing.{push_both}
use Rattle.elements.specs.JoinedWords.{word_byte, words_on, some_after, gap_after, Joins}
use Rattle.elements.specs.declared.pre.Joined.{Joined}
use Rattle.std.specs.Prelude.{Result, Ok, Err}
use Rattle.std.specs.Result.{IsErr}
use Rattle.text.specs.Texts.{WritesTo}
use Rattle.text.specs.declared.text.Text.{Text}
use Rattle.text.specs.declared.buffer.Full.{Full}
use Rattle.nodes.proofs.Appending.{Spells}

-- ---- all pieces together

-- behind a word, and behind a white byte that follows one
on_some : (s : Bytes)
    → (words_on true false s ≡ (parts white s).0 ++ join_rest (ascii " ") (filled (parts white s).1))
    × (words_on true true s ≡ join_rest (ascii " ") (words s))
unfolding words_on words split parts cut_at filled null join_rest
on_some [] = (refl, refl)
on_some (b ∷ s) = let r = on_some s in (in_word_lem r.0 r.1 (white b), in_gap r.0 r.1 (white b))
  where
    in_word_lem : words_on true false s ≡ (parts white s).0 ++ join_rest (ascii " ") (filled (parts white s).1) → words_on true true s ≡ join_rest (ascii " ") (words s) → (t : Bool)
        → cond t [] (b ∷ []) ++ words_on true t s ≡ (cut_at t b (parts white s)).0 ++ join_rest (ascii " ") (filled (cut_at t b (parts white s)).1)
    in_word_lem p q true = q
    in_word_lem p q false = ap (λ (x : Bytes). b ∷ x) p

    in_gap : words_on true false s ≡ (parts white s).0 ++ join_rest (ascii " ") (filled (parts white s).1) → words_on true true s ≡ join_rest (ascii " ") (words s) → (t : Bool)
        → cond t [] (32 ∷ b ∷ []) ++ words_on true t s ≡ join_rest (ascii " ") (filled ((cut_at t b (parts white s)).0 ∷ (cut_at t b (parts white s)).1))
    in_gap p q true = q
    in_gap p q false = ap (λ (x : Bytes). 32 ∷ b ∷ x) p

-- before any word
on_none : (gap : Bool) (s : Bytes) → words_on false gap s ≡ join (ascii " ") (words s)
unfolding words_on words split parts cut_at filled null join
on_none gap [] = refl
on_none gap (b ∷ s) = go (on_none true s) (white b)
  where
    go : words_on false true s ≡ join (ascii " ") (words s) → (t : Bool)
        → cond t [] (b ∷ []) ++ words_on (not t) t s ≡ join (ascii " ") (filled ((cut_at t b (parts white s)).0 ∷ (cut_at t b (parts white s)).1))
    go h true = h
    go h false = ap (λ (x : Bytes). b ∷ x) (on_some s).0

-- the words of all texts of a forest
pub words_all : (f : Forest) (t : Bytes) → push (join (ascii " ") (words (text_of f))) t ≡ push (words_on false false (text_of f)) t
words_all f t = ap (λ (x : Bytes). push x t) (sym (on_none false (text_of f)))

-- ---- from piece to piece

on_both : (some gap : Bool) (s u : Bytes) → words_on some gap (s ++ u) ≡ words_on some gap s ++ words_on (some_after some s) (gap_after gap s) u
unfolding words_on some_after gap_after
on_both some gap [] u = refl
on_both some gap (b ∷ s) u =
    ap (λ (x : Bytes). word_byte (some && gap) b ++ x) (on_both (some || not (white b)) (white b) s u)
    ∙ sym (append_assoc (word_byte (some && gap) b) (words_on (some || not (white b)) (white b) s) _)

-- by a state of both
abbrev pub words_in : Bool × Bool → Bytes → Bytes
words_in x s = words_on x.0 x.1 s

pub words_spell : Spells words_in (λ (x : Bool × Bool) (s : Bytes). (some_after x.0 s, gap_after x.1 s))
unfolding words_on
words_spell = record { none = λ x. refl; joins = λ x s t. on_both x.0 x.1 s t }

-- ---- from byte to byte

module _ (s : Bytes) (i : ℕ) where
  module _ (l : i < length s) (some gap : Bool) {w : Bool} (q : w ≡ white (get_or s i 0)) where
    next : drop i s ≡ get_or s i 0 ∷ drop (i + 1) s
    next = drop-cons s i 0 l ∙ ap (λ (j : ℕ). get_or s i 0 ∷ drop j s) (sym (add-one i))

    pub byte_turn : (t : Bytes)
        → push (words_on some gap (drop i s)) t ≡ and_then (push (word_byte (some && gap) (get_or s i 0)) t) (push (words_on (some || not w) w (drop (i + 1) s)))
    unfolding words_on
    byte_turn t =
        ap (λ (x : Bytes). push (words_on some gap x) t) next
        ∙ push_both (word_byte (some && gap) (get_or s i 0)) (words_on (some || not (white (get_or s i 0))) (white (get_or s i 0)) (drop (i + 1) s)) t
        ∙ ap (λ (x : Bool). and_then (push (word_byte (some && gap) (get_or s i 0)) t) (push (words_on (some || not x) x (drop (i + 1) s)))) (sym q)

    pub some_turn : some_after some (drop i s) ≡ some_after (some || not w) (drop (i + 1) s)
    unfolding some_after
    some_turn = ap (some_after some) next ∙ ap (λ (x : Bool). some_after (some || not x) (drop (i + 1) s)) (sym q)

    pub gap_turn : gap_after gap (drop i s) ≡ gap_after w (drop (i + 1) s)
    unfolding gap_after
    gap_turn = ap (gap_after gap) next ∙ ap (λ (x : Bool). gap_after x (drop (i + 1) s)) (sym q)

  module _ (l : length s ≤ i) (some gap : Bool) where
    pub bytes_end : (t : Bytes) → push (words_on some gap (drop i s)) t ≡ push [] t
    unfolding words_on
    bytes_end t = ap (λ (x : Bytes). push (words_on some gap x) t) (drop_of_length-le s l)

    pub some_end : some_after some (drop i s) ≡ some
    unfolding some_after
    some_end = ap (some_after some) (drop_of_length-le s l)

    pub gap_end : gap_after gap (drop i s) ≡ gap
    unfolding gap_after
    gap_end = ap (gap_after gap) (drop_of_length-le s l)

-- where `?` returns early
pub joins_not : {before after : Text} {r : Result Joined Full} {some gap : Bool} {s : Bytes} → IsErr r → WritesTo before after (Err (record {})) (push (words_on some gap s)) → Joins before after r some gap s
joins_not {before} {after} {r} {some} {gap} {s} h w = go r h
  where
    go : (r : Result Joined Full) → IsErr r → Joins before after r some gap s
    go (Ok j) h = absurd (false≢true h)
    go (Err e) h = record { writes = w; state = tt }
