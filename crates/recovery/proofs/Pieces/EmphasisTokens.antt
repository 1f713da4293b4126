-- The tokens of escaped words and of marks, and what the delimiter stack makes of a pair of marks.
use Rattle.std.specs.Prelude.{ℕ, zero, suc, ◌≡◌, refl, Bool, true, false, cond, replicate}
use Rattle.std.proofs.Common.{ap, ◌∙◌}
use mathlib.Core.List.{List, [], ◌∷◌, ◌++◌, map, append-nil, append_assoc}
use Rattle.spec.specs.Bytes.{Bytes, ascii, isin}
use Rattle.spec.specs.Reading.Lines.{head_is}
use Rattle.spec.specs.Reading.Inline.{escaped, slashed, may_open, lengths_match}
use Rattle.spec.specs.Pieces.EmphasisReading.{Inlines, nothing, byte, emphasis, strong, joined, bytes, Run, Token, plain, delimiters, Beside_of, run_at, behind_slash, tokens, Opener, Stack, stack, signs, opener, put_on, put, matches, look_back, taken, wrapped, inserted, unmatched, closing, delimited, processed}
use Rattle.recovery.proofs.Escapes.{bare, Esc, enil, ebare, eback, bare_not}
use Rattle.recovery.proofs.Fences.{run_front, drop_front}
use Rattle.recovery.proofs.Pieces.Emphasis.{stars}

-- ---- what is joined

pub joined_nil : (x : Inlines) → joined x nothing ≡ x
unfolding joined
joined_nil nothing = refl
joined_nil (byte b x) = ap (byte b) (joined_nil x)
joined_nil (emphasis z x) = ap (emphasis z) (joined_nil x)
joined_nil (strong z x) = ap (strong z) (joined_nil x)

pub joined_assoc : (x y z : Inlines) → joined (joined x y) z ≡ joined x (joined y z)
unfolding joined
joined_assoc nothing y z = refl
joined_assoc (byte b x) y z = ap (byte b) (joined_assoc x y z)
joined_assoc (emphasis w x) y z = ap (emphasis w) (joined_assoc x y z)
joined_assoc (strong w x) y z = ap (strong w) (joined_assoc x y z)

put_nothing : (s : Stack) → put nothing s ≡ s
unfolding put
put_nothing s = go s.base s.openers
  where
    go : (base : Inlines) (os : List Opener) → put_on nothing base os ≡ record { base = base; openers = os }
    go base [] = unfold put_on stack in rw (joined_nil base)
    go base (o ∷ os) = unfold put_on stack opener in rw (joined_nil o.content)

put_put : (x y : Inlines) (s : Stack) → put y (put x s) ≡ put (joined x y) s
unfolding put
put_put x y s = go s.base s.openers
  where
    go : (base : Inlines) (os : List Opener) → put y (put_on x base os) ≡ put_on (joined x y) base os
    go base [] = unfold put put_on stack in rw (joined_assoc base x y)
    go base (o ∷ os) = unfold put put_on stack opener in rw (joined_assoc o.content x y)

pub put_base : (y acc : Inlines) → put y (stack acc []) ≡ stack (joined acc y) []
unfolding put put_on stack
put_base y acc = refl

-- plain bytes are put one by one
pub processed_plain : (w : Bytes) (s : Stack) (ts : List Token) → processed s (map plain w ++ ts) ≡ processed (put (bytes w) s) ts
unfolding processed bytes
processed_plain [] s ts = rw (put_nothing s)
processed_plain (b ∷ w) s ts =
    processed_plain w (put (byte b nothing) s) ts ∙ ap (λ (r : Stack). processed r ts) (put_put (byte b nothing) (bytes w) s ∙ unfold joined in refl)

-- ---- tokens of escaped words

no_sign : (b : ℕ) → bare b ≡ true → isin b (ascii "*_") ≡ false
unfolding isin bare
no_sign b h = rw (bare_not b 42 h refl, bare_not b 95 h refl)

pub tokens_Esc : (l f : Beside_of) (x : Bytes) {e w : Bytes} (r : Bytes) → Esc e w → tokens l f x 0 false (e ++ r) ≡ map plain w ++ tokens l f (x ++ e) 0 false r
unfolding tokens behind_slash escaped slashed isin
tokens_Esc l f x r enil = rw (append-nil x)
tokens_Esc l f x r (ebare {b} {e} c h) =
    rw (no_sign b c, bare_not b 92 c (unfold bare isin in refl), tokens_Esc l f (x ++ (b ∷ [])) r h, append_assoc x (b ∷ []) e)
tokens_Esc l f x r (eback {b} {e} p h) =
    rw (p, tokens_Esc l f ((x ++ (92 ∷ [])) ++ (b ∷ [])) r h, append_assoc (x ++ (92 ∷ [])) (b ∷ []) e, append_assoc x (92 ∷ []) (b ∷ e))

-- ---- tokens of marks

tokens_skip : (l f : Beside_of) (x : Bytes) (n : ℕ) (r : Bytes) → tokens l f x n false (replicate n 42 ++ r) ≡ tokens l f (x ++ replicate n 42) 0 false r
unfolding tokens
tokens_skip l f x zero r = rw (append-nil x)
tokens_skip l f x (suc n) r = tokens_skip l f (x ++ (42 ∷ [])) n r ∙ rw (append_assoc x (42 ∷ []) (replicate n 42))

-- a run of asterisks
abbrev pub star_run : ℕ → Bool → Bool → Run
star_run n o c = record { sign = 42; length = suc n; opens = o; closes = c }

pub tokens_stars : (l f : Beside_of) (x : Bytes) (n : ℕ) (r : Bytes) → head_is 42 r ≡ false
    → tokens l f x 0 false (stars n ++ r) ≡ delimiters (star_run n (may_open 42 (l x) (f r)) (may_open 42 (f r) (l x))) ∷ tokens l f (x ++ stars n) 0 false r
unfolding tokens behind_slash escaped slashed isin run_at
tokens_stars l f x n r h =
    rw (run_front 42 n r h, drop_front 42 n r h, tokens_skip l f (x ++ (42 ∷ [])) n r, append_assoc x (42 ∷ []) (replicate n 42))

-- ---- marks

-- the two kinds: strong emphasis has two asterisks
unfoldable pub extra : Bool → ℕ
extra m = cond m 1 0

unfoldable pub wrap : Bool → Inlines → Inlines
wrap m y = cond m (strong y nothing) (emphasis y nothing)

abbrev pub marks : Bool → Bytes
marks m = stars (extra m)

-- a run that can open emphasis, text, and a run of the same length that can close it
pub pair : (m o c : Bool) (acc y : Inlines)
    → delimited (star_run (extra m) o true) (put y (delimited (star_run (extra m) true c) (stack acc []))) ≡ stack (joined acc (wrap m y)) []
unfolding delimited closing look_back matches lengths_match taken wrapped inserted unmatched put put_on stack opener signs extra wrap joined
pair true true true acc y = rw (joined_nil y)
pair true true false acc y = rw (joined_nil y)
pair true false true acc y = rw (joined_nil y)
pair true false false acc y = rw (joined_nil y)
pair false true true acc y = rw (joined_nil y)
pair false true false acc y = rw (joined_nil y)
pair false false true acc y = rw (joined_nil y)
pair false false false acc y = rw (joined_nil y)
