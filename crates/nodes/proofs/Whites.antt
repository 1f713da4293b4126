-- White_Space read from the front, byte by byte, and trimmed from the end.
use Prim.Native.Nat.{ℕ, zero, suc, ◌+◌, ◌≤◌, ◌<◌}
use native.Mathlib.Omega.{arith}
use native.Mathlib.Numerals.{add-one}
use mathlib.Core.Path.{◌≡◌, refl, ap, ◌∙◌, sym}
use mathlib.Core.Bool.{Bool, true, false, cond, not, ◌&&◌, ◌||◌, true≢false, false≢true, or-false}
use mathlib.Core.List.{[], ◌∷◌, ◌++◌, append_assoc, append-nil}
use lib.ListN.{length, drop, get_or, length-append}
use lib.Seq.{drop-cons}
use lib.Dec.{eqb, ltb}
use borrow.Author.Tests.{eqb-true, not-true}
use Rattle.spec.specs.Bytes.{Bytes, null, every, same, among, unless, white_space_of, is_white_space, trim_end_matches, trim_end}
use Rattle.spec.specs.Md.Elements.List.{continuation}
use Rattle.text.proofs.WhiteSpace.{long}
use Rattle.spec.proofs.Tests.{and_l, and_r, all_of, among_yes}
use Rattle.nodes.specs.Begun.{held, grown, next_white, white_state, is_nothing}
use Rattle.nodes.specs.declared.white_space.Begun.{Begun}
use Rattle.nodes.specs.declared.white_space.Begun.TheVariants.{Nothing, One, Two, Other}
use Rattle.nodes.proofs.Numbers.{Folds}

-- ---- UTF-8: the first byte of a White_Space character tells how many continuation bytes follow it

unfoldable more : ℕ → ℕ
more b = cond (ltb b 0x80) 0 (cond (eqb b 0xC2) 1 2)

unfoldable well : Bytes → Bool
well [] = false
well (b ∷ t) = (not (continuation b) && every continuation t) && eqb (length t) (more b)

space_well : (r : Bytes) → is_white_space r ≡ true → well r ≡ true
unfolding is_white_space
space_well r h = among_yes well r white_space_of h (unfold white_space_of all_of well more every continuation in refl)

every_behind : (p : Bytes) (b : ℕ) (t : Bytes) → every continuation (p ++ (b ∷ t)) ≡ true → continuation b ≡ true
unfolding every
every_behind [] b t h = and_l (continuation b) _ h
every_behind (a ∷ p) b t h = every_behind p b t (and_r (continuation a) _ h)

module _ (a : ℕ) (p : Bytes) (h : is_white_space (a ∷ p) ≡ true) where
  first_not : continuation a ≡ false
  unfolding well
  first_not = not-true _ (and_l (not (continuation a)) _ (and_l _ _ (space_well (a ∷ p) h)))

  others_are : every continuation p ≡ true
  unfolding well
  others_are = and_r (not (continuation a)) _ (and_l _ _ (space_well (a ∷ p) h))

  others_many : length p ≡ more a
  unfolding well
  others_many = eqb-true (length p) (more a) (and_r (not (continuation a) && every continuation p) _ (space_well (a ∷ p) h))

-- nothing follows a character within a character
prefix_free : (x t : Bytes) → is_white_space x ≡ true → is_white_space (x ++ t) ≡ null t
unfolding null
prefix_free [] t h = absurd (unfold is_white_space white_space_of among same in false≢true h)
prefix_free (a ∷ x) [] h = rw (append-nil x) h
prefix_free (a ∷ x) (c ∷ t) h = go (is_white_space (a ∷ (x ++ (c ∷ t)))) refl
  where
    go : (z : Bool) → is_white_space (a ∷ (x ++ (c ∷ t))) ≡ z → z ≡ false
    go false e = refl
    go true e = absurd (omega (arith, others_many a x h, others_many a (x ++ (c ∷ t)) e, length-append x (c ∷ t)))

-- no character begins within another
within_not : (a : ℕ) (p : Bytes) (b : ℕ) (t u : Bytes) → is_white_space (b ∷ u) ≡ true → is_white_space (a ∷ (p ++ (b ∷ t))) ≡ false
within_not a p b t u h = go (is_white_space (a ∷ (p ++ (b ∷ t)))) refl
  where
    go : (z : Bool) → is_white_space (a ∷ (p ++ (b ∷ t))) ≡ z → z ≡ false
    go false e = refl
    go true e = absurd (true≢false (sym (every_behind p b t (others_are a (p ++ (b ∷ t)) e)) ∙ first_not b u h))

no_space : is_white_space [] ≡ false
unfolding is_white_space white_space_of among same
no_space = refl

trimmed_not : (s : Bytes) → is_white_space (trim_end s) ≡ false
unfolding trim_end trim_end_matches unless
trimmed_not [] = no_space
trimmed_not (b ∷ s) = go (is_white_space (b ∷ trim_end_matches is_white_space s)) refl
  where
    go : (z : Bool) → is_white_space (b ∷ trim_end_matches is_white_space s) ≡ z → is_white_space (unless z (b ∷ trim_end_matches is_white_space s)) ≡ false
    go true e = no_space
    go false e = e

-- ---- one byte more

-- no bytes, or one character
unfoldable done : Bytes → Bool
done p = is_white_space p || null p

unfoldable after_byte : Bytes → ℕ → Bytes
after_byte p b = cond (is_white_space (p ++ (b ∷ []))) [] (p ++ (b ∷ []))

byte_done : (p : Bytes) (b : ℕ) (t : Bytes) → is_white_space p ≡ false → is_white_space t ≡ false
    → done (after_byte p b ++ t) ≡ done (p ++ unless (is_white_space (b ∷ t)) (b ∷ t))
unfolding after_byte done unless null
byte_done p b t np nt = go p np (is_white_space (p ++ (b ∷ []))) (is_white_space (b ∷ t)) refl refl
  where
    go : (p : Bytes) → is_white_space p ≡ false → (x y : Bool) → is_white_space (p ++ (b ∷ [])) ≡ x → is_white_space (b ∷ t) ≡ y
        → done (cond x [] (p ++ (b ∷ [])) ++ t) ≡ done (p ++ unless y (b ∷ t))
    go [] n true true e f = rw (nt, sym (prefix_free (b ∷ []) t e) ∙ f, no_space)
    go [] n false true e f = rw (f, no_space)
    go (a ∷ p) n true true e f = absurd (true≢false (sym e ∙ within_not a p b [] t f))
    go (a ∷ p) n false true e f = rw (append_assoc p (b ∷ []) t, within_not a p b t t f, append-nil p, n)
    go [] n true false e f = rw (nt, prefix_free (b ∷ []) t e, or-false (null t))
    go (a ∷ p) n true false e f =
        rw (nt, sym (ap (λ (z : Bytes). is_white_space (a ∷ z)) (append_assoc p (b ∷ []) t)) ∙ prefix_free (a ∷ (p ++ (b ∷ []))) t e, or-false (null t))
    go [] n false false e f = refl
    go (a ∷ p) n false false e f = rw (append_assoc p (b ∷ []) t)

held_next : (x : Begun) (c : ℕ) (t : Bytes) → done (held (next_white x c) ++ t) ≡ done (after_byte (held x) c ++ t)
unfolding next_white after_byte held grown done null
held_next x c t = go x (is_white_space (held x ++ (c ∷ []))) t refl
  where
    go : (x : Begun) (z : Bool) (t : Bytes) → is_white_space (held x ++ (c ∷ [])) ≡ z
        → done (held (cond z Nothing (grown x c)) ++ t) ≡ done (cond z [] (held x ++ (c ∷ [])) ++ t)
    go Nothing true t e = refl
    go Nothing false t e = refl
    go (One a) true t e = refl
    go (One a) false t e = refl
    go (Two a b) true t e = refl
    go (Two a b) false [] e = rw e (unfold is_white_space white_space_of among same in refl)
    go (Two a b) false (d ∷ t) e = rw (long a b c d t) (unfold is_white_space white_space_of among same in refl)
    go Other true t e = absurd (unfold is_white_space white_space_of among same in false≢true e)
    go Other false t e = unfold is_white_space white_space_of among same in refl

next_not : (x : Begun) (c : ℕ) → is_white_space (held (next_white x c)) ≡ false
unfolding next_white held grown
next_not x c = go x (is_white_space (held x ++ (c ∷ []))) refl
  where
    go : (x : Begun) (z : Bool) → is_white_space (held x ++ (c ∷ [])) ≡ z → is_white_space (held (cond z Nothing (grown x c))) ≡ false
    go x true e = no_space
    go Nothing false e = e
    go (One a) false e = e
    go (Two a b) false e = unfold is_white_space white_space_of among same in refl
    go Other false e = unfold is_white_space white_space_of among same in refl

-- ---- the whole text

state_done : (x : Begun) (s : Bytes) → is_white_space (held x) ≡ false → is_nothing (white_state x s) ≡ done (held x ++ trim_end s)
unfolding white_state trim_end trim_end_matches held done null is_nothing
state_done x [] n = go x n
  where
    go : (x : Begun) → is_white_space (held x) ≡ false → is_nothing x ≡ done (held x ++ [])
    go Nothing n = rw n
    go (One a) n = rw n
    go (Two a b) n = rw n
    go Other n = rw n
state_done x (b ∷ s) n =
    state_done (next_white x b) s (next_not x b) ∙ (held_next x b (trim_end s) ∙ byte_done (held x) b (trim_end s) n (trimmed_not s))

-- no White_Space is left exactly where every character that is begun has ended as White_Space
pub white_space_is : (s : Bytes) → null (trim_end s) ≡ is_nothing (white_state Nothing s)
unfolding held done
white_space_is s = sym (state_done Nothing s no_space ∙ rw (trimmed_not s))

-- ---- pieces

state_then : (x : Begun) (s t : Bytes) → white_state x (s ++ t) ≡ white_state (white_state x s) t
unfolding white_state
state_then x [] t = refl
state_then x (b ∷ s) t = state_then (next_white x b) s t

pub white_folds : Folds white_state
unfolding white_state
white_folds = record { none = λ x. refl; joins = state_then }

-- ---- one byte more behind bytes that are not White_Space

module _ {x : Begun} (c : ℕ) where
  pub next_other : x ≡ Other → Other ≡ next_white x c
  unfolding next_white held grown is_white_space white_space_of among same
  next_other e = sym (ap (λ (y : Begun). next_white y c) e)

-- ---- a loop through the bytes

pub state_on : (x : Begun) (s : Bytes) (i : ℕ) → i < length s → white_state x (drop i s) ≡ white_state (next_white x (get_or s i 0)) (drop (i + 1) s)
unfolding white_state
state_on x s i h = rw (drop-cons s i 0 h, add-one i)

pub state_end : (x : Begun) (s : Bytes) (i : ℕ) → length s ≤ i → white_state x (drop i s) ≡ x
unfolding white_state
state_end x [] zero h = refl
state_end x [] (suc i) h = refl
state_end x (b ∷ s) zero h = absurd (omega arith)
state_end x (b ∷ s) (suc i) h = state_end x s i (omega arith)

-- bytes that are not White_Space stay so, whatever follows them
pub state_other : (x : Begun) (s : Bytes) → x ≡ Other → white_state x s ≡ x
unfolding white_state
state_other x [] e = refl
state_other x (b ∷ s) e = state_other (next_white x b) s (sym (next_other b e)) ∙ (sym (next_other b e) ∙ sym e)
