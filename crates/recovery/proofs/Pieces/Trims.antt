-- `trim_end` and runs of #.
use Rattle.std.specs.Prelude.{ℕ, ◌≡◌, Bool, true, not, [], ◌∷◌, ◌++◌, eqb}
use Rattle.std.proofs.Math.Path.{refl, ap}
use Rattle.std.proofs.Common.{sym, ◌∙◌, true≢false}
use Rattle.std.proofs.Math.Bool.{false, or-true}
use borrow.Author.Tests.{eqb-true, not-true}
use Rattle.spec.specs.Bytes.{Bytes, null, isin, every, one, unless, white_space_of, is_white_space, trim_end_matches, trim_end}
use Rattle.spec.proofs.Tests.{and_l, and_r, or_l, or_r, all_of, among_yes}
use Rattle.recovery.specs.Closed.{hash}
use Rattle.recovery.proofs.Written.Ends.{null_app}

-- ---- `trim_end` and #

unfoldable hashless : Bytes → Bool
hashless s = not (isin 35 s)

-- White_Space has no #
space_hashless : (s : Bytes) → is_white_space s ≡ true → isin 35 s ≡ false
unfolding is_white_space
space_hashless s h = unfold hashless in not-true (isin 35 s) (among_yes hashless s white_space_of h (unfold white_space_of all_of hashless isin in refl))

isin_app : (b : ℕ) (x y : Bytes) → isin b x ≡ false → isin b y ≡ false → isin b (x ++ y) ≡ false
unfolding isin
isin_app b [] y h k = k
isin_app b (c ∷ x) y h k = rw (or_l (eqb b c) _ h) (isin_app b x y (or_r (eqb b c) _ h) k)

-- what it leaves, and what it cuts off
pub record Trimmed (s r : Bytes) : Type 0 where
  pub cut_off : Bytes
  pub is : s ≡ r ++ cut_off
  pub free : isin 35 cut_off ≡ false

pub trimmed : (s : Bytes) → Trimmed s (trim_end s)
unfolding trim_end trim_end_matches
trimmed [] = record { cut_off = []; is = refl; free = unfold isin in refl }
trimmed (b ∷ s) = go (trim_end_matches is_white_space s) (is_white_space (b ∷ trim_end_matches is_white_space s)) refl (trimmed s)
  where
    go : (r : Bytes) (t : Bool) → is_white_space (b ∷ r) ≡ t → Trimmed s r → Trimmed (b ∷ s) (unless t (b ∷ r))
    go r true e p =
        record {
          cut_off = b ∷ s;
          is = unfold unless in refl;
          free = rw p.is (isin_app 35 (b ∷ r) p.cut_off (space_hashless (b ∷ r) e) p.free);
        }
    go r false e p =
        record { cut_off = p.cut_off; is = unfold unless in ap (λ (x : Bytes). b ∷ x) p.is; free = p.free }

-- a text that ends with a run of # stays as it is
hash_in : (x hs : Bytes) → every hash hs ≡ true → null hs ≡ false → isin 35 (x ++ hs) ≡ true
unfolding isin every hash null
hash_in [] [] h n = absurd (true≢false n)
hash_in [] (b ∷ hs) h n = rw (eqb-true b 35 (and_l (eqb b 35) _ h))
hash_in (b ∷ x) hs h n = rw (hash_in x hs h n) (or-true (eqb 35 b))

hash_no_space : (s : Bytes) → isin 35 s ≡ true → is_white_space s ≡ false
hash_no_space s h = go (is_white_space s) refl
  where
    go : (t : Bool) → is_white_space s ≡ t → t ≡ false
    go true e = absurd (true≢false (sym h ∙ space_hashless s e))
    go false e = refl

trim_hashes : (hs : Bytes) → every hash hs ≡ true → trim_end hs ≡ hs
unfolding trim_end trim_end_matches unless every
trim_hashes [] h = refl
trim_hashes (b ∷ hs) h =
    rw (trim_hashes hs (and_r (hash b) _ h), hash_no_space (b ∷ hs) (hash_in [] (b ∷ hs) h (unfold null in refl)))

pub trim_run : (x hs : Bytes) → every hash hs ≡ true → null hs ≡ false → trim_end (x ++ hs) ≡ x ++ hs
unfolding trim_end trim_end_matches unless
trim_run [] hs h n = trim_hashes hs h
trim_run (b ∷ x) hs h n = rw (trim_run x hs h n, hash_no_space (b ∷ (x ++ hs)) (hash_in (b ∷ x) hs h n))

-- White_Space behind a text changes nothing
pub trim_more : (y z : Bytes) → trim_end z ≡ [] → trim_end (y ++ z) ≡ trim_end y
unfolding trim_end trim_end_matches
trim_more [] z h = h
trim_more (b ∷ y) z h = rw (trim_more y z h)

-- ---- trims of one byte

-- what is left of a text without the bytes of a class at its end, and those
pub record Tail (p : ℕ → Bool) (s r : Bytes) : Type 0 where
  pub tail : Bytes
  pub is : s ≡ r ++ tail
  pub all : every p tail ≡ true

pub tail_of : (p : ℕ → Bool) (s : Bytes) → Tail p s (trim_end_matches (one p) s)
unfolding trim_end_matches
tail_of p [] = record { tail = []; is = refl; all = unfold every in refl }
tail_of p (b ∷ s) = go (trim_end_matches (one p) s) (tail_of p s)
  where
    go : (r : Bytes) → Tail p s r → Tail p (b ∷ s) (unless (one p (b ∷ r)) (b ∷ r))
    go [] t = alone (p b) refl
      where
        alone : (q : Bool) → p b ≡ q → Tail p (b ∷ s) (unless (one p (b ∷ [])) (b ∷ []))
        alone true e = unfold one in rw e (record { tail = b ∷ s; is = unfold unless in refl; all = unfold every in rw e (rw t.is t.all) })
        alone false e = unfold one in rw e (record { tail = t.tail; is = unfold unless in ap (λ (x : Bytes). b ∷ x) t.is; all = t.all })
    go (c ∷ r) t = unfold one unless in record { tail = t.tail; is = ap (λ (x : Bytes). b ∷ x) t.is; all = t.all }

-- a text of which something is left stays so behind another
pub trim_some : (p : ℕ → Bool) (x l : Bytes) → null (trim_end_matches (one p) l) ≡ false
    → trim_end_matches (one p) (x ++ l) ≡ x ++ trim_end_matches (one p) l
unfolding trim_end_matches unless
trim_some p [] l h = refl
trim_some p (b ∷ x) l h = rw (trim_some p x l h) (go (x ++ trim_end_matches (one p) l) (null_app x (trim_end_matches (one p) l) h))
  where
    go : (r : Bytes) → null r ≡ false → unless (one p (b ∷ r)) (b ∷ r) ≡ b ∷ r
    go [] e = unfold null in absurd (true≢false e)
    go (c ∷ r) e = unfold one unless in refl
