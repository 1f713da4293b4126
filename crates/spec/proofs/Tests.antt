-- Tests and classes of bytes: what one class says of a byte tells another.
use Prim.Native.Nat.{ℕ, zero, suc}
use mathlib.Core.Path.{◌≡◌, refl, sym, ap, ◌∙◌}
use mathlib.Core.Bool.{Bool, true, false, not, ◌&&◌, ◌||◌, true≢false, false≢true}
use mathlib.Core.List.{List, [], ◌∷◌, ◌++◌}
use lib.Dec.{eqb}
use lib.ListN.{replicate}
use borrow.Author.Tests.{not-true, eqb-true, ne_eqb}
use Rattle.spec.specs.Bytes.{Bytes, null, isin, every, same, among}

pub and_l : (a b : Bool) → (a && b) ≡ true → a ≡ true
and_l true b h = refl
and_l false b h = h

pub and_r : (a b : Bool) → (a && b) ≡ true → b ≡ true
and_r true b h = h
and_r false b h = absurd (false≢true h)

pub or_l : (a b : Bool) → (a || b) ≡ false → a ≡ false
or_l true b h = h
or_l false b h = refl

pub or_r : (a b : Bool) → (a || b) ≡ false → b ≡ false
or_r true b h = absurd (true≢false h)
or_r false b h = h

pub or_elim {ℓ} : {P : Type ℓ} (a b : Bool) → (a ≡ true → P) → (b ≡ true → P) → (a || b) ≡ true → P
or_elim true b f g h = f refl
or_elim false b f g h = g h

pub and_no : (a b : Bool) → b ≡ false → (a && b) ≡ false
and_no true b h = h
and_no false b h = refl

-- a class has b, and not x: they differ
pub apart : (q : ℕ → Bool) (b x : ℕ) → q b ≡ true → q x ≡ false → eqb b x ≡ false
apart q b x p n = ne_eqb b x (λ e. true≢false (sym p ∙ (ap q e ∙ n)))

-- a class has b, and none of l
pub isin_no : (q : ℕ → Bool) (b : ℕ) (l : Bytes) → q b ≡ true → every (λ x. not (q x)) l ≡ true → isin b l ≡ false
unfolding isin every
isin_no q b [] p h = refl
isin_no q b (x ∷ l) p h =
    rw (apart q b x p (not-true (q x) (and_l (not (q x)) _ h)), isin_no q b l p (and_r (not (q x)) _ h))

-- b is one of l, and a class has all of l
pub isin_yes : (q : ℕ → Bool) (b : ℕ) (l : Bytes) → isin b l ≡ true → every q l ≡ true → q b ≡ true
unfolding isin every
isin_yes q b [] p h = absurd (false≢true p)
isin_yes q b (x ∷ l) p h =
    or_elim (eqb b x) (isin b l) (λ e. ap q (eqb-true b x e) ∙ and_l (q x) _ h)
    (λ e. isin_yes q b l e (and_r (q x) _ h)) p

pub eqb_yes : (q : ℕ → Bool) (b x : ℕ) → eqb b x ≡ true → q x ≡ true → q b ≡ true
eqb_yes q b x e h = ap q (eqb-true b x e) ∙ h

pub every_app : (q : ℕ → Bool) (a b : Bytes) → every q a ≡ true → every q b ≡ true → every q (a ++ b) ≡ true
unfolding every
every_app q [] b p h = h
every_app q (x ∷ a) b p h = rw (and_l (q x) _ p) (every_app q a b (and_r (q x) _ p) h)

pub every_imp : (q r : ℕ → Bool) (a : Bytes) → ((x : ℕ) → q x ≡ true → r x ≡ true) → every q a ≡ true → every r a ≡ true
unfolding every
every_imp q r [] f h = refl
every_imp q r (x ∷ a) f h = rw (f x (and_l (q x) _ h)) (every_imp q r a f (and_r (q x) _ h))

pub every_replicate : (q : ℕ → Bool) (n b : ℕ) → q b ≡ true → every q (replicate n b) ≡ true
unfolding every
every_replicate q zero b h = refl
every_replicate q (suc n) b h = rw h (every_replicate q n b h)

pub every_byte : (s : Bytes) → every (λ b. true) s ≡ true
unfolding every
every_byte [] = refl
every_byte (b ∷ s) = every_byte s

pub every_both : (p q : ℕ → Bool) (s : Bytes) → every p s ≡ true → every q s ≡ true → every (λ b. p b && q b) s ≡ true
unfolding every
every_both p q [] h k = refl
every_both p q (b ∷ s) h k = rw (and_l (p b) _ h, and_l (q b) _ k) (every_both p q s (and_r (p b) _ h) (and_r (q b) _ k))

pub every_front : (q : ℕ → Bool) (s r : Bytes) → every q s ≡ false → every q (s ++ r) ≡ false
unfolding every
every_front q [] r h = absurd (true≢false h)
every_front q (b ∷ s) r h = go (q b) h (every_front q s r)
  where
    go : (t : Bool) → (t && every q s) ≡ false → (every q s ≡ false → every q (s ++ r) ≡ false) → (t && every q (s ++ r)) ≡ false
    go true h f = f h
    go false h f = refl

-- a class has all of l, and not b
pub isin_lacks : (q : ℕ → Bool) (b : ℕ) (l : Bytes) → every q l ≡ true → q b ≡ false → isin b l ≡ false
isin_lacks q b l h n = isin_no (λ x. not (q x)) b l (ap not n) (every_imp q (λ x. not (not (q x))) l (λ x e. rw e) h)

pub null_nil : (s : Bytes) → null s ≡ true → s ≡ []
unfolding null
null_nil [] h = refl
null_nil (b ∷ s) h = absurd (false≢true h)

-- ---- equal byte strings

pub same_eq : (x y : Bytes) → same x y ≡ true → x ≡ y
unfolding same
same_eq [] [] h = refl
same_eq [] (b ∷ y) h = absurd (false≢true h)
same_eq (a ∷ x) [] h = absurd (false≢true h)
same_eq (a ∷ x) (b ∷ y) h = rw (eqb-true a b (and_l (eqb a b) _ h), same_eq x y (and_r (eqb a b) _ h))

-- ---- one of some byte strings

-- a class has all of them
unfoldable pub all_of : (Bytes → Bool) → List Bytes → Bool
all_of q [] = true
all_of q (x ∷ xs) = q x && all_of q xs

pub among_yes : (q : Bytes → Bool) (r : Bytes) (xs : List Bytes) → among r xs ≡ true → all_of q xs ≡ true → q r ≡ true
unfolding among all_of
among_yes q r [] h k = absurd (false≢true h)
among_yes q r (x ∷ xs) h k =
    or_elim (same r x) (among r xs) (λ e. ap q (same_eq r x e) ∙ and_l (q x) _ k) (λ e. among_yes q r xs e (and_r (q x) _ k)) h
