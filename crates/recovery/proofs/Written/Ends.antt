-- Trims and ends of a text, by its first and last bytes.
use Rattle.std.specs.Prelude.{ℕ, zero, suc, ◌-◌, ◌≡◌, Bool, true, false, cond, not, [], ◌∷◌, ◌++◌, eqb, length, replicate, drop}
use Rattle.std.proofs.Common.{arith, ap, ◌∙◌, true≢false, length-append}
use Rattle.std.proofs.Math.Path.{refl}
use Rattle.std.proofs.Math.Bool.{and-false}
use Rattle.std.proofs.lemmas.Bool.{not-true}
use Rattle.std.proofs.Math.Seq.{drop-append_seam}
use Rattle.std.proofs.lemmas.List.{drop-append-le}
use Rattle.spec.specs.Bytes.{Bytes, null, same, every, ends_with, one, unless, trim_end_matches, trim_start_matches}
use Rattle.spec.proofs.Tests.{and_l, and_r}

-- ---- the last byte

-- the last byte is of the class, or there is none
unfoldable pub last_is : (ℕ → Bool) → Bytes → Bool
last_is p [] = true
last_is p (b ∷ s) = cond (null s) (p b) (last_is p s)

-- the first byte is of the class, or there is none
unfoldable pub first_is : (ℕ → Bool) → Bytes → Bool
first_is p [] = true
first_is p (b ∷ s) = p b

pub null_app : (x y : Bytes) → null y ≡ false → null (x ++ y) ≡ false
unfolding null
null_app [] y h = h
null_app (b ∷ x) y h = refl

pub last_app : (p : ℕ → Bool) (x y : Bytes) → null y ≡ false → last_is p (x ++ y) ≡ last_is p y
unfolding last_is
last_app p [] y h = refl
last_app p (b ∷ x) y h = rw (null_app x y h) (last_app p x y h)

pub last_some_lem : (p : ℕ → Bool) (y : Bytes) → last_is p y ≡ false → null y ≡ false
unfolding last_is null
last_some_lem p [] h = absurd (true≢false h)
last_some_lem p (b ∷ y) h = refl

pub last_keep : (p : ℕ → Bool) (x y : Bytes) → last_is p y ≡ false → last_is p (x ++ y) ≡ false
last_keep p x y h = last_app p x y (last_some_lem p y h) ∙ h

pub first_app : (p : ℕ → Bool) (x y : Bytes) → first_is p x ≡ false → first_is p (x ++ y) ≡ false
unfolding first_is
first_app p [] y h = absurd (true≢false h)
first_app p (b ∷ x) y h = h

pub last_imp : (p q : ℕ → Bool) → ((b : ℕ) → p b ≡ false → q b ≡ false) → (y : Bytes) → last_is p y ≡ false → last_is q y ≡ false
unfolding last_is null
last_imp p q f [] h = h
last_imp p q f (b ∷ []) h = f b h
last_imp p q f (b ∷ c ∷ y) h = last_imp p q f (c ∷ y) h

-- a text none of whose bytes is of the class
pub last_none : (p : ℕ → Bool) (e : Bytes) → every (λ b. not (p b)) e ≡ true → null e ≡ false → last_is p e ≡ false
unfolding every last_is null
last_none p [] h n = absurd (true≢false n)
last_none p (b ∷ []) h n = not-true (p b) (and_l (not (p b)) _ h)
last_none p (b ∷ c ∷ e) h n = last_none p (c ∷ e) (and_r (not (p b)) _ h) refl

pub last_replicate : (p : ℕ → Bool) (n b : ℕ) → p b ≡ false → last_is p (replicate (suc n) b) ≡ false
unfolding last_is null
last_replicate p zero b h = h
last_replicate p (suc n) b h = last_replicate p n b h

-- what stands before the last byte, and that byte
pub record Snoc (p : ℕ → Bool) (x : Bytes) : Type 0 where
  pub front : Bytes
  pub byte : ℕ
  pub is : x ≡ front ++ (byte ∷ [])
  pub other : p byte ≡ false

pub snoc : (p : ℕ → Bool) (x : Bytes) → last_is p x ≡ false → Snoc p x
unfolding last_is null
snoc p [] h = absurd (true≢false h)
snoc p (b ∷ []) h = record { front = []; byte = b; is = refl; other = h }
snoc p (b ∷ c ∷ x) h =
    let r : Snoc p (c ∷ x) = snoc p (c ∷ x) h in
    record { front = b ∷ r.front; byte = r.byte; is = ap (λ (y : Bytes). b ∷ y) r.is; other = r.other }

-- ---- trims

-- more than one byte is no character of one byte
one_more : (p : ℕ → Bool) (c b : ℕ) (s : Bytes) → one p (c ∷ b ∷ s) ≡ false
unfolding one
one_more p c b s = refl

-- a text whose last byte is not of the class stays as it is
pub trim_fix : (p : ℕ → Bool) (x : Bytes) → last_is p x ≡ false → trim_end_matches (one p) x ≡ x
unfolding trim_end_matches unless last_is null
trim_fix p [] h = refl
trim_fix p (b ∷ []) h = unfold one in rw h
trim_fix p (b ∷ c ∷ x) h = rw (trim_fix p (c ∷ x) h, one_more p b c x)

pub trim_none : (p : ℕ → Bool) (z : Bytes) → every p z ≡ true → trim_end_matches (one p) z ≡ []
unfolding trim_end_matches unless every one
trim_none p [] h = refl
trim_none p (b ∷ z) h = rw (trim_none p z (and_r (p b) _ h), and_l (p b) _ h)

-- bytes of the class behind such a text go
pub trim_cut : (p : ℕ → Bool) (x z : Bytes) → last_is p x ≡ false → every p z ≡ true → trim_end_matches (one p) (x ++ z) ≡ x
unfolding trim_end_matches unless last_is null
trim_cut p [] z h k = absurd (true≢false h)
trim_cut p (b ∷ []) z h k = unfold one in rw (trim_none p z k, h)
trim_cut p (b ∷ c ∷ x) z h k = rw (trim_cut p (c ∷ x) z h k, one_more p b c x)

-- such a text stays before what is left of a text behind it
pub trim_behind : (p : ℕ → Bool) (x e : Bytes) → last_is p x ≡ false → trim_end_matches (one p) (x ++ e) ≡ x ++ trim_end_matches (one p) e
unfolding last_is null trim_end_matches unless
trim_behind p [] e h = absurd (true≢false h)
trim_behind p (b ∷ []) e h = go (trim_end_matches (one p) e)
  where
    go : (r : Bytes) → unless (one p (b ∷ r)) (b ∷ r) ≡ b ∷ r
    go [] = unfold one unless in rw h
    go (c ∷ r) = unfold one unless in refl
trim_behind p (b ∷ c ∷ x) e h = rw (trim_behind p (c ∷ x) e h) (unfold one in refl)

pub start_cut : (p : ℕ → Bool) (z x : Bytes) → every p z ≡ true → first_is p x ≡ false → trim_start_matches p (z ++ x) ≡ x
unfolding trim_start_matches every first_is
start_cut p [] [] h k = refl
start_cut p [] (b ∷ x) h k = rw k
start_cut p (b ∷ z) x h k = rw (and_l (p b) _ h) (start_cut p z x (and_r (p b) _ h) k)

-- ---- ends

same_last : (u v : Bytes) (b c : ℕ) → eqb b c ≡ false → same (u ++ (b ∷ [])) (v ++ (c ∷ [])) ≡ false
unfolding same
same_last [] [] b c h = rw h
same_last [] (d ∷ []) b c h = and-false (eqb b d)
same_last [] (d ∷ e ∷ v) b c h = and-false (eqb b d)
same_last (a ∷ []) [] b c h = and-false (eqb a c)
same_last (a ∷ e ∷ u) [] b c h = and-false (eqb a c)
same_last (a ∷ u) (d ∷ v) b c h = rw (same_last u v b c h) (and-false (eqb a d))

-- a text ends with x where its last bytes are those of x
pub ends_by : (x y z : Bytes) → length z ≡ length x → ends_with x (y ++ z) ≡ same z x
unfolding ends_with
ends_by x y z e =
    let n : length (y ++ z) - length x ≡ length y = rw (length-append y z) (omega arith) in
    rw (n, drop-append_seam y z)

-- and not where its last byte is another
pub ends_not : (v : Bytes) (c : ℕ) (s : Bytes) (b : ℕ) → eqb b c ≡ false → ends_with (v ++ (c ∷ [])) (s ++ (b ∷ [])) ≡ false
unfolding ends_with
ends_not v c s b h =
    let n : length (s ++ (b ∷ [])) - length (v ++ (c ∷ [])) ≡ length s - length v =
    rw (length-append s (b ∷ []), length-append v (c ∷ [])) (omega arith) in
    rw (n, drop-append-le (length s - length v) s (b ∷ []) (omega arith)) (same_last (drop (length s - length v) s) v b c h)

pub last_not : (v : Bytes) (c : ℕ) (x : Bytes) → last_is (λ b. eqb b c) x ≡ false → ends_with (v ++ (c ∷ [])) x ≡ false
last_not v c x h =
    let r : Snoc (λ b. eqb b c) x = snoc (λ b. eqb b c) x h in
    rw r.is (ends_not v c r.front r.byte r.other)
