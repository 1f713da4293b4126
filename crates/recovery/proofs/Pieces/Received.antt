-- Escaped attributes: what a reader receives of one, however its bytes are written.
use Prim.Native.Nat.{ℕ}
use Rattle.std.specs.Prelude.{◌≡◌, Bool, cond}
use Rattle.std.proofs.Math.Path.{refl}
use Rattle.std.proofs.Common.{sym, subst}
use Rattle.std.proofs.Math.Bool.{true, false, and-false}
use mathlib.Core.List.{[], ◌∷◌, ◌++◌, append-nil}
use Rattle.std.proofs.Math.Option.{some}
use Rattle.std.proofs.Math.Dec.{eqb}
use borrow.Author.Tests.{eqb-true}
use Rattle.spec.specs.Bytes.{Bytes, ascii, same, isin, every, starts_with}
use Rattle.spec.specs.Md.TextUtils.{is_nbsp, entity, html_from, html_escape, each_byte}
use Rattle.spec.specs.Pieces.Links.{References, meaning}
use Rattle.spec.proofs.Tests.{and_l, and_r, apart}
use Rattle.recovery.proofs.Joined.{in_line}
use Rattle.recovery.proofs.Pieces.Attributes.{each_app, first_is_lem, entity_nbsp}
use Rattle.recovery.proofs.Pieces.Meanings.{named, Means, mnil, mref, Means_app, means}

-- the three references that `html_escape` writes are known
pub record Known (known : References) : Type 0 where
  pub amp : known (ascii "amp") ≡ some (ascii "&")
  pub quot : known (ascii "quot") ≡ some (ascii "\"")
  pub nbsp : known (ascii "nbsp") ≡ some (0xC2 ∷ 0xA0 ∷ [])

-- what a reader receives of a byte of the attribute: NUL as U+FFFD (2.3), LF and CR as `%0A` and `%0D`, any other as it is
unfoldable pub received : ℕ → Bytes
received b =
    cond (eqb b 0) (0xEF ∷ 0xBF ∷ 0xBD ∷ []) (cond (eqb b 10) (ascii "%0A") (cond (eqb b 13) (ascii "%0D") (b ∷ [])))

-- b is x, or another byte
pub at : (Q : ℕ → Type 0) (b x : ℕ) → Q x → (eqb b x ≡ false → Q b) → Q b
at Q b x here other = go (eqb b x) refl
  where
    go : (t : Bool) → eqb b x ≡ t → Q b
    go true e = subst Q (sym (eqb-true b x e)) here
    go false e = other e

-- ---- escaped attributes, each byte of which f writes

html_next : (b : ℕ) (s : Bytes) → is_nbsp b s ≡ false → html_from false (b ∷ s) ≡ entity b s ++ html_from false s
unfolding html_from
html_next b s n = rw n

html_pair : (b c : ℕ) (s : Bytes) → is_nbsp b (c ∷ s) ≡ true → html_from false (b ∷ c ∷ s) ≡ ascii "&nbsp;" ++ html_from false s
unfolding html_from
html_pair b c s n = rw (entity_nbsp b (c ∷ s) n, n)

-- f leaves the references as they are, and writes any other byte so that it means what is received of it
pub record Writes (known : References) (f : ℕ → Bytes) : Type 0 where
  pub amp : each_byte f (ascii "&amp;") ≡ ascii "&amp;"
  pub quot : each_byte f (ascii "&quot;") ≡ ascii "&quot;"
  pub nbsp : each_byte f (ascii "&nbsp;") ≡ ascii "&nbsp;"
  pub other : (b : ℕ) → eqb b 38 ≡ false → Means known (f b) (received b)

module _ (known : References) (k : Known known) (f : ℕ → Bytes) (w : Writes known f) where
  entity_means : (b : ℕ) (s : Bytes) → is_nbsp b s ≡ false → Means known (each_byte f (entity b s)) (received b)
  unfolding entity received named every
  entity_means b s n =
      let Q : ℕ → Type 0 =
      λ c. Means known (each_byte f (cond (eqb c 38) (ascii "&amp;") (cond (eqb c 34) (ascii "&quot;") (c ∷ [])))) (received c) in
      rw n
      (at Q b 38
      (rw w.amp (mref (ascii "amp") (ascii "&") refl k.amp mnil)) λ e.
      at (λ (c : ℕ). eqb c 38 ≡ false → Q c) b 34
      (λ d. rw w.quot (mref (ascii "quot") (ascii "\"") refl k.quot mnil))
      (λ d c. rw (c, d) (unfold each_byte in rw append-nil (w.other b c))) e)

  pair_means : (b c : ℕ) (s : Bytes) → is_nbsp b (c ∷ s) ≡ true → Means known (each_byte f (html_from false s)) (each_byte received s)
      → Means known (each_byte f (html_from false (b ∷ c ∷ s))) (received b ++ (received c ++ each_byte received s))
  unfolding received named every
  pair_means b c s n h =
      let d : eqb b 0xC2 ≡ true = unfold is_nbsp in and_l (eqb b 0xC2) _ n in
      let e : c ≡ 0xA0 = first_is_lem 0xA0 c s (unfold is_nbsp in and_r (eqb b 0xC2) _ n) in
      rw (html_pair b c s n, each_app f (ascii "&nbsp;") (html_from false s), w.nbsp, eqb-true b 0xC2 d, e)
      (mref (ascii "nbsp") (0xC2 ∷ 0xA0 ∷ []) refl k.nbsp h)

  next_means : (b : ℕ) (s : Bytes) → is_nbsp b s ≡ false → Means known (each_byte f (html_from false s)) (each_byte received s)
      → Means known (each_byte f (html_from false (b ∷ s))) (received b ++ each_byte received s)
  next_means b s n h = rw (html_next b s n, each_app f (entity b s) (html_from false s)) (Means_app (entity_means b s n) h)

  html_means : (a : Bytes) → Means known (each_byte f (html_from false a)) (each_byte received a)
  unfolding each_byte html_from
  html_means [] = mnil
  html_means (b ∷ []) = next_means b [] (unfold is_nbsp starts_with same in and-false (eqb b 0xC2)) (unfold html_from each_byte in mnil)
  html_means (b ∷ c ∷ s) = go (is_nbsp b (c ∷ s)) refl (html_means s) (html_means (c ∷ s))
    where
      go : (t : Bool) → is_nbsp b (c ∷ s) ≡ t → Means known (each_byte f (html_from false s)) (each_byte received s)
          → Means known (each_byte f (html_from false (c ∷ s))) (each_byte received (c ∷ s))
          → Means known (each_byte f (html_from false (b ∷ c ∷ s))) (each_byte received (b ∷ c ∷ s))
      go true n h g = pair_means b c s n h
      go false n h g = next_means b (c ∷ s) n g

pub written_means : (known : References) → Known known → (f : ℕ → Bytes) → Writes known f → (a : Bytes)
    → meaning known 0 (each_byte f (html_escape a)) ≡ each_byte received a
unfolding html_escape
written_means known k f w a = means (html_means known k f w a)

-- what is received of an attribute without NUL, LF and CR is the attribute
pub received_same : (a : Bytes) → every in_line a ≡ true → each_byte received a ≡ a
unfolding each_byte received every
received_same [] h = refl
received_same (b ∷ a) h =
    rw (
      apart in_line b 0 (and_l (in_line b) _ h) (unfold in_line isin in refl),
      apart in_line b 10 (and_l (in_line b) _ h) (unfold in_line isin in refl),
      apart in_line b 13 (and_l (in_line b) _ h) (unfold in_line isin in refl),
      received_same a (and_r (in_line b) _ h),
    )
