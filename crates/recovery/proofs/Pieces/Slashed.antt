-- Texts with backslash escapes: what the writer makes of words, and what it means.
use Rattle.std.specs.Prelude.{ℕ, suc, length, ◌≡◌, Bool, cond, ◌&&◌}
use Rattle.std.proofs.Math.Option.{none}
use Rattle.std.proofs.Math.Path.{refl}
use Rattle.std.proofs.Math.Bool.{true, false}
use mathlib.Core.List.{List, [], ◌∷◌, ◌++◌}
use Rattle.std.proofs.Math.Dec.{eqb}
use Rattle.std.proofs.Common.{eqb-true}
use Rattle.spec.specs.Bytes.{Bytes, ascii, null, isin, every}
use Rattle.spec.specs.Md.TextUtils.{is_escaped, escaped_from, escaped_chunk, more_words, each_byte}
use Rattle.spec.specs.Reading.Lines.{punctuation}
use Rattle.spec.specs.Reading.Inline.{escaped, slashed}
use Rattle.spec.specs.Pieces.Links.{References, enclosed, ref_name, escapes, referred, unit, meaning}
use Rattle.spec.proofs.Tests.{and_l, and_r, apart}
use Rattle.recovery.proofs.Words.{blanked, all_of}
use Rattle.recovery.proofs.Escapes.{escapable, escaped_escapable, escaped_punctuation}
use Rattle.recovery.proofs.Pieces.Escapes.{bare_backslash}
use Rattle.recovery.proofs.Pieces.Attributes.{each_app}
use Rattle.recovery.proofs.Pieces.Meanings.{literal, Means, mnil, mlit, mback, escapes_no}

-- ---- texts with backslash escapes

-- e is w with some punctuation behind backslashes, and every other byte of the class
pub data Slashed (q : ℕ → Bool) : Bytes → Bytes → Type 0 where
  snil : Slashed q [] []
  slit : {b : ℕ} {e w : Bytes} → q b ≡ true → Slashed q e w → Slashed q (b ∷ e) (b ∷ w)
  sback : {b : ℕ} {e w : Bytes} → punctuation b ≡ true → Slashed q e w → Slashed q (92 ∷ b ∷ e) (b ∷ w)

pub Slashed_app : {q : ℕ → Bool} {e w f v : Bytes} → Slashed q e w → Slashed q f v → Slashed q (e ++ f) (w ++ v)
Slashed_app snil k = k
Slashed_app (slit l h) k = slit l (Slashed_app h k)
Slashed_app (sback p h) k = sback p (Slashed_app h k)

pub slashed_means : {known : References} {q : ℕ → Bool} {e w : Bytes} → ((b : ℕ) → q b ≡ true → literal b ≡ true)
    → Slashed q e w → Means known e w
slashed_means f snil = mnil
slashed_means f (slit {b} l h) = mlit (f b l) (slashed_means f h)
slashed_means f (sback p h) = mback p (slashed_means f h)

bare_unit : (b : ℕ) (r : Bytes) → eqb b 92 ≡ false → unit (λ name. none) b r ≡ (b ∷ [], 0)
unfolding unit referred
bare_unit b r n = rw (escapes_no b r n) (go (eqb b 38) refl (isin 59 r))
  where
    go : (t : Bool) → eqb b 38 ≡ t → (u : Bool)
        → cond (t && u) (referred none (suc (length (ref_name r)))) (b ∷ [], 0) ≡ (b ∷ [], 0)
    go true e true = rw (eqb-true b 38 e)
    go true e false = refl
    go false e u = refl

back_unit : (b : ℕ) (r : Bytes) → punctuation b ≡ true → unit (λ name. none) 92 (b ∷ r) ≡ (b ∷ [], 1)
unfolding unit escapes
back_unit b r p = rw p

-- where no reference is known, `&` means itself too
pub slashed_bare : {q : ℕ → Bool} {e w : Bytes} → q 92 ≡ false → Slashed q e w → meaning (λ name. none) 0 e ≡ w
unfolding meaning
slashed_bare m snil = refl
slashed_bare {q} m (slit {b} {e} l h) = rw (bare_unit b e (apart q b 92 l m), slashed_bare m h)
slashed_bare m (sback {b} {e} p h) = rw (back_unit b e p, slashed_bare m h)

pub slashed_enclosed : {q : ℕ → Bool} {e w : Bytes} → q 92 ≡ false → q 34 ≡ false → Slashed q e w → enclosed 34 34 false (e ++ (34 ∷ [])) ≡ true
unfolding enclosed escaped slashed null
slashed_enclosed m n snil = refl
slashed_enclosed {q} m n (slit {b} l h) = rw (apart q b 34 l n, apart q b 92 l m) (slashed_enclosed m n h)
slashed_enclosed m n (sback p h) = rw p (slashed_enclosed m n h)

pub slashed_every : {q : ℕ → Bool} {e w : Bytes} (r : ℕ → Bool) → ((b : ℕ) → q b ≡ true → r b ≡ true)
    → ((b : ℕ) → punctuation b ≡ true → r b ≡ true) → Slashed q e w → every r e ≡ true
unfolding every punctuation
slashed_every r f g snil = refl
slashed_every r f g (slit {b} l h) = rw (f b l) (slashed_every r f g h)
slashed_every r f g (sback {b} p h) = rw (g 92 refl, g b p) (slashed_every r f g h)

-- ---- escaped words

-- what a title's text may be: f leaves every byte but the quotation mark as it is, and that one is escaped, or does not occur
pub record Quoted (q r : ℕ → Bool) (f : ℕ → Bytes) : Type 0 where
  pub same : (b : ℕ) → eqb b 34 ≡ false → f b ≡ b ∷ []
  pub quote : r 34 ≡ true → Slashed q (f 34) (34 ∷ [])
  pub plain : (b : ℕ) → r b ≡ true → eqb b 92 ≡ false → eqb b 34 ≡ false → q b ≡ true
  pub blank : q 32 ≡ true

module _ (q r : ℕ → Bool) (f : ℕ → Bytes) (c : Quoted q r f) where
  bare_byte_lem : (b : ℕ) → r b ≡ true → eqb b 92 ≡ false → Slashed q (f b) (b ∷ [])
  bare_byte_lem b h n = go (eqb b 34) refl
    where
      go : (t : Bool) → eqb b 34 ≡ t → Slashed q (f b) (b ∷ [])
      go true e = let z : b ≡ 34 = eqb-true b 34 e in rw z (c.quote (rw z at h))
      go false e = rw (c.same b e) (slit (c.plain b h n e) snil)

  from_slashed : (start marker underline : Bool) (w : Bytes) → every r w ≡ true
      → Slashed q (each_byte f (escaped_from start marker underline w)) w
  unfolding escaped_from each_byte every
  from_slashed start marker underline [] h = snil
  from_slashed start marker underline (b ∷ w) h =
      go (is_escaped start marker underline b w) refl (from_slashed false marker underline w (and_r (r b) _ h))
    where
      go : (t : Bool) → is_escaped start marker underline b w ≡ t → Slashed q (each_byte f (escaped_from false marker underline w)) w
          → Slashed q (each_byte f (cond t (ascii "\\") [] ++ (b ∷ escaped_from false marker underline w))) (b ∷ w)
      go true e k =
          let n : eqb b 34 ≡ false =
          apart escapable b 34 (escaped_escapable start marker underline b w e) (unfold escapable isin in refl) in
          rw (c.same 92 refl, c.same b n) (sback (escaped_punctuation start marker underline b w e) k)
      go false e k = Slashed_app (bare_byte_lem b (and_l (r b) _ h) (bare_backslash start marker underline b w e)) k

  pub chunk_slashed : (start : Bool) (w : Bytes) → every r w ≡ true → Slashed q (each_byte f (escaped_chunk w true start)) w
  unfolding escaped_chunk
  chunk_slashed start w h = from_slashed start _ _ w h

  pub more_slashed : (ws : List Bytes) → all_of r ws ≡ true → Slashed q (each_byte f (more_words true ws)) (blanked ws)
  unfolding more_words blanked all_of each_byte
  more_slashed [] h = snil
  more_slashed (w ∷ ws) h =
      rw (c.same 32 refl, each_app f (escaped_chunk w true false) (more_words true ws))
      (slit c.blank (Slashed_app (chunk_slashed false w (and_l (every r w) _ h)) (more_slashed ws (and_r (every r w) _ h))))

  pub blank_slashed : (t : Bool) → Slashed q (each_byte f (cond t (ascii " ") [])) (cond t (ascii " ") [])
  unfolding each_byte
  blank_slashed true = rw (c.same 32 refl) (slit c.blank snil)
  blank_slashed false = snil
