-- `html_escape` is the HTML Standard's escaping in attribute mode, but that it leaves `<` and `>` alone.
use Rattle.std.specs.Prelude.{ℕ, ◌≡◌, refl, Bool, cond, ◌&&◌, [], ◌∷◌, ◌++◌, eqb, take}
use Rattle.std.proofs.Common.{sym, ap, ◌∙◌, true≢false, append-nil, append_assoc}
use Rattle.std.proofs.Math.Bool.{true, false, and-true}
use Rattle.std.proofs.lemmas.Bool.{false≢true}
use borrow.Author.Tests.{eqb-true}
use Rattle.spec.specs.Bytes.{Bytes, ascii, same, starts_with}
use Rattle.spec.specs.Md.TextUtils.{is_nbsp, entity, html_from, html_escape, each_byte}
use Rattle.spec.specs.Pieces.Escapes.{replaced_from, replaced, ampersands, no_break_spaces, angle_brackets, quotation_marks, escaped_attribute}
use Rattle.spec.proofs.Tests.{and_l, and_r}

-- ---- one byte replaced

-- what stands for b where x is replaced by y
unfoldable pub instead : ℕ → Bytes → ℕ → Bytes
instead x y b = cond (eqb b x) y (b ∷ [])

replaced_one : (x : ℕ) (y s : Bytes) → replaced (x ∷ []) y s ≡ each_byte (instead x y) s
unfolding replaced replaced_from each_byte instead starts_with same
replaced_one x y [] = refl
replaced_one x y (b ∷ s) = rw and-true (go (eqb b x) (replaced_one x y s))
  where
    go : (t : Bool) → replaced_from (x ∷ []) y 0 s ≡ each_byte (instead x y) s
        → cond t y (b ∷ []) ++ replaced_from (x ∷ []) y (cond t 0 0) s ≡ cond t y (b ∷ []) ++ each_byte (instead x y) s
    go true h = rw h
    go false h = rw h

pub each_app : (f : ℕ → Bytes) (s r : Bytes) → each_byte f (s ++ r) ≡ each_byte f s ++ each_byte f r
unfolding each_byte
each_app f [] r = refl
each_app f (b ∷ s) r = rw (each_app f s r, append_assoc (f b))

-- ---- the two bytes of U+00A0

abbrev nbsp : Bytes
nbsp = 0xC2 ∷ 0xA0 ∷ []

abbrev amps : Bytes → Bytes
amps s = each_byte (instead 38 (ascii "&amp;")) s

abbrev quotes : Bytes → Bytes
quotes s = each_byte (instead 34 (ascii "&quot;")) s

abbrev nbsps : ℕ → Bytes → Bytes
nbsps k s = replaced_from nbsp (ascii "&nbsp;") k s

first_amps : (s : Bytes) → starts_with (0xA0 ∷ []) (amps s) ≡ starts_with (0xA0 ∷ []) s
unfolding each_byte instead starts_with same
first_amps [] = refl
first_amps (b ∷ s) = go (eqb b 38) refl
  where
    go : (t : Bool) → eqb b 38 ≡ t
        → same (take 1 (cond t (ascii "&amp;") (b ∷ []) ++ amps s)) (0xA0 ∷ []) ≡ (eqb b 0xA0 && true)
    go true e = rw (eqb-true b 38 e)
    go false e = refl

pub first_is_lem : (x b : ℕ) (s : Bytes) → starts_with (x ∷ []) (b ∷ s) ≡ true → b ≡ x
unfolding starts_with same
first_is_lem x b s h = eqb-true b x (and_l (eqb b x) true h)

here_nbsp : (b : ℕ) (s : Bytes) → starts_with nbsp (b ∷ amps s) ≡ is_nbsp b s
unfolding is_nbsp
here_nbsp b s = rw (sym (first_amps s)) (unfold starts_with same in refl)

amp_step : (s : Bytes) → quotes (nbsps 0 (ascii "&amp;" ++ amps s)) ≡ ascii "&amp;" ++ quotes (nbsps 0 (amps s))
unfolding each_byte instead replaced_from starts_with same
amp_step s = refl

entity_other : (b : ℕ) (s : Bytes) → eqb b 38 ≡ false → is_nbsp b s ≡ false → entity b s ≡ instead 34 (ascii "&quot;") b
unfolding entity instead
entity_other b s e n = rw (e, n)

entity_amp : (b : ℕ) (s : Bytes) → eqb b 38 ≡ true → entity b s ≡ ascii "&amp;"
unfolding entity
entity_amp b s e = rw e

pub entity_nbsp : (b : ℕ) (s : Bytes) → is_nbsp b s ≡ true → entity b s ≡ ascii "&nbsp;"
unfolding entity
entity_nbsp b s n =
    let c : eqb b 0xC2 ≡ true = unfold is_nbsp in and_l (eqb b 0xC2) _ n in
    rw (n, eqb-true b 0xC2 c)

-- the Standard's steps but those on `<` and `>`, where the first byte of s may belong to a U+00A0 that is replaced already
from_steps : (s : Bytes) (second : Bool) → (second ≡ true → starts_with (0xA0 ∷ []) s ≡ true)
    → html_from second s ≡ quotes (nbsps (cond second 1 0) (amps s))
unfolding html_from each_byte replaced_from instead
from_steps [] true h = refl
from_steps [] false h = refl
from_steps (b ∷ s) true h =
    rw (first_is_lem 0xA0 b s (h refl)) (from_steps s false (λ n. absurd (false≢true n)))
from_steps (b ∷ s) false h = go (eqb b 38) refl (is_nbsp b s) refl (from_steps s (is_nbsp b s))
  where
    go : (t : Bool) → eqb b 38 ≡ t → (u : Bool) → is_nbsp b s ≡ u
        → ((u ≡ true → starts_with (0xA0 ∷ []) s ≡ true) → html_from u s ≡ quotes (nbsps (cond u 1 0) (amps s)))
        → entity b s ++ html_from u s ≡ quotes (nbsps 0 (cond t (ascii "&amp;") (b ∷ []) ++ amps s))
    go true e true n f = absurd (true≢false (sym n ∙ rw (eqb-true b 38 e) (unfold is_nbsp in refl)))
    go true e false n f =
        rw (entity_amp b s e, f (λ m. absurd (false≢true m))) (sym (amp_step s))
    go false e true n f =
        rw (entity_nbsp b s n, here_nbsp b s, n, f (λ m. unfold is_nbsp in and_r (eqb b 0xC2) _ n))
    go false e false n f =
        rw (entity_other b s e n, here_nbsp b s, n, f (λ m. absurd (false≢true m)))

-- HTML: the steps for `&`, U+00A0 and the quotation mark, in the Standard's order, for every text
pub html_steps : (s : Bytes) → html_escape s ≡ quotation_marks (no_break_spaces (ampersands s))
unfolding html_escape quotation_marks no_break_spaces ampersands
html_steps s =
    rw (replaced_one 38 (ascii "&amp;") s, replaced_one 34 (ascii "&quot;"))
    (unfold replaced in from_steps s false (λ n. absurd (false≢true n)))

-- ---- `<` and `>`

-- replacing x, and replacing z, where neither is in what stands for the other
swap_byte : (x z : ℕ) (y w : Bytes) → eqb x z ≡ false → each_byte (instead x y) w ≡ w → each_byte (instead z w) y ≡ y
    → (b : ℕ) → each_byte (instead x y) (instead z w b) ≡ each_byte (instead z w) (instead x y b)
unfolding instead each_byte
swap_byte x z y w n p q b = go (eqb b x) refl (eqb b z) refl
  where
    go : (t : Bool) → eqb b x ≡ t → (u : Bool) → eqb b z ≡ u
        → each_byte (instead x y) (cond u w (b ∷ [])) ≡ each_byte (instead z w) (cond t y (b ∷ []))
    go true e true f = absurd (true≢false (sym f ∙ (ap (λ (c : ℕ). eqb c z) (eqb-true b x e) ∙ n)))
    go true e false f = rw (e, append-nil y) (sym q)
    go false e true f = rw (f, append-nil w) p
    go false e false f = rw (e, f)

swap : (x z : ℕ) (y w : Bytes) → eqb x z ≡ false → each_byte (instead x y) w ≡ w → each_byte (instead z w) y ≡ y
    → (s : Bytes) → each_byte (instead x y) (each_byte (instead z w) s) ≡ each_byte (instead z w) (each_byte (instead x y) s)
unfolding each_byte
swap x z y w n p q [] = refl
swap x z y w n p q (b ∷ s) =
    rw (
      each_app (instead x y) (instead z w b) (each_byte (instead z w) s),
      each_app (instead z w) (instead x y b) (each_byte (instead x y) s),
      swap_byte x z y w n p q b,
      swap x z y w n p q s,
    )

quotes_angles : (z : Bytes) → quotation_marks (angle_brackets z) ≡ angle_brackets (quotation_marks z)
unfolding angle_brackets quotation_marks each_byte instead
quotes_angles z =
    simp replaced_one
    (swap 34 62 (ascii "&quot;") (ascii "&gt;") refl refl refl (each_byte (instead 60 (ascii "&lt;")) z)
    ∙ ap (each_byte (instead 62 (ascii "&gt;"))) (swap 34 60 (ascii "&quot;") (ascii "&lt;") refl refl refl z))

-- HTML: the Standard's escaping is that of `html_escape` with `<` and `>` replaced besides, for every text
pub html_attribute : (s : Bytes) → escaped_attribute s ≡ angle_brackets (html_escape s)
unfolding escaped_attribute
html_attribute s = rw (html_steps s) (quotes_angles (no_break_spaces (ampersands s)))
