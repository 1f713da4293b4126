-- What is asked of a field, by its tag.
use Prim.Native.Nat.{ℕ, ◌≤◌}
use native.Mathlib.Omega.{arith}
use mathlib.Core.Path.{◌≡◌, refl, sym}
use mathlib.Core.Bool.{Bool, true, false, not, ◌&&◌, ◌||◌, and-true, and-false, and_comm, or-false}
use mathlib.Core.List.{[], ◌∷◌}
use lib.ListN.{length}
use lib.Dec.{eqb, leb, eqb-suc-zero}
use borrow.Author.Tests.{leb-true, eqb-true, eqb-false}
use Rattle.spec.specs.Bytes.{Bytes, ascii, same, isin}
use Rattle.spec.specs.Utf8.{is_utf8, well_formed}
use Rattle.spec.specs.Questions.{may_follow, no_stray}
use Rattle.input.specs.Scans.{field_right}
use Rattle.input.specs.Sound.{ruled_field, sound_field}

-- a close holds nothing, and that is UTF-8
pub of_close : (before depth : ℕ) (body : Bytes) → sound_field before depth 6 body ≡ field_right before depth 6 (length body)
unfolding sound_field ruled_field may_follow isin no_stray is_utf8 well_formed
of_close before depth [] = simp and-true
of_close before depth (b ∷ s) = rw (eqb-suc-zero (length s), and-false (not (eqb before 2)))

pub sound_utf8 : (before depth tag : ℕ) (body : Bytes) → is_utf8 body ≡ true → ruled_field before depth tag body ≡ sound_field before depth tag body
unfolding sound_field
sound_utf8 before depth tag body e = rw e (sym (and-true (ruled_field before depth tag body)))

pub no_utf8 : (before depth tag : ℕ) (body : Bytes) → is_utf8 body ≡ false → false ≡ sound_field before depth tag body
unfolding sound_field
no_utf8 before depth tag body e = rw e (sym (and-false (ruled_field before depth tag body)))

neither : (a b : Bool) → (not a && not b) ≡ not (a || b)
neither true b = refl
neither false b = refl

module _ (before depth : ℕ) (body : Bytes) where
  pub of_open : ruled_field before depth 1 body
      ≡ (not (eqb before 2 || eqb (length body) 0) && not (same body (ascii "blockquote")))
  unfolding ruled_field may_follow isin no_stray
  of_open = rw (and-true (not (eqb before 2) && not (eqb (length body) 0)), neither (eqb before 2) (eqb (length body) 0))

  pub of_name : ruled_field before depth 2 body ≡ (not (eqb (length body) 0) && (eqb before 1 || eqb before 3))
  unfolding ruled_field may_follow isin no_stray
  of_name = simp (or-false, and-true) (and_comm (eqb before 1 || eqb before 3) (not (eqb (length body) 0)))

  pub of_value : ruled_field before depth 3 body ≡ eqb before 2
  unfolding ruled_field may_follow isin no_stray
  of_value = simp and-true

  pub of_text : ruled_field before depth 4 body ≡ not (eqb before 2)
  unfolding ruled_field may_follow isin no_stray
  of_text = simp and-true

  of_comment : ruled_field before depth 5 body ≡ not (eqb before 2)
  unfolding ruled_field may_follow isin no_stray
  of_comment = simp and-true

-- a tag that is none of 1 to 6
no_tag : (tag : ℕ) → (tag ≡ 1 → ⊥) → (tag ≡ 2 → ⊥) → (tag ≡ 3 → ⊥) → (tag ≡ 4 → ⊥) → (tag ≡ 5 → ⊥) → (tag ≡ 6 → ⊥)
    → (leb 1 tag && leb tag 6) ≡ false
no_tag tag n1 n2 n3 n4 n5 n6 = go (leb 1 tag) (leb tag 6) refl refl
  where
    none : 1 ≤ tag → tag ≤ 6 → ⊥
    none l h = omega arith

    go : (t u : Bool) → leb 1 tag ≡ t → leb tag 6 ≡ u → (t && u) ≡ false
    go false u p q = refl
    go true false p q = refl
    go true true p q = absurd (none (leb-true 1 tag p) (leb-true tag 6 q))

-- a comment, or a tag that is none of 1 to 6
pub of_rest : (before depth tag : ℕ) (body : Bytes) → (tag ≡ 1 → ⊥) → (tag ≡ 2 → ⊥) → (tag ≡ 3 → ⊥) → (tag ≡ 4 → ⊥) → (tag ≡ 6 → ⊥)
    → (eqb tag 5 && not (eqb before 2)) ≡ ruled_field before depth tag body
unfolding ruled_field
of_rest before depth tag body n1 n2 n3 n4 n6 = go (eqb tag 5) refl
  where
    go : (t : Bool) → eqb tag 5 ≡ t → (t && not (eqb before 2)) ≡ ruled_field before depth tag body
    go true p = rw (eqb-true tag 5 p) (sym (of_comment before depth body))
    go false p = rw (no_tag tag n1 n2 n3 n4 (eqb-false tag 5 p) n6)
