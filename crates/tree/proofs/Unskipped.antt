-- The default skip list has no name that has a number.
use Prim.Native.Nat.{ℕ}
use mathlib.Core.Path.{◌≡◌, refl, ap, ◌∙◌, sym}
use mathlib.Core.Bool.{Bool, true, false, cond, ◌&&◌, ◌||◌, false≢true}
use mathlib.Core.List.{List, [], ◌∷◌}
use lib.ListN.{get_or}
use lib.Dec.{eqb}
use Rattle.spec.specs.Bytes.{Bytes, same, among}
use Rattle.spec.specs.Names.{names, place, tag_of}
use Rattle.spec.specs.Call.{tags_to_skip}
use Rattle.spec.specs.Md.Constants.{DEFAULT_SKIP_TAGS}
use Rattle.tree.specs.Nodes.{body_at, name_at, skipped_at}
use Rattle.spec.specs.Questions.{standard}
use Rattle.spec.proofs.Tests.{same_eq}

-- none of these names has a number
abbrev Numberless : List Bytes → Type 0
Numberless [] = Unit {0}
Numberless (y ∷ ys) = (tag_of y ≡ 0) × Numberless ys

numberless_or : (x y : Bytes) (b more : Bool) → same x y ≡ b → tag_of y ≡ 0 → (more ≡ true → tag_of x ≡ 0) → (b || more) ≡ true → tag_of x ≡ 0
numberless_or x y true more s n m e = ap tag_of (same_eq x y s) ∙ n
numberless_or x y false more s n m e = m e

numberless : (x : Bytes) (ys : List Bytes) → Numberless ys → among x ys ≡ true → tag_of x ≡ 0
unfolding among
numberless x [] n e = absurd (false≢true e)
numberless x (y ∷ ys) n e = numberless_or x y (same x y) (among x ys) refl n.0 (numberless x ys n.1) e

default_numberless : Numberless DEFAULT_SKIP_TAGS
unfolding tag_of names place same
default_numberless = (refl, (refl, (refl, (refl, tt))))

is_false : (b : Bool) → (b ≡ true → ⊥) → b ≡ false
is_false true n = absurd (n refl)
is_false false n = refl

pub unskipped : (sh : Bytes) (p : ℕ) → (name_at sh p ≡ 0 → ⊥) → false ≡ skipped_at (tags_to_skip standard) sh p
unfolding name_at skipped_at tags_to_skip
unskipped sh p n =
    (sym (is_false (eqb (get_or sh p 0) 1 && among (body_at sh p) DEFAULT_SKIP_TAGS) (λ e. n (go (eqb (get_or sh p 0) 1) e))))
  where
    go : (t : Bool) → (t && among (body_at sh p) DEFAULT_SKIP_TAGS) ≡ true → cond t (tag_of (body_at sh p)) 0 ≡ 0
    go true e = numberless (body_at sh p) DEFAULT_SKIP_TAGS default_numberless e
    go false e = refl
