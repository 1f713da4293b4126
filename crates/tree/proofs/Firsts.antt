-- What the record of the first node of a forest says of the forest.
use Prim.Native.Nat.{ℕ, ◌+◌, ◌*◌, ◌/◌, ◌≤◌, ◌<◌}
use native.Mathlib.Omega.{arith}
use mathlib.Core.Path.{◌≡◌, refl, ap, ap₂, sym, subst}
use mathlib.Core.List.{List}
use lib.ListN.{length, get_or}
use Rattle.spec.specs.Bytes.{Bytes}
use Rattle.spec.specs.Fields.{Field}
use Rattle.spec.specs.Tree.{Attr, Forest, nothing, text, comment, element, height, kids_of}
use Rattle.tree.specs.Memory.{place_at, number_at, end_at, parent_at}
use Rattle.tree.specs.Represents.{FieldAt, attrs_behind, Rep, head_of, rest_of}
use Rattle.tree.specs.Nodes.{body_at, name_at}

module _ (sh ns : Bytes) where
  pub rep_le : (parent i e : ℕ) (f : Forest) → Rep sh ns parent i e f → i ≤ e
  unfolding Rep
  rep_le parent i e nothing h = omega arith
  rep_le parent i e (text s r) h = omega (arith, rep_le parent (i + 1) e r h.4)
  rep_le parent i e (comment s r) h = omega (arith, rep_le parent (i + 1) e r h.4)
  rep_le parent i e (element name attrs k r) h =
      omega (arith, rep_le i (i + 1) (end_at ns i) k h.4, rep_le parent (end_at ns i) e r h.5)

  -- where no number is left, the forest is empty
  pub ended : (parent i e : ℕ) (f : Forest) → Rep sh ns parent i e f → e ≤ i → f ≡ nothing
  unfolding Rep
  ended parent i e nothing h l = refl
  ended parent i e (text s r) h l = absurd (omega (arith, rep_le parent (i + 1) e r h.4))
  ended parent i e (comment s r) h l = absurd (omega (arith, rep_le parent (i + 1) e r h.4))
  ended parent i e (element name attrs k r) h l =
      absurd (omega (arith, rep_le i (i + 1) (end_at ns i) k h.4, rep_le parent (end_at ns i) e r h.5))

-- node i, the first of the forest: its record and its field, the node alone, its children and what follows it
pub record First (sh ns : Bytes) (parent i e : ℕ) (f : Forest) : Type 0 where
  pub inside : i * 24 + 24 ≤ length ns
  pub placed : place_at ns i + 3 ≤ length sh
  pub numbered : number_at ns i ≡ name_at sh (place_at ns i)
  pub later : i < end_at ns i
  pub within : end_at ns i ≤ e
  pub parent_is : parent_at ns i ≡ parent
  pub alone : Rep sh ns parent i (end_at ns i) (head_of f)
  pub in_it : Rep sh ns i (i + 1) (end_at ns i) (kids_of f)
  pub after : Rep sh ns parent (end_at ns i) e (rest_of f)
  pub low : height (head_of f) ≤ height f
  pub lower : height (rest_of f) ≤ height f
  pub deeper : get_or sh (place_at ns i) 0 ≡ 1 → height (kids_of f) + 1 ≤ height f
  pub element_is : get_or sh (place_at ns i) 0 ≡ 1
      → f ≡ element (body_at sh (place_at ns i)) (attrs_behind sh (place_at ns i)) (kids_of f) (rest_of f)
  pub text_is : get_or sh (place_at ns i) 0 ≡ 4 → f ≡ text (body_at sh (place_at ns i)) (rest_of f)
  pub comment_is : (get_or sh (place_at ns i) 0 ≡ 1 → ⊥) → (get_or sh (place_at ns i) 0 ≡ 4 → ⊥)
      → f ≡ comment (body_at sh (place_at ns i)) (rest_of f)

module _ {sh : Bytes} {e tag : ℕ} {body : Bytes} (at : FieldAt sh e tag body) where
  pub its_tag : get_or sh (e / 256) 0 ≡ tag
  its_tag = ap (λ (f : Field). f.tag) at.field

  pub its_body : body ≡ body_at sh (e / 256)
  its_body = sym (ap (λ (f : Field). f.body) at.field)

module _ (sh ns : Bytes) (parent i e : ℕ) where
  pub first : (f : Forest) → Rep sh ns parent i e f → i < e → First sh ns parent i e f
  unfolding Rep head_of rest_of kids_of height
  first nothing h l = absurd (omega arith)
  first (text s r) h l =
      record {
        inside = h.0;
        placed = h.1.head;
        numbered = h.1.number;
        later = omega (arith, h.2);
        within = omega (arith, h.2, rep_le sh ns parent (i + 1) e r h.4);
        parent_is = h.3;
        alone = (h.0, h.1, h.2, h.3, sym h.2);
        in_it = sym h.2;
        after = subst (λ (j : ℕ). Rep sh ns parent j e r) (sym h.2) h.4;
        low = omega arith;
        lower = omega arith;
        deeper = λ t. absurd (omega (arith, t, its_tag h.1));
        element_is = λ t. absurd (omega (arith, t, its_tag h.1));
        text_is = λ t. ap (λ (b : Bytes). text b r) (its_body h.1);
        comment_is = λ t u. absurd (u (its_tag h.1));
      }
  first (comment s r) h l =
      record {
        inside = h.0;
        placed = h.1.head;
        numbered = h.1.number;
        later = omega (arith, h.2);
        within = omega (arith, h.2, rep_le sh ns parent (i + 1) e r h.4);
        parent_is = h.3;
        alone = (h.0, h.1, h.2, h.3, sym h.2);
        in_it = sym h.2;
        after = subst (λ (j : ℕ). Rep sh ns parent j e r) (sym h.2) h.4;
        low = omega arith;
        lower = omega arith;
        deeper = λ t. absurd (omega (arith, t, its_tag h.1));
        element_is = λ t. absurd (omega (arith, t, its_tag h.1));
        text_is = λ t. absurd (omega (arith, t, its_tag h.1));
        comment_is = λ t u. ap (λ (b : Bytes). comment b r) (its_body h.1);
      }
  first (element name attrs k r) h l =
      record {
        inside = h.0;
        placed = h.1.head;
        numbered = h.1.number;
        later = omega (arith, rep_le sh ns i (i + 1) (end_at ns i) k h.4);
        within = rep_le sh ns parent (end_at ns i) e r h.5;
        parent_is = h.3;
        alone = (h.0, h.1, h.2, h.3, h.4, refl);
        in_it = h.4;
        after = h.5;
        low = omega arith;
        lower = omega arith;
        deeper = λ t. omega arith;
        element_is = λ t. ap₂ (λ (b : Bytes) (a : List Attr). element b a k r) (its_body h.1) h.2;
        text_is = λ t. absurd (omega (arith, t, its_tag h.1));
        comment_is = λ t u. absurd (t (its_tag h.1));
      }
