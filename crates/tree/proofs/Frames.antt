-- What changes only scratch leaves the tree in node memory as it was.
use Prim.Native.Nat.{ℕ, ◌+◌, ◌-◌, ◌*◌, ◌/◌, ◌≤◌, ◌<◌}
use native.Mathlib.Omega.{arith}
use mathlib.Core.Path.{◌≡◌, refl, ap, ◌∙◌, sym, subst}
use mathlib.Core.Logic.{⊎_elim}
use mathlib.Core.List.{List, [], ◌∷◌}
use lib.ListN.{get_or}
use Rattle.spec.specs.Bytes.{Bytes}
use Rattle.spec.specs.Tree.{Attr, Forest, nothing, text, comment, element}
use Rattle.tree.specs.Memory.{long_at, Stored, entry_at, place_at, end_at, parent_at, Kept}
use Rattle.tree.specs.Represents.{FieldAt, attrs_behind, Rep, Around}
use Rattle.tree.proofs.Numbers.{word_same, quad_same}
use Rattle.spec.proofs.Order.{le_or_lt}

pub kept_none : {from to : ℕ} (a : Bytes) → Kept from to a a
kept_none a = record { long = refl; tree = λ i k h. refl; below = λ j h. refl; above = λ j h. refl }

pub kept_then : {from to : ℕ} {a b c : Bytes} → Kept from to a b → Kept from to b c → Kept from to a c
kept_then p q =
    record {
      long = q.long ∙ p.long;
      tree = λ i k h. q.tree i k h ∙ p.tree i k h;
      below = λ j h. q.below j h ∙ p.below j h;
      above = λ j h. q.above j h ∙ p.above j h;
    }

pub kept_in : {from to from' to' : ℕ} {a b : Bytes} → from' ≤ from → to ≤ to' → Kept from to a b → Kept from' to' a b
kept_in l r p =
    record { long = p.long; tree = p.tree; below = λ j h. p.below j (omega arith); above = λ j h. p.above j (omega arith) }

-- a number stored in the scratch of node i, k bytes into its record
pub scratch_kept : (i k v : ℕ) {a b : Bytes} → 8 ≤ k → k ≤ 16 → Stored long_at 8 (i * 24 + k) v a b → Kept i (i + 1) a b
scratch_kept i k v l m s =
    record {
      long = s.same_long;
      tree = λ j n h. ⊎_elim (λ (o : j ≤ i). s.before (j * 24 + n) (omega arith)) (λ (o : i < j). s.behind (j * 24 + n) (omega arith)) (le_or_lt j i);
      below = λ j h. s.before j (omega arith);
      above = λ j h. s.behind j (omega arith);
    }

module _ {from to : ℕ} {a b : Bytes} (p : Kept from to a b) where
  same_tree : (i k : ℕ) → i * 24 ≤ k → k < i * 24 + 8 → get_or b k 0 ≡ get_or a k 0
  same_tree i k l h =
      let e : i * 24 + (k - i * 24) ≡ k = omega arith in
      subst (λ (j : ℕ). get_or b j 0 ≡ get_or a j 0) e (p.tree i (k - i * 24) (omega arith))

  pub entry_kept : (i : ℕ) → entry_at b i ≡ entry_at a i
  entry_kept i = quad_same a b (i * 24) (λ k l h. same_tree i k (omega arith) (omega arith))

  pub place_kept : (i : ℕ) → place_at b i ≡ place_at a i
  place_kept i = ap (λ (e : ℕ). e / 256) (entry_kept i)

  pub end_kept : (i : ℕ) → end_at b i ≡ end_at a i
  end_kept i = word_same a b (i * 24 + 4) (λ k l h. same_tree i k (omega arith) (omega arith))

  pub parent_kept : (i : ℕ) → parent_at b i ≡ parent_at a i
  parent_kept i = word_same a b (i * 24 + 6) (λ k l h. same_tree i k (omega arith) (omega arith))

  pub rep_kept : (sh : Bytes) (parent i e : ℕ) (f : Forest) → Rep sh a parent i e f → Rep sh b parent i e f
  unfolding Rep
  rep_kept sh parent i e nothing h = h
  rep_kept sh parent i e (text s r) h = (
    omega (arith, p.long, h.0),
    subst (λ (q : ℕ). FieldAt sh q 4 s) (sym (entry_kept i)) h.1,
    end_kept i ∙ h.2,
    parent_kept i ∙ h.3,
    rep_kept sh parent (i + 1) e r h.4,
  )
  rep_kept sh parent i e (comment s r) h = (
    omega (arith, p.long, h.0),
    subst (λ (q : ℕ). FieldAt sh q 5 s) (sym (entry_kept i)) h.1,
    end_kept i ∙ h.2,
    parent_kept i ∙ h.3,
    rep_kept sh parent (i + 1) e r h.4,
  )
  rep_kept sh parent i e (element name attrs k r) h = (
    omega (arith, p.long, h.0),
    subst (λ (q : ℕ). FieldAt sh q 1 name) (sym (entry_kept i)) h.1,
    h.2 ∙ ap (attrs_behind sh) (sym (place_kept i)),
    parent_kept i ∙ h.3,
    subst (λ (j : ℕ). Rep sh b i (i + 1) j k) (sym (end_kept i)) (rep_kept sh i (i + 1) (end_at a i) k h.4),
    subst (λ (j : ℕ). Rep sh b parent j e r) (sym (end_kept i)) (rep_kept sh parent (end_at a i) e r h.5),
  )

  pub around_kept : (sh : Bytes) (q : ℕ) (anc : List (List Attr)) → Around sh a q anc → Around sh b q anc
  unfolding Around
  around_kept sh q [] h = h
  around_kept sh q (attrs ∷ anc) h = (
    h.0,
    omega (arith, p.long, h.1),
    omega (arith, place_kept q, h.2),
    h.3 ∙ ap (attrs_behind sh) (sym (place_kept q)),
    subst (λ (j : ℕ). Around sh b j anc) (sym (parent_kept q)) (around_kept sh (parent_at a q) anc h.4),
  )
