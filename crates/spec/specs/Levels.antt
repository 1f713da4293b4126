-- More levels than a tree has change nothing, and `levels` is enough for every sheet that passes questions 3 and 5. Assumes
-- nothing.
pub mod Writers
pub mod Heights
use Rattle.std.specs.Prelude.{ℕ, zero, suc, ◌-◌, ◌≤◌, ◌<◌, ◌≡◌, Bool, true, false, cond, List, [], ◌∷◌, eqb, leb, ltb}
use Rattle.std.proofs.Common.{arith, eqb-true}
use Rattle.std.proofs.Math.Bool.{and-eq-true_iff}
use Rattle.spec.specs.Bytes.{Bytes}
use Rattle.spec.specs.Fields.{fields}
use Rattle.spec.specs.Tree.{Forest, nothing, text, comment, element, kids_of, attrs_of, height, size, Found, node_at, tail, tree_of}
use Rattle.spec.specs.Questions.{keep_rules, still_open, node_count, max_open, shallow, question3, question5}
use Rattle.spec.specs.Md.Ctx.{new, set_node}
use Rattle.spec.specs.Md.MDSerializer.{Ancestors, write_kids, write}
use Rattle.spec.specs.Md.Serializer.{write_at, serializer, levels, write_found, write_fragment, serialize}
use Rattle.spec.specs.Md.{serialize_md}
use Rattle.spec.specs.declared.ctx.FormatOpts.{FormatOpts}
use Rattle.spec.specs.Levels.Writers.{Agree, levels_agree}
use Rattle.spec.specs.Levels.Heights.{Bounded, bounded_tail}

-- a node of the forest has no more levels
found_height : (k : ℕ) (anc : Ancestors) (f : Forest) → height (node_at k anc f).node ≤ height f
unfolding node_at height
found_height zero anc nothing = omega arith
found_height (suc k) anc nothing = omega arith
found_height zero anc (text s rest) = omega arith
found_height (suc k) anc (text s rest) = found_height k anc rest
found_height zero anc (comment s rest) = omega arith
found_height (suc k) anc (comment s rest) = found_height k anc rest
found_height zero anc (element name attrs kids rest) = omega arith
found_height (suc k) anc (element name attrs kids rest) =
    go (ltb k (size kids)) (found_height k (attrs ∷ anc) kids) (found_height (k - size kids) anc rest)
  where
    go : (b : Bool) → height (node_at k (attrs ∷ anc) kids).node ≤ height kids → height (node_at (k - size kids) anc rest).node ≤ height rest
        → height (cond b (node_at k (attrs ∷ anc) kids) (node_at (k - size kids) anc rest)).node ≤ height (element name attrs kids rest)
    go true p q = omega arith
    go false p q = omega arith

kids_height : (f : Forest) → height (kids_of f) ≤ height f
unfolding kids_of height
kids_height nothing = omega arith
kids_height (text s rest) = omega arith
kids_height (comment s rest) = omega arith
kids_height (element name attrs kids rest) = omega arith

-- n levels and m levels write the same from every start node, if the tree has fewer than both
pub more_levels : (skips : List Bytes) (f : Forest) (start : ℕ) (withNode : Bool) (n m : ℕ) → height f < n → height f < m
    → serialize (serializer skips n) f start withNode ≡ serialize (serializer skips m) f start withNode
unfolding serialize serializer write_fragment write_found write write_kids
more_levels skips f start withNode n m p q =
    let k : ℕ = suc (height f) in
    let same : Agree k (write_at skips n) (write_at skips m) = levels_agree skips k n m p q in
    let at : Found = node_at (start - 1) [] f in
    let low : height at.node < k = omega (arith, found_height (start - 1) [] f) in
    let lower : height (kids_of at.node) < k = omega (arith, low, kids_height at.node) in
    let opts : FormatOpts = set_node withNode new in
    rw (
      same [] opts f [] (omega arith),
      same at.ancestors opts at.node [] low,
      same (attrs_of at.node ∷ at.ancestors) opts (kids_of at.node) [] lower,
    )

-- questions 3 and 5 keep the tree below `levels`
pub levels_suffice : (sheet : Bytes) → question3 sheet ≡ true → question5 sheet ≡ true → height (tree_of (fields sheet)) < levels
unfolding question3 question5 tree_of levels max_open
levels_suffice sheet p q =
    let rules : (keep_rules 0 0 (fields sheet) ≡ true) × (eqb (still_open 0 (fields sheet)) 0 ≡ true) = (and-eq-true_iff _ _).0 p in
    let low : (leb (node_count sheet) 65535 ≡ true) × (shallow 0 (fields sheet) ≡ true) = (and-eq-true_iff _ _).0 q in
    let bound : Bounded 0 (tail (fields sheet)).siblings =
    bounded_tail (fields sheet) 0 0 rules.0 low.1 (eqb-true _ _ rules.1) in
    omega (arith, bound)

-- so `serialize_md` is what any greater number of levels gives
pub serialize_levels : (sheet : Bytes) (start : ℕ) (withNode : Bool) (skips : List Bytes) (n : ℕ)
    → question3 sheet ≡ true
    → question5 sheet ≡ true
    → levels ≤ n
    → serialize (serializer skips n) (tree_of (fields sheet)) start withNode
    ≡ serialize_md (tree_of (fields sheet)) start withNode skips
unfolding serialize_md
serialize_levels sheet start withNode skips n p q enough =
    let low : height (tree_of (fields sheet)) < levels = levels_suffice sheet p q in
    more_levels skips (tree_of (fields sheet)) start withNode n levels (omega arith) low
