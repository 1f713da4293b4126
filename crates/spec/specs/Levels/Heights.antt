-- The height of the tree that fields say, by the number of elements that are open.
use Rattle.std.specs.Prelude.{ℕ, zero, suc, ◌+◌, ◌-◌, ◌≤◌, ◌≡◌, refl, Bool, true, false, cond, not, ◌&&◌, List, [], ◌∷◌, eqb, leb}
use Rattle.std.proofs.Common.{arith, leb-true}
use Rattle.std.proofs.Math.Bool.{and-eq-true_iff}
use Rattle.std.proofs.lemmas.Bool.{false≢true}
use Rattle.spec.specs.Bytes.{Bytes}
use Rattle.spec.specs.Fields.{Field}
use Rattle.spec.specs.Tree.{Attr, Forest, nothing, text, comment, element, height, Tail, first, others, node_then, open_then, name_then, value_then, close_then, field_then, tail}
use Rattle.spec.specs.Questions.{may_follow, right_length, open_after, no_stray, keep_rules, still_open, max_open, shallow}

-- the siblings that begin behind d open elements, and those behind each of these: within one another and below the open
-- elements, no more than `max_open`
abbrev pub Bounded : ℕ → List Forest → Type 0
Bounded zero fs = height (first fs) ≤ max_open
Bounded (suc d) fs = (height (first fs) + suc d ≤ max_open) × Bounded d (others fs)

-- the first siblings may be others of the same height
bounded_node : (d : ℕ) (fs : List Forest) (f : Forest) → height f ≡ height (first fs) → Bounded d fs → Bounded d (f ∷ others fs)
unfolding first others
bounded_node zero fs f e p = rw e p
bounded_node (suc d) fs f e p = (rw e p.0, p.1)

bounded_open : (d : ℕ) (fs : List Forest) (name : Bytes) (attrs : List Attr) → Bounded (suc d) fs
    → Bounded d (element name attrs (first fs) (first (others fs)) ∷ others (others fs))
unfolding first others height
bounded_open zero fs name attrs p = omega arith
bounded_open (suc d) fs name attrs p = (omega arith, p.1.1)

bounded_close : (d : ℕ) (fs : List Forest) → not (eqb d 0) ≡ true → d ≤ max_open → Bounded (d - 1) fs → Bounded d (nothing ∷ fs)
unfolding first others height
bounded_close zero fs stray h p = absurd (false≢true stray)
bounded_close (suc d) fs stray h p =
    let e : suc d - 1 ≡ d = omega arith in
    (omega arith, rw e at p)

-- one field, by the tests of `field_then` and `open_after`
bounded_field : (isOpen isClose is_text isComment isName : Bool) (d : ℕ) (body : Bytes) (t : Tail)
    → not (isClose && eqb d 0) ≡ true
    → d ≤ max_open
    → Bounded (cond isOpen (suc d) (cond isClose (d - 1) d)) t.siblings
    → Bounded d
    (cond isOpen (open_then body t)
    (cond isClose (close_then t)
    (cond is_text (node_then (text body) t)
    (cond isComment (node_then (comment body) t) (cond isName (name_then body t) (value_then body t)))))
    ).siblings
unfolding open_then close_then name_then value_then node_then height
bounded_field true c x m n d body t stray h p = bounded_open d t.siblings body t.attrs p
bounded_field false true x m n d body t stray h p = bounded_close d t.siblings stray h p
bounded_field false false true m n d body t stray h p = bounded_node d t.siblings (text body (first t.siblings)) refl p
bounded_field false false false true n d body t stray h p = bounded_node d t.siblings (comment body (first t.siblings)) refl p
bounded_field false false false false true d body t stray h p = p
bounded_field false false false false false d body t stray h p = p

pub bounded_tail : (fs : List Field) (before d : ℕ) → keep_rules before d fs ≡ true → shallow d fs ≡ true → still_open d fs ≡ 0
    → Bounded d (tail fs).siblings
unfolding tail keep_rules no_stray open_after shallow still_open field_then first height max_open
bounded_tail [] before d rules low closed = rw closed (omega arith)
bounded_tail (f ∷ fs) before d rules low closed =
    let r : (no_stray d f.tag ≡ true) × (keep_rules f.tag (open_after d f.tag) fs ≡ true) =
    (and-eq-true_iff _ _).0 ((and-eq-true_iff (may_follow before f.tag && right_length f) _).0 rules).1 in
    let l : (leb d max_open ≡ true) × (shallow (open_after d f.tag) fs ≡ true) = (and-eq-true_iff _ _).0 low in
    bounded_field (eqb f.tag 1) (eqb f.tag 6) (eqb f.tag 4) (eqb f.tag 5) (eqb f.tag 2) d f.body (tail fs)
    r.0 (leb-true d max_open l.0) (bounded_tail fs f.tag (open_after d f.tag) r.1 l.1 closed)
