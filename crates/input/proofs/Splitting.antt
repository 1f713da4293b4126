-- The first field of a run, split off, and what is asked of all fields that an iterator gives.
use Prim.Native.Nat.{ℕ, zero, suc, ◌+◌, ◌-◌, ◌*◌, ◌≤◌, ◌<◌, min}
use native.Mathlib.Omega.{arith}
use mathlib.Core.Path.{◌≡◌, refl, ap, ◌∙◌, sym}
use mathlib.Core.Bool.{Bool, true, false, cond, ◌&&◌, and-false}
use mathlib.Core.List.{List, [], ◌∷◌}
use lib.ListN.{length, get_or, take, drop, length-drop}
use lib.Seq.{take_all, drop-drop}
use lib.Dec.{eqb}
use Rattle.std.proofs.Common.{nat_eq}
use lib.Pointwise.{pointwise}
use Rattle.std.proofs.lemmas.List.{take_min, drop_min}
use Rattle.spec.specs.Bytes.{Bytes, same}
use denote.Param.Members.{Mut, Called}
use Rattle.std.proofs.lemmas.Iterator.{YieldsList, cases_from_all}
use Rattle.std.proofs.lemmas.Iterator.Consumers.{YieldsList-from_first}
use Rattle.std.specs.Bool.{MatchBool}
use Rattle.std.specs.Iterator.{YieldsFirstBy, ChecksAll}
use Rattle.std.specs.List.{AllWithin, HoldsAt, filter}
use Rattle.spec.specs.Fields.{Field, word, fields_from, fields, fields_cons}
use Rattle.spec.specs.Questions.{every_field, nodes_in}
use Rattle.input.specs.Fields.{field, fields_left}
use Rattle.input.specs.Scans.{begins_node}
use Rattle.input.specs.declared.fields.Fields.{Fields}
use Rattle.input.specs.declared.fields.Field as code

pub split_fields : (s : Bytes) (n m : ℕ) (body rest : Bytes) → 3 ≤ length s → n ≡ get_or s 1 0 * 256 + get_or s 2 0
    → m ≡ min n (length (take (length s - 3) (drop 3 s))) → body ≡ take m (take (length s - 3) (drop 3 s)) → rest ≡ drop m (take (length s - 3) (drop 3 s))
    → fields s ≡ record { tag = get_or s 0 0; body = body } ∷ fields rest
unfolding word
split_fields [] n m body rest h n-is m-is body-is rest-is = absurd (omega arith)
split_fields (t ∷ []) n m body rest h n-is m-is body-is rest-is = absurd (omega arith)
split_fields (t ∷ a ∷ []) n m body rest h n-is m-is body-is rest-is = absurd (omega arith)
split_fields (t ∷ a ∷ b ∷ r) n m body rest h n-is m-is body-is rest-is = go (take_all (length (t ∷ a ∷ b ∷ r) - 3) r (omega arith))
  where
    go : take (length (t ∷ a ∷ b ∷ r) - 3) r ≡ r → fields (t ∷ a ∷ b ∷ r) ≡ record { tag = t; body = body } ∷ fields rest
    go whole = fields_cons t a b r ∙ rw (body-is, rest-is, m-is, n-is, whole, take_min, drop_min) refl

-- what is left behind a field of n bytes
pub behind_field : (s : Bytes) (n : ℕ) → 3 ≤ length s → n ≤ length (take (length s - 3) (drop 3 s))
    → take (length (take (length s - 3) (drop 3 s)) - n) (drop n (take (length s - 3) (drop 3 s))) ≡ drop (0 + 3 + n) s
behind_field s n h l = rw (take_all (length s - 3) (drop 3 s) (omega (arith, length-drop 3 s))) (take_all _ (drop n (drop 3 s)) (omega (arith, length-drop n (drop 3 s))) ∙ drop-drop n 3 s)

-- a field has three bytes and more
few_from : (n : ℕ) (s : Bytes) → length (fields_from n s) * 3 ≤ length s
unfolding fields_from
few_from zero s = omega arith
few_from (suc n) [] = omega arith
few_from (suc n) (t ∷ []) = omega arith
few_from (suc n) (t ∷ a ∷ []) = omega arith
few_from (suc n) (t ∷ a ∷ b ∷ s) = omega (arith, few_from n (drop (word a b) s), length-drop (word a b) s)

pub few_fields : (s : Bytes) → length (fields s) * 3 ≤ length s
unfolding fields
few_fields s = few_from (length s) s

-- the nodes are begun by the fields that begin one
pub nodes_counted : (fs : List Field) → nodes_in fs ≡ length (filter (λ f. begins_node f.tag) fs)
unfolding nodes_in
nodes_counted [] = refl
nodes_counted (f ∷ fs) = go (begins_node f.tag) (nodes_counted fs)
  where
    go : (t : Bool) → nodes_in fs ≡ length (filter (λ g. begins_node g.tag) fs)
        → cond t (suc (nodes_in fs)) (nodes_in fs) ≡ length (cond t (f ∷ filter (λ g. begins_node g.tag) fs) (filter (λ g. begins_node g.tag) fs))
    go true e = ap suc e
    go false e = e

pub same_eq : (a b : Bytes) → pointwise nat_eq a b ≡ same a b
unfolding same
same_eq [] [] = refl
same_eq [] (y ∷ b) = refl
same_eq (x ∷ a) [] = refl
same_eq (x ∷ a) (y ∷ b) = ap (λ (t : Bool). eqb x y && t) (same_eq a b)

-- ---- a test of every field

pub fields_from_run : (f : Fields) (s : Bytes) → fields_left f ≡ fields s → YieldsList (YieldsFirstBy field fields_left) field f (fields s)
fields_from_run f s e = YieldsList-from_first field fields_left (fields s) e

all_hold : (q : Field → Bool) (fs : List Field) → AllWithin (λ f. q f ≡ true) fs 0 (length fs) → true ≡ every_field q fs
unfolding every_field
all_hold q [] h = refl
all_hold q (f ∷ fs) h = rw (h 0 f (omega arith) (omega arith)) (all_hold q fs (λ k d l m. h (suc k) d (omega arith) (omega arith)))

one_fails : (q : Field → Bool) (fs : List Field) (k : ℕ) → k < length fs → HoldsAt (λ f. q f ≡ false) fs k → false ≡ every_field q fs
unfolding every_field
one_fails q [] k h e = absurd (omega arith)
one_fails q (f ∷ fs) zero h e = rw (e f) refl
one_fails q (f ∷ fs) (suc k) h e = rw (sym (one_fails q fs k (omega arith) (λ d. e d)), and-false (q f)) refl

every_from_cases : (q : Field → Bool) (fs : List Field) (r : Bool)
    → MatchBool r (AllWithin (λ f. q f ≡ true) fs 0 (length fs)) ((k : ℕ) × (k < length fs) × HoldsAt (λ f. q f ≡ false) fs k) → r ≡ every_field q fs
every_from_cases q fs true h = all_hold q fs h
every_from_cases q fs false h = one_fails q fs h.0 h.1 h.2

-- the answer of `all` over the fields of s, where the closure answers q of each
pub every_from_all : {F : Type 0} {g : Mut F (code.Field × Unit {0}) Bool} (q : Field → Bool) (s : Bytes) (u : Fields) {i : Fields} {f : F} {r : Bool}
    → ChecksAll (YieldsFirstBy field fields_left) g i f r u → fields_left i ≡ fields s
    → ((x : code.Field) (b : Bool) (k : F) → Called g f (x, tt) b k → (k ≡ f) × (b ≡ q (field x))) → r ≡ every_field q (fields s)
every_from_all q s u {i} {f} {r} ran e closure =
    every_from_cases q (fields s) r
    (cases_from_all u f r (λ y. q y ≡ true) (λ y. q y ≡ false) ran (fields_from_run i s e)
    (λ x k t. let h = closure x true k t in (h.0, sym h.1)) (λ x k t. sym (closure x false k t).1))
