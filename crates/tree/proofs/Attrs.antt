-- The attributes that fields say, from field to field.
use Prim.Native.Nat.{ℕ, ◌+◌, ◌-◌, ◌<◌, ◌≤◌}
use native.Mathlib.Omega.{arith}
use mathlib.Core.Path.{◌≡◌, refl, ap, ◌∙◌, sym, subst}
use mathlib.Core.Bool.{Bool, true, false, cond, ◌&&◌, ◌||◌, false≢true, and-eq-true_iff}
use borrow.Author.Tests.{eqb-true}
use mathlib.Core.List.{List, [], ◌∷◌}
use mathlib.Core.Option.{Option, none, some}
use lib.ListN.{length, take, drop, length-drop}
use lib.Seq.{take_all}
use lib.Dec.{eqb}
use Rattle.spec.specs.Bytes.{Bytes, same, isin}
use Rattle.spec.specs.Fields.{Field, fields}
use Rattle.spec.specs.Tree.{Attr, Tail, text, comment, node_then, open_then, name_then, value_then, close_then, field_then, tail}
use denote.Param.Members.{Mut}
use Rattle.std.specs.Fn.{CalledAt}
use Rattle.std.specs.Iterator.{Yields, YieldsFirstBy, FindsItem}
use Rattle.std.specs.List.{FoldsTo}
use Rattle.std.specs.Option.{MatchOption}
use Rattle.input.specs.Fields.{field, fields_left}
use Rattle.input.specs.declared.fields.Fields.{Fields}
use Rattle.input.specs.declared.fields.Field as code
use Rattle.input.specs.Spans.{end_of, span_at, field_of}
use Rattle.tree.specs.Represents.{attrs_behind}
use Rattle.tree.specs.Attributes.{ends_attrs, either_attr, PartOf, Valued}
use Rattle.input.specs.declared.fields.Span.{Span}
use Rattle.std.specs.Prelude.{Option as Answer, Some, None}
use Rattle.tree.proofs.Values.{Parts, parts_behind, part_none}
use Rattle.std.specs.Borrow.{Bor}
use Rattle.input.proofs.Walking.{span_fields}
use Rattle.input.proofs.Every.{none_left}

-- ---- one field

-- `field_then` by its tests
abbrev then_by : Bool → Bool → Bool → Bool → Bool → Bytes → Tail → Tail
then_by o c x m n body t =
    cond o (open_then body t)
    (cond c (close_then t)
    (cond x (node_then (text body) t) (cond m (node_then (comment body) t) (cond n (name_then body t) (value_then body t)))))

pub ends_then : (f : Field) (t : Tail) → ends_attrs f.tag ≡ true → ((field_then f t).attrs ≡ []) × ((field_then f t).value ≡ [])
unfolding field_then isin open_then close_then node_then
ends_then f t e = go (eqb f.tag 1) (eqb f.tag 6) (eqb f.tag 4) (eqb f.tag 5) (eqb f.tag 2) e
  where
    go : (o c x m n : Bool) → (o || (x || (m || (c || false)))) ≡ true
        → ((then_by o c x m n f.body t).attrs ≡ []) × ((then_by o c x m n f.body t).value ≡ [])
    go true c x m n e = (refl, refl)
    go false true x m n e = (refl, refl)
    go false false true m n e = (refl, refl)
    go false false false true n e = (refl, refl)
    go false false false false n e = absurd (false≢true e)

pub name_then_lem : (f : Field) (t : Tail) → f.tag ≡ 2
    → ((field_then f t).attrs ≡ record { name = f.body; value = t.value } ∷ t.attrs) × ((field_then f t).value ≡ [])
unfolding field_then name_then
name_then_lem f t e =
    subst
    (λ (n : ℕ).
    ((field_then (record { tag = n; body = f.body }) t).attrs ≡ record { name = f.body; value = t.value } ∷ t.attrs)
    × ((field_then (record { tag = n; body = f.body }) t).value ≡ []))
    (sym e) (refl, refl)

pub other_then : (f : Field) (t : Tail) → ends_attrs f.tag ≡ false → eqb f.tag 2 ≡ false
    → ((field_then f t).attrs ≡ t.attrs) × ((field_then f t).value ≡ f.body)
unfolding field_then isin value_then
other_then f t e k = go (eqb f.tag 1) (eqb f.tag 6) (eqb f.tag 4) (eqb f.tag 5) (eqb f.tag 2) e k
  where
    go : (o c x m n : Bool) → (o || (x || (m || (c || false)))) ≡ false → n ≡ false
        → ((then_by o c x m n f.body t).attrs ≡ t.attrs) × ((then_by o c x m n f.body t).value ≡ f.body)
    go true c x m n e k = absurd (false≢true (sym e))
    go false true true m n e k = absurd (false≢true (sym e))
    go false true false true n e k = absurd (false≢true (sym e))
    go false true false false n e k = absurd (false≢true (sym e))
    go false false true m n e k = absurd (false≢true (sym e))
    go false false false true n e k = absurd (false≢true (sym e))
    go false false false false true e k = absurd (false≢true (sym k))
    go false false false false false e k = (refl, refl)

-- ---- no attributes from p on

pub attrs_none : (s : Bytes) (p : ℕ) → length s - p < 3 → (tail (fields (drop p s))).attrs ≡ []
unfolding tail
attrs_none s p h = rw (none_left s p h)

pub attrs_end : (s : Bytes) (p : ℕ) (r : Span) → p + 3 ≤ length s → r ≡ span_at s p → ends_attrs r.tag ≡ true → (tail (fields (drop p s))).attrs ≡ []
unfolding tail
attrs_end s p r h r-is e =
    let at : tail (fields (drop p s)) ≡ field_then (field_of s r) (tail (fields (drop r.end s))) = rw (r-is, span_fields s p h) in
    ap (λ (t : Tail). t.attrs) at ∙ (ends_then (field_of s r) _ e).0

pub either_missing : (s a b : Bytes) {attrs : List Attr} {v : Option Bytes} → attrs ≡ [] → v ≡ either_attr a b attrs → Valued s None v
unfolding either_attr
either_missing s a b none-there so_far = record { inside = tt; value_is = so_far ∙ ap (either_attr a b) none-there }

-- ---- the first field that ends the attributes or is one of two names

-- it is such a field
abbrev pub stops : Bytes → Bytes → Field → Bool
stops a b f = ends_attrs f.tag || (eqb f.tag 2 && (same a f.body || same b f.body))

-- the attribute is among those that these fields say
abbrev pub Among : Bytes → Bytes → List Attr → List Field → Type 0
Among a b attrs fs = either_attr a b attrs ≡ either_attr a b (tail fs).attrs

module _ (a b : Bytes) (f : Field) (fs : List Field) where
  passed : stops a b f ≡ false → either_attr a b (tail (f ∷ fs)).attrs ≡ either_attr a b (tail fs).attrs
  unfolding tail either_attr
  passed e = go (ends_attrs f.tag) (eqb f.tag 2) (same a f.body || same b f.body) refl refl refl e
    where
      go : (x y z : Bool) → ends_attrs f.tag ≡ x → eqb f.tag 2 ≡ y → (same a f.body || same b f.body) ≡ z → (x || (y && z)) ≡ false
          → either_attr a b (field_then f (tail fs)).attrs ≡ either_attr a b (tail fs).attrs
      go true y z p q r e = absurd (false≢true (sym e))
      go false true true p q r e = absurd (false≢true (sym e))
      go false true false p q r e = ap (either_attr a b) (name_then_lem f (tail fs) (eqb-true f.tag 2 q)).0 ∙ rw r
      go false false z p q r e = ap (either_attr a b) (other_then f (tail fs) p q).0

  ended : ends_attrs f.tag ≡ true → (tail (f ∷ fs)).attrs ≡ []
  unfolding tail
  ended e = (ends_then f (tail fs) e).0

  named : stops a b f ≡ true → ends_attrs f.tag ≡ false → either_attr a b (tail (f ∷ fs)).attrs ≡ some (tail fs).value
  unfolding tail either_attr
  named e n =
      let p : (eqb f.tag 2 ≡ true) × ((same a f.body || same b f.body) ≡ true) = (and-eq-true_iff _ _).0 (ap (λ (t : Bool). t || (eqb f.tag 2 && (same a f.body || same b f.body))) (sym n) ∙ e) in
      ap (either_attr a b) (name_then_lem f (tail fs) (eqb-true f.tag 2 p.0)).0 ∙ rw p.1

-- by the places of a sheet: the field at p is one of two names, and the value is what the field behind it says
pub either_found : (s : Bytes) (p : ℕ) (r : Span) → p + 3 ≤ length s → r ≡ span_at s p → (a b : Bytes) (v : Option Bytes) → v ≡ either_attr a b (tail (fields (drop p s))).attrs
    → (eqb r.tag 2 && (same a (field_of s r).body || same b (field_of s r).body)) ≡ true → v ≡ some (tail (fields (drop r.end s))).value
unfolding tail either_attr
either_found s p r h r-is a b v so_far e =
    let q : (eqb r.tag 2 ≡ true) × ((same a (field_of s r).body || same b (field_of s r).body) ≡ true) = (and-eq-true_iff _ _).0 e in
    let at : tail (fields (drop p s)) ≡ field_then (field_of s r) (tail (fields (drop r.end s))) = rw (r-is, span_fields s p h) in
    so_far ∙ ap (λ (t : Tail). either_attr a b t.attrs) at ∙ ap (either_attr a b) (name_then_lem (field_of s r) _ (eqb-true r.tag 2 q.0)).0 ∙ rw q.1

module _ (s a b : Bytes) {F : Type 0} {g : Mut F (Bor code.Field × Unit {0}) Bool} {f : F}
    (closure : (x : code.Field) (t : Bool) (k : F) → CalledAt g f x t k → (k ≡ f) × (t ≡ stops a b (field x))) where
  passes : (xs : List code.Field) (i t : Fields) (j : F) → Yields (YieldsFirstBy field fields_left) i xs t → FoldsTo (λ p x q. CalledAt g p x false q) f xs j
      → Parts s (fields_left i) → (either_attr a b (tail (fields_left i)).attrs ≡ either_attr a b (tail (fields_left t)).attrs) × Parts s (fields_left t) × (j ≡ f)
  passes [] i t j y z p = (ap (λ (k : Fields). either_attr a b (tail (fields_left k)).attrs) y, subst (λ (k : Fields). Parts s (fields_left k)) y p, sym z)
  passes (x ∷ xs) i t j y z p =
      let call = closure x false z.0 z.1 in
      let behind = subst (Parts s) y.1 p in
      let rest = passes xs y.0 t j y.2 (subst (λ (k : F). FoldsTo (λ p x q. CalledAt g p x false q) k xs j) call.0 z.2) behind.1 in
      (ap (λ (l : List Field). either_attr a b (tail l).attrs) y.1 ∙ (passed a b (field x) (fields_left y.0) (sym call.1) ∙ rest.0), rest.1, rest.2)

-- the value that fields say is a part of the sheet, as they are
value_part : (s : Bytes) (fs : List Field) → Parts s fs → PartOf s (tail fs).value
unfolding tail
value_part s [] p = part_none s
value_part s (f ∷ fs) p = go (ends_attrs f.tag) (eqb f.tag 2) refl refl
  where
    go : (x y : Bool) → ends_attrs f.tag ≡ x → eqb f.tag 2 ≡ y → PartOf s (field_then f (tail fs)).value
    go true y e k = subst (PartOf s) (sym (ends_then f (tail fs) e).1) (part_none s)
    go false true e k = subst (PartOf s) (sym (name_then_lem f (tail fs) (eqb-true f.tag 2 k)).1) (part_none s)
    go false false e k = subst (PartOf s) (sym (other_then f (tail fs) e k).1) p.0

-- what `find` says of the attributes of the element at p, where it gives r and leaves u
abbrev pub Found : Bytes → ℕ → Bytes → Bytes → Fields → Answer code.Field → Type 0
Found s p a b u r =
    MatchOption r (either_attr a b (attrs_behind s p) ≡ none)
    (λ x. (stops a b (field x) ≡ true) × (either_attr a b (attrs_behind s p) ≡ either_attr a b (tail (field x ∷ fields_left u)).attrs) × Parts s (fields_left u))

module _ (s : Bytes) (p : ℕ) (a b : Bytes) {F : Type 0} {g : Mut F (Bor code.Field × Unit {0}) Bool} {f : F} {i : Fields} (r : Answer code.Field) (u : Fields)
    (ran : FindsItem (YieldsFirstBy field fields_left) g i f r u) (head : Span) (at : head ≡ span_at s p) (new : fields_left i ≡ fields (take (length s - head.end) (drop head.end s)))
    (closure : (x : code.Field) (t : Bool) (k : F) → CalledAt g f x t k → (k ≡ f) × (t ≡ stops a b (field x))) where
  left : fields_left i ≡ fields (drop (end_of s p) s)
  left =
      new ∙ ap fields (take_all (length s - head.end) (drop head.end s) (omega (arith, length-drop head.end s)))
      ∙ ap (λ (r : Span). fields (drop r.end s)) at

  found : Found s p a b u r
  unfolding tail either_attr
  found = go r ran
    where
      go : (o : Answer code.Field) → FindsItem (YieldsFirstBy field fields_left) g i f o u → Found s p a b u o
      go None (xs, j, (t, y, last), z, w) =
          let so_far = passes s a b closure xs i t j y z (subst (Parts s) (sym left) (parts_behind s (end_of s p))) in
          ap (λ (l : List Field). either_attr a b (tail l).attrs) (sym left) ∙ so_far.0 ∙ ap (λ (l : List Field). either_attr a b (tail l).attrs) last.0
      go (Some x) (xs, j, (t, y, last), z, w) =
          let so_far = passes s a b closure xs i t j y z (subst (Parts s) (sym left) (parts_behind s (end_of s p))) in (
            sym (closure x true w.0 (subst (λ (k : F). CalledAt g k x true w.0) so_far.2 w.1)).1,
            ap (λ (l : List Field). either_attr a b (tail l).attrs) (sym left) ∙ so_far.0 ∙ ap (λ (l : List Field). either_attr a b (tail l).attrs) last,
            (subst (Parts s) last so_far.1).1,
          )

  pub either_none : r ≡ None → {o : Answer (Bor Bytes)} → o ≡ None → Valued s o (either_attr a b (attrs_behind s p))
  either_none e n =
      subst (λ (o : Answer (Bor Bytes)). Valued s o (either_attr a b (attrs_behind s p))) (sym n)
      (record { inside = tt; value_is = subst (Found s p a b u) e found })

  module _ (x : code.Field) (e : r ≡ Some x) where
    pub either_ends : ends_attrs x.tag ≡ true → Valued s None (either_attr a b (attrs_behind s p))
    unfolding either_attr
    either_ends n = let h = subst (Found s p a b u) e found in record { inside = tt; value_is = h.1 ∙ ap (either_attr a b) (ended a b (field x) (fields_left u) n) }

    pub either_value : ends_attrs x.tag ≡ false → (v : Bor Bytes) → v.now ≡ (tail (fields_left u)).value → Valued s (Some v) (either_attr a b (attrs_behind s p))
    either_value n v k =
        let h = subst (Found s p a b u) e found in
        record { inside = subst (PartOf s) (sym k) (value_part s (fields_left u) h.2); value_is = h.1 ∙ named a b (field x) (fields_left u) h.0 n ∙ ap some (sym k) }
