-- What the fields of a sheet tell of the records of its nodes, and that memory which says so holds the tree.
use Prim.Native.Nat.{ℕ, ◌+◌, ◌*◌, ◌/◌, ◌<◌, ◌≤◌}
use native.Mathlib.Omega.{arith}
use mathlib.Core.Path.{◌≡◌, refl, ap, ◌∙◌, sym, subst}
use mathlib.Core.Bool.{Bool, true, false, cond}
use mathlib.Core.List.{List, [], ◌∷◌}
use lib.ListN.{length, drop, length-drop}
use lib.Dec.{eqb, leb}
use borrow.Author.Tests.{eqb-true, leb-true, leb-false}
use Rattle.spec.specs.Bytes.{Bytes}
use Rattle.spec.specs.Fields.{Field, fields, fields_short}
use Rattle.spec.specs.Tree.{Attr, Forest, nothing, text, comment, element, Tail, first, others, node_then, open_then, name_then, value_then, close_then, field_then, tail}
use Rattle.input.specs.Spans.{length_at, end_of, span_at, field_of}
use Rattle.tree.specs.Memory.{entry_at, end_at, parent_at}
use Rattle.tree.specs.Kinds.{Kind, opens, closes, texts, comments, aside, kind_by, kind_of}
use Rattle.tree.specs.Represents.{FieldAt, entry_of, attrs_behind, Rep}
use Rattle.tree.specs.Nodes.{name_at}
use Rattle.input.proofs.Walking.{span_fields, past_end}
use Rattle.tree.proofs.Entries.{entry_place, entry_number}

-- record k is that of a node with this entry whose parent is `parent`
abbrev pub Recorded : Bytes → ℕ → ℕ → ℕ → Type 0
Recorded ns k e parent = (k * 24 + 24 ≤ length ns) × (entry_at ns k ≡ e) × (parent_at ns k ≡ parent)

-- What a field with the entry e tells, where k nodes begin before it, `cur` is the innermost open node and `open` those around it, and
-- `next` is what the fields behind it tell
abbrev pub ToldAs : Kind → Bytes → ℕ → ℕ → ℕ → List ℕ → (ℕ → ℕ → List ℕ → Type 0) → Type 0
ToldAs opens ns k e cur around next = Recorded ns k e cur × next (k + 1) k (cur ∷ around)
ToldAs closes ns k e cur [] next = ⊥
ToldAs closes ns k e cur (q ∷ around) next = (end_at ns cur ≡ k) × next k q around
ToldAs texts ns k e cur around next = Recorded ns k e cur × (end_at ns k ≡ k + 1) × next (k + 1) cur around
ToldAs comments ns k e cur around next = Recorded ns k e cur × (end_at ns k ≡ k + 1) × next (k + 1) cur around
ToldAs aside ns k e cur around next = next k cur around

-- all that the fields from p on tell, with n nodes at their end
unfoldable pub Told : Bytes → Bytes → ℕ → List Field → ℕ → ℕ → ℕ → List ℕ → Type 0
Told sh ns n [] p k cur around = (k ≡ n) × (around ≡ [])
Told sh ns n (f ∷ fs) p k cur around =
    ToldAs (kind_of f.tag) ns k (entry_of sh p) cur around (λ k' cur' around'. Told sh ns n fs (p + 3 + length_at sh p) k' cur' around')

-- the siblings from number k on in `cur`, and behind each open node those that follow it
unfoldable pub RepAll : Bytes → Bytes → ℕ → ℕ → ℕ → List ℕ → List Forest → Type 0
RepAll sh ns n k cur [] fs = Rep sh ns cur k n (first fs)
RepAll sh ns n k cur (q ∷ around) fs =
    Rep sh ns cur k (end_at ns cur) (first fs) × RepAll sh ns n (end_at ns cur) q around (others fs)

module _ (sh ns : Bytes) (n : ℕ) where
  -- a text or a comment before siblings that are represented
  leaf_all : (node : Forest → Forest) (k cur : ℕ) (around : List ℕ) (fs : List Forest)
      → ((e : ℕ) (f : Forest) → Rep sh ns cur (k + 1) e f → Rep sh ns cur k e (node f))
      → RepAll sh ns n (k + 1) cur around fs → RepAll sh ns n k cur around (node (first fs) ∷ others fs)
  unfolding RepAll first others
  leaf_all node k cur [] fs make all = make n (first fs) all
  leaf_all node k cur (q ∷ around) fs make all = (make (end_at ns cur) (first fs) all.0, all.1)

  open_all : (name : Bytes) (attrs : List Attr) (k e cur : ℕ) (around : List ℕ) (fs : List Forest) → Recorded ns k e cur
      → FieldAt sh e 1 name → attrs ≡ attrs_behind sh (e / 256)
      → RepAll sh ns n (k + 1) k (cur ∷ around) fs
      → RepAll sh ns n k cur around (element name attrs (first fs) (first (others fs)) ∷ others (others fs))
  unfolding RepAll first others Rep
  open_all name attrs k e cur [] fs r at a all = (
    r.0,
    subst (λ (q : ℕ). FieldAt sh q 1 name) (sym r.1) at,
    a ∙ ap (λ (q : ℕ). attrs_behind sh (q / 256)) (sym r.1),
    r.2,
    all.0,
    all.1,
  )
  open_all name attrs k e cur (q ∷ around) fs r at a all = (
    (
      r.0,
      subst (λ (q : ℕ). FieldAt sh q 1 name) (sym r.1) at,
      a ∙ ap (λ (q : ℕ). attrs_behind sh (q / 256)) (sym r.1),
      r.2,
      all.0,
      all.1.0,
    ),
    all.1.1,
  )

  close_all : (k cur q : ℕ) (around : List ℕ) (fs : List Forest) → end_at ns cur ≡ k → RepAll sh ns n k q around fs
      → RepAll sh ns n k cur (q ∷ around) (nothing ∷ fs)
  unfolding RepAll first others Rep
  close_all k cur q around fs e all = (sym e, subst (λ (j : ℕ). RepAll sh ns n j q around fs) (sym e) all)

  -- one field, with the entry v, by the tests of `field_then`; `all` is the law for the fields behind it
  step_all : (isOpen isClose is_text isComment isName : Bool) (f : Field) (t : Tail) (v k cur : ℕ) (around : List ℕ)
      (next : ℕ → ℕ → List ℕ → Type 0)
      → eqb f.tag 1 ≡ isOpen
      → eqb f.tag 4 ≡ is_text
      → eqb f.tag 5 ≡ isComment
      → FieldAt sh v f.tag f.body
      → t.attrs ≡ attrs_behind sh (v / 256)
      → ((k' cur' : ℕ) (around' : List ℕ) → next k' cur' around' → RepAll sh ns n k' cur' around' t.siblings)
      → ToldAs (kind_by isOpen isClose is_text isComment) ns k v cur around next
      → RepAll sh ns n k cur around
      (cond isOpen (open_then f.body t)
      (cond isClose (close_then t)
      (cond is_text (node_then (text f.body) t)
      (cond isComment (node_then (comment f.body) t) (cond isName (name_then f.body t) (value_then f.body t)))))
      ).siblings
  unfolding open_then close_then node_then name_then value_then Rep
  step_all true c x m a f t v k cur around next e e4 e5 at attrs all told =
      open_all f.body t.attrs k v cur around t.siblings told.0
      (subst (λ (g : ℕ). FieldAt sh v g f.body) (eqb-true f.tag 1 e) at) attrs
      (all (k + 1) k (cur ∷ around) told.1)
  step_all false true x m a f t v k cur [] next e e4 e5 at attrs all told = absurd told
  step_all false true x m a f t v k cur (q ∷ around) next e e4 e5 at attrs all told =
      close_all k cur q around t.siblings told.0 (all k q around told.1)
  step_all false false true m a f t v k cur around next e e4 e5 at attrs all told =
      leaf_all (text f.body) k cur around t.siblings
      (λ j g r. (
        told.0.0,
        subst (λ (q : ℕ). FieldAt sh q 4 f.body) (sym told.0.1) (subst (λ (g : ℕ). FieldAt sh v g f.body) (eqb-true f.tag 4 e4) at),
        told.1,
        told.0.2,
        r,
      ))
      (all (k + 1) cur around told.2)
  step_all false false false true a f t v k cur around next e e4 e5 at attrs all told =
      leaf_all (comment f.body) k cur around t.siblings
      (λ j g r. (
        told.0.0,
        subst (λ (q : ℕ). FieldAt sh q 5 f.body) (sym told.0.1) (subst (λ (g : ℕ). FieldAt sh v g f.body) (eqb-true f.tag 5 e5) at),
        told.1,
        told.0.2,
        r,
      ))
      (all (k + 1) cur around told.2)
  step_all false false false false true f t v k cur around next e e4 e5 at attrs all told = all k cur around told
  step_all false false false false false f t v k cur around next e e4 e5 at attrs all told = all k cur around told

  -- a field of the sheet stands at p
  pub at_place : (f : Field) (fs : List Field) (p : ℕ) → f ∷ fs ≡ fields (drop p sh)
      → (p + 3 ≤ length sh) × (f ≡ field_of sh (span_at sh p)) × (fs ≡ fields (drop (end_of sh p) sh))
  at_place f fs p e = go (leb (p + 3) (length sh)) refl
    where
      go : (b : Bool) → leb (p + 3) (length sh) ≡ b
          → (p + 3 ≤ length sh) × (f ≡ field_of sh (span_at sh p)) × (fs ≡ fields (drop (end_of sh p) sh))
      go true h =
          let inside : p + 3 ≤ length sh = leb-true (p + 3) (length sh) h in
          let q : f ∷ fs ≡ field_of sh (span_at sh p) ∷ fields (drop (end_of sh p) sh) = e ∙ span_fields sh p inside in
          (inside, cc q, cc q)
      go false h =
          let short : length sh < p + 3 = leb-false (p + 3) (length sh) h in
          let none : fields (drop p sh) ≡ [] = fields_short (drop p sh) (omega (arith, length-drop p sh, short)) in
          let z : ◌≡◌ {A = ℕ} 0 1 = cc (e, none) in
          absurd (omega arith)

  -- its entry is that of a field with its bytes
  field_entry : (f : Field) (p : ℕ) → p + 3 ≤ length sh → f ≡ field_of sh (span_at sh p) → FieldAt sh (entry_of sh p) f.tag f.body
  field_entry f p inside e =
      let q : entry_of sh p / 256 ≡ p = entry_place sh p in
      record {
        head = omega (arith, q);
        field = ap (λ (i : ℕ). field_of sh (span_at sh i)) q ∙ sym e;
        number = entry_number sh p ∙ ap (name_at sh) (sym q);
      }

  pub told_all : (fs : List Field) (p k cur : ℕ) (around : List ℕ) → fs ≡ fields (drop p sh) → Told sh ns n fs p k cur around
      → RepAll sh ns n k cur around (tail fs).siblings
  unfolding Told tail field_then RepAll Rep first
  told_all [] p k cur [] e told = told.0
  told_all [] p k cur (q ∷ around) e told = let z : ◌≡◌ {A = ℕ} 0 1 = cc told.1 in absurd (omega arith)
  told_all (f ∷ fs) p k cur around e told =
      let here : (p + 3 ≤ length sh) × (f ≡ field_of sh (span_at sh p)) × (fs ≡ fields (drop (end_of sh p) sh)) = at_place f fs p e in
      step_all (eqb f.tag 1) (eqb f.tag 6) (eqb f.tag 4) (eqb f.tag 5) (eqb f.tag 2) f (tail fs) (entry_of sh p) k cur around
      (λ k' cur' around'. Told sh ns n fs (p + 3 + length_at sh p) k' cur' around') refl refl refl
      (field_entry f p here.0 here.1) (ap (λ (gs : List Field). (tail gs).attrs) here.2 ∙ ap (attrs_behind sh) (sym (entry_place sh p)))
      (λ k' cur' around'. told_all fs (p + 3 + length_at sh p) k' cur' around' (here.2 ∙ ap fields (past_end sh p))) told
