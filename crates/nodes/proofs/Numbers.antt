-- Loops through the numbers of a range of nodes.
use Prim.Native.Nat.{ℕ, ◌+◌, ◌-◌, ◌≤◌, ◌<◌}
use native.Mathlib.Omega.{arith}
use mathlib.Core.Path.{◌≡◌, refl, ap, ◌∙◌, sym, subst, fun_ext}
use mathlib.Core.Logic.{⊎_elim}
use mathlib.Core.Bool.{Bool, true, false, ◌||◌, or_assoc}
use mathlib.Core.List.{[], ◌++◌}
use lib.ListN.{get_or}
use lib.Dec.{eqb}
use borrow.Author.Tests.{eq-eqb, ne_eqb}
use Rattle.spec.specs.Bytes.{Bytes}
use Rattle.spec.specs.Tree.{Forest, nothing, text, comment, element, kids_of, text_of}
use Rattle.spec.specs.Out.{Step, keep, and_then}
use Rattle.spec.specs.Md.TextUtils.{push_normalized_text}
use Rattle.spec.specs.Md.Elements.List.{name_of}
use Rattle.spec.specs.Md.Elements.Link.{has_element, write_text}
use Rattle.spec.specs.declared.ctx.FormatOpts.{FormatOpts}
use Rattle.tree.specs.Memory.{place_at, end_at}
use Rattle.tree.specs.Represents.{Rep, rest_of}
use Rattle.tree.specs.Nodes.{name_at, text_at}
use Rattle.spec.proofs.Order.{le_or_lt}
use Rattle.tree.proofs.Firsts.{First, first, its_tag, its_body}
use Rattle.tree.proofs.Kin.{first_name, first_text_lem}
use Rattle.tree.proofs.Ranges.{total, total_rep, total_on, total_done, text_pieces}
use Rattle.text.proofs.Writing.{keep_then, then_assoc}
use Rattle.nodes.specs.Stands.{Siblings, NodeAt}
use Rattle.nodes.specs.TextStep.{text_step}

-- ---- every number of the range is a node

-- the first of some siblings is one
pub node_first : {sh ns : Bytes} {parent i e : ℕ} {f : Forest} → First sh ns parent i e f → NodeAt sh ns i
node_first t = record { inside = t.inside; placed = t.placed; numbered = t.numbered }

first_node : (sh ns : Bytes) (parent i j e : ℕ) (f : Forest) → Rep sh ns parent i e f → i < e → i ≡ j → NodeAt sh ns j
first_node sh ns parent i j e f h l q =
    let t : First sh ns parent i e f = first sh ns parent i e f h l in
    subst (λ (k : ℕ). NodeAt sh ns k) q (node_first t)

rep_node : (sh ns : Bytes) (j parent i e : ℕ) (f : Forest) → Rep sh ns parent i e f → i ≤ j → j < e → NodeAt sh ns j
unfolding Rep
rep_node sh ns j parent i e nothing h l m = absurd (omega arith)
rep_node sh ns j parent i e (text s r) h l m =
    ⊎_elim (λ (q : j ≤ i). first_node sh ns parent i j e (text s r) h (omega arith) (omega arith))
    (λ (q : i < j). rep_node sh ns j parent (i + 1) e r h.4 (omega arith) m) (le_or_lt j i)
rep_node sh ns j parent i e (comment s r) h l m =
    ⊎_elim (λ (q : j ≤ i). first_node sh ns parent i j e (comment s r) h (omega arith) (omega arith))
    (λ (q : i < j). rep_node sh ns j parent (i + 1) e r h.4 (omega arith) m) (le_or_lt j i)
rep_node sh ns j parent i e (element name attrs k r) h l m =
    ⊎_elim (λ (q : j ≤ i). first_node sh ns parent i j e (element name attrs k r) h (omega arith) (omega arith))
    (λ (q : i < j).
    ⊎_elim (λ (o : end_at ns i ≤ j). rep_node sh ns j parent (end_at ns i) e r h.5 o m)
    (λ (o : j < end_at ns i). rep_node sh ns j i (i + 1) (end_at ns i) k h.4 (omega arith) o)
    (le_or_lt (end_at ns i) j))
    (le_or_lt j i)

pub node_in : (sh ns : Bytes) (j i e : ℕ) → Siblings sh ns i e → i ≤ j → j < e → NodeAt sh ns j
node_in sh ns j i e s = rep_node sh ns j s.0 i e s.1 s.2

-- ---- an element of some name

abbrev pub named : ℕ → Bytes → Bytes → ℕ → Bool
named name sh ns j = eqb (name_at sh (place_at ns j)) name

abbrev pub some_named : ℕ → Bytes → Bytes → ℕ → ℕ → Bool
some_named name sh ns e i = total false (λ (x y : Bool). x || y) (named name sh ns) (e - i) i

has_node : (name : ℕ) → 0 < name → (f : Forest) → has_element name f ≡ (eqb (name_of f) name || (has_element name (kids_of f) || has_element name (rest_of f)))
unfolding has_element name_of kids_of rest_of
has_node name p nothing = rw (ne_eqb 0 name (λ q. omega arith))
has_node name p (text s r) = rw (ne_eqb 0 name (λ q. omega arith))
has_node name p (comment s r) = rw (ne_eqb 0 name (λ q. omega arith))
has_node name p (element n attrs k r) = refl

pub has_numbers : (sh ns : Bytes) (name parent i e : ℕ) (f : Forest) → 0 < name → Rep sh ns parent i e f → has_element name f ≡ some_named name sh ns e i
unfolding has_element
has_numbers sh ns name parent i e f p h =
    total_rep false (λ (x y : Bool). x || y) (λ (x : Bool). refl) or_assoc (named name sh ns) sh ns (has_element name) refl
    (λ parent i e f h l. rw (first_name sh ns parent i e f h l) (has_node name p f)) parent i e f h

module _ (name : ℕ) (sh ns : Bytes) (e i : ℕ) where
  pub named_here : i < e → name_at sh (place_at ns i) ≡ name → some_named name sh ns e i ≡ true
  named_here l q = total_on false (λ (x y : Bool). x || y) (named name sh ns) i e l ∙ rw (eq-eqb (name_at sh (place_at ns i)) name q)

  pub named_on : i < e → (name_at sh (place_at ns i) ≡ name → ⊥) → some_named name sh ns e i ≡ some_named name sh ns e (i + 1)
  named_on l q = total_on false (λ (x y : Bool). x || y) (named name sh ns) i e l ∙ rw (ne_eqb (name_at sh (place_at ns i)) name q)

  pub named_none : e ≤ i → some_named name sh ns e i ≡ false
  named_none l = total_done false (λ (x y : Bool). x || y) (named name sh ns) i e l

-- ---- `text_of`

abbrev pub pieces : Bytes → Bytes → ℕ → ℕ → Bytes
pieces sh ns e i = total [] (λ (x y : Bytes). x ++ y) (λ (j : ℕ). text_at sh (place_at ns j)) (e - i) i

-- the text of node i is x
module _ (sh ns : Bytes) (e i : ℕ) where
  pub pieces_on : {x : Bytes} → i < e → x ≡ text_at sh (place_at ns i) → pieces sh ns e i ≡ x ++ pieces sh ns e (i + 1)
  pieces_on {x} l h =
      total_on [] (λ (x y : Bytes). x ++ y) (λ (j : ℕ). text_at sh (place_at ns j)) i e l
      ∙ ap (λ (y : Bytes). y ++ pieces sh ns e (i + 1)) (sym h)

  pub pieces_none : e ≤ i → pieces sh ns e i ≡ []
  pieces_none l = total_done [] (λ (x y : Bytes). x ++ y) (λ (j : ℕ). text_at sh (place_at ns j)) i e l

-- a state that goes through a text
pub record Folds {S : Type 0} (go : S → Bytes → S) : Type 0 where
  pub none : (x : S) → go x [] ≡ x
  pub joins : (x : S) (s t : Bytes) → go x (s ++ t) ≡ go (go x s) t

-- a loop that has come to node i in state x: the texts from there on lead where all of them lead from state a
pub record Carried {S : Type 0} (go : S → Bytes → S) (sh ns : Bytes) (from e : ℕ) (a : S) (i : ℕ) (x : S) : Type 0 where
  pub later : from ≤ i
  pub leads : go a (pieces sh ns e from) ≡ go x (pieces sh ns e i)

module _ {S : Type 0} {go : S → Bytes → S} {sh ns : Bytes} {from e i : ℕ} {a x : S} (c : Carried go sh ns from e a i x) where
  pub carried_node : Siblings sh ns from e → i < e → NodeAt sh ns i
  carried_node s l = node_in sh ns i from e s c.later l

  module _ (w : Folds go) where
    pub carried_on : {s : Bytes} {y : S} → i < e → s ≡ text_at sh (place_at ns i) → y ≡ go x s → Carried go sh ns from e a (i + 1) y
    carried_on {s} {y} l h r =
        record {
          later = omega (arith, c.later);
          leads = c.leads ∙ (ap (go x) (pieces_on sh ns e i l h) ∙ (w.joins x s (pieces sh ns e (i + 1)) ∙ sym (ap (λ (z : S). go z (pieces sh ns e (i + 1))) r)));
        }

    pub carried_end : e ≤ i → (parent : ℕ) (f : Forest) → Rep sh ns parent from e f → go a (text_of f) ≡ x
    carried_end l parent f h = ap (go a) (text_pieces sh ns parent from e f h) ∙ (c.leads ∙ (ap (go x) (pieces_none sh ns e i l) ∙ w.none x))

-- ---- `write_text`

abbrev pub both : Step → Step → Step
both f g t = and_then (f t) g

abbrev pub steps : FormatOpts → Bytes → Bytes → ℕ → ℕ → Step
steps opts sh ns e i = total keep both (λ (j : ℕ). text_step opts sh (place_at ns j)) (e - i) i

write_node : (opts : FormatOpts) (sh ns : Bytes) (parent i e : ℕ) (f : Forest) → Rep sh ns parent i e f → i < e
    → write_text opts f ≡ both (text_step opts sh (place_at ns i)) (both (write_text opts (kids_of f)) (write_text opts (rest_of f)))
unfolding Rep write_text text_step kids_of rest_of
write_node opts sh ns parent i e nothing h l = absurd (omega arith)
write_node opts sh ns parent i e (text s r) h l = fun_ext (λ t.
    rw (eq-eqb (get_or sh (place_at ns i) 0) 4 (its_tag h.1), ← its_body h.1) (sym (ap (and_then (push_normalized_text s opts t)) (fun_ext (λ u. keep_then u (write_text opts r))))))
write_node opts sh ns parent i e (comment s r) h l = fun_ext (λ t.
    rw (ne_eqb (get_or sh (place_at ns i) 0) 4 (λ q. omega (arith, its_tag h.1))) (sym (keep_then t _ ∙ keep_then t _)))
write_node opts sh ns parent i e (element name attrs k r) h l = fun_ext (λ t.
    rw (ne_eqb (get_or sh (place_at ns i) 0) 4 (λ q. omega (arith, its_tag h.1))) (sym (keep_then t _)))

pub write_numbers : (opts : FormatOpts) (sh ns : Bytes) (parent i e : ℕ) (f : Forest) → Rep sh ns parent i e f → write_text opts f ≡ steps opts sh ns e i
unfolding write_text
write_numbers opts sh ns =
    total_rep keep both (λ (x : Step). fun_ext (λ t. keep_then t x)) (λ (x y z : Step). fun_ext (λ t. then_assoc (x t) y z)) (λ (j : ℕ). text_step opts sh (place_at ns j)) sh ns
    (write_text opts) refl (write_node opts sh ns)

-- a node alone: its field stands at p
module _ (opts : FormatOpts) (sh : Bytes) (p : ℕ) (t : Bytes) where
  pub text_step_none : (get_or sh p 0 ≡ 4 → ⊥) → text_step opts sh p t ≡ keep t
  unfolding text_step
  text_step_none n = rw (ne_eqb (get_or sh p 0) 4 n)

  pub text_step_some : {x : Bytes} → get_or sh p 0 ≡ 4 → text_at sh p ≡ x → text_step opts sh p t ≡ push_normalized_text x opts t
  unfolding text_step
  text_step_some n h = rw (eq-eqb (get_or sh p 0) 4 n, sym (first_text_lem sh p n) ∙ h)

module _ (opts : FormatOpts) (sh ns : Bytes) (e i : ℕ) (t : Bytes) where
  pub steps_on : i < e → steps opts sh ns e i t ≡ and_then (text_step opts sh (place_at ns i) t) (steps opts sh ns e (i + 1))
  steps_on l = ap (λ (f : Step). f t) (total_on keep both (λ (j : ℕ). text_step opts sh (place_at ns j)) i e l)

  pub steps_none : e ≤ i → steps opts sh ns e i t ≡ keep t
  steps_none l = ap (λ (f : Step). f t) (total_done keep both (λ (j : ℕ). text_step opts sh (place_at ns j)) i e l)
