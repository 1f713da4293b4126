-- What the numbers of a range give, and the lengths of a row's cells from sibling to sibling.
use Prim.Native.Nat.{ℕ, zero, suc, ◌+◌, ◌-◌, ◌≤◌, ◌<◌, max}
use native.Mathlib.Omega.{arith}
use native.Mathlib.Numerals.{add-one}
use mathlib.Core.Path.{◌≡◌, refl, ap, sym, subst, ◌∙◌}
use mathlib.Core.Bool.{Bool, true, false, cond, ◌&&◌}
use mathlib.Core.List.{List, [], ◌∷◌, ◌++◌, append_assoc}
use lib.ListN.{length, length-append}
use lib.Dec.{eqb}
use borrow.Author.Tests.{eq-eqb, ne_eqb}
use Rattle.spec.specs.Bytes.{Bytes}
use Rattle.spec.specs.Tree.{Forest}
use Rattle.spec.specs.Md.MDSerializer.{Ancestors}
use Rattle.spec.specs.Md.Elements.Table.{is_table_cell, cells_of}
use Rattle.tree.specs.Memory.{place_at, end_at, parent_at, length_at}
use Rattle.tree.specs.Nodes.{name_at}
use Rattle.tree.specs.Represents.{Rep, rest_of}
use Rattle.tree.proofs.Firsts.{First, first, rep_le}
use Rattle.tree.proofs.Kin.{first_name}
use Rattle.nodes.proofs.Numbers.{node_first}
use Rattle.nodes.specs.Stands.{Siblings, NodeAt}
use Rattle.tables.specs.Spans.{gather, length_if, cell_lengths, sum, zeros, CellFrom}
use Rattle.tables.proofs.TableRows.{parents_in}
use Rattle.tables.proofs.TableCells.{other_of}

-- ---- ranges

module _ {A : Type 0} (at : ℕ → List A) where
  pub gather_on : (i e : ℕ) → i < e → gather at (e - i) i ≡ at i ++ gather at (e - (i + 1)) (i + 1)
  unfolding gather
  gather_on i e h =
      let a : e - i ≡ suc (e - (i + 1)) = omega arith in
      rw (a, add-one i)

  pub gather_done : (i e : ℕ) → e ≤ i → gather at (e - i) i ≡ []
  unfolding gather
  gather_done i e h = let z : e - i ≡ 0 = omega arith in rw z

  gather_none : (n i : ℕ) → ((j : ℕ) → i ≤ j → j < i + n → at j ≡ []) → gather at n i ≡ []
  unfolding gather
  gather_none zero i h = refl
  gather_none (suc n) i h = rw (h i (omega arith) (omega arith)) (gather_none n (suc i) (λ j l m. h j (omega arith) (omega arith)))

  gather_then : (m n i : ℕ) → gather at (m + n) i ≡ gather at m i ++ gather at n (i + m)
  unfolding gather
  gather_then zero n i =
      let a : 0 + n ≡ n = omega arith in
      let b : i + 0 ≡ i = omega arith in
      rw (a, b)
  gather_then (suc m) n i =
      let a : suc m + n ≡ suc (m + n) = omega arith in
      let b : i + suc m ≡ suc i + m = omega arith in
      rw (a, b) (ap (λ (x : List A). at i ++ x) (gather_then m n (suc i)) ∙ sym (append_assoc (at i) _ _))

  pub gather_split : (i d e : ℕ) → i ≤ d → d ≤ e → gather at (e - i) i ≡ gather at (d - i) i ++ gather at (e - d) d
  gather_split i d e l m =
      let a : e - i ≡ d - i + (e - d) = omega arith in
      let b : i + (d - i) ≡ d = omega arith in
      ap (λ (k : ℕ). gather at k i) a ∙ gather_then (d - i) (e - d) i ∙ ap (λ (k : ℕ). gather at (d - i) i ++ gather at (e - d) k) b

  -- the first numbers give nothing
  pub gather_skip : (i d e : ℕ) → i ≤ d → d ≤ e → ((j : ℕ) → i ≤ j → j < d → at j ≡ []) → gather at (e - i) i ≡ gather at (e - d) d
  gather_skip i d e l m h =
      gather_split i d e l m ∙ ap (λ (x : List A). x ++ gather at (e - d) d) (gather_none (d - i) i (λ j a b. h j a (omega arith)))

  pub gather_few : ((j : ℕ) → length (at j) ≤ 1) → (n i : ℕ) → length (gather at n i) ≤ n
  unfolding gather
  gather_few h zero i = omega arith
  gather_few h (suc n) i = omega (arith, length-append (at i) (gather at n (suc i)), h i, gather_few h n (suc i))

-- ---- the cells of a row

few_length : (sh ns : Bytes) (r j : ℕ) → length (length_if sh ns r j) ≤ 1
unfolding length_if
few_length sh ns r j = go (eqb (parent_at ns j) r && is_table_cell (name_at sh (place_at ns j)))
  where
    go : (b : Bool) → length (cond b (length_at ns j ∷ []) []) ≤ 1
    go true = omega arith
    go false = omega arith

pub few_cells : (sh ns : Bytes) (r i e : ℕ) → length (cell_lengths sh ns r i e) ≤ e - i
few_cells sh ns r i e = gather_few (length_if sh ns r) (few_length sh ns r) (e - i) i

module _ (sh ns : Bytes) (r c e : ℕ) (f : Forest) (h : Rep sh ns r c e f) (up : r < c) (l : c < e) where
  its : First sh ns r c e f
  its = first sh ns r c e f h l

  -- nodes below c have other parents
  below_none : (j : ℕ) → c + 1 ≤ j → j < end_at ns c → length_if sh ns r j ≡ []
  unfolding length_if
  below_none j a b = rw (ne_eqb (parent_at ns j) r (λ q. omega (arith, parents_in sh ns c j (end_at ns c) _ its.in_it (omega arith) b)))

  pub cells_step : cell_lengths sh ns r c e ≡ cond (is_table_cell (name_at sh (place_at ns c))) (length_at ns c ∷ []) [] ++ cell_lengths sh ns r (end_at ns c) e
  unfolding length_if
  cells_step =
      gather_on (length_if sh ns r) c e l
      ∙ rw (eq-eqb (parent_at ns c) r its.parent_is)
      (ap (λ (x : List ℕ). cond (is_table_cell (name_at sh (place_at ns c))) (length_at ns c ∷ []) [] ++ x)
      (gather_skip (length_if sh ns r) (c + 1) (end_at ns c) e (omega (arith, its.later)) its.within below_none))

-- the loop that looks for a cell
pub record Looking (sh ns : Bytes) (from to c : ℕ) : Type 0 where
  pub here : Siblings sh ns c to
  pub goes : (parent : ℕ) (f : Forest) → parent < from → Rep sh ns parent from to f
      → (g : Forest) × Rep sh ns parent c to g × (parent < c) × (cell_lengths sh ns parent from to ≡ cell_lengths sh ns parent c to) × ((anc : Ancestors) → cells_of anc f ≡ cells_of anc g)

pub looking_at : {sh ns : Bytes} {from to c d : ℕ} → Looking sh ns from to c → d ≡ c → Looking sh ns from to d
looking_at {sh} {ns} {from} {to} p q = subst (λ (j : ℕ). Looking sh ns from to j) (sym q) p

module _ {sh ns : Bytes} {from to c : ℕ} (p : Looking sh ns from to c) where
  -- where none is left
  pub looking_ended : to ≤ c → to ≡ c
  looking_ended l = omega (arith, l, rep_le sh ns p.here.0 c to p.here.1 p.here.2)

  pub looking_first : c < to → First sh ns p.here.0 c to p.here.1
  looking_first l = first sh ns p.here.0 c to p.here.1 p.here.2 l

  pub looking_node : c < to → NodeAt sh ns c
  looking_node l = node_first (looking_first l)

  pub looking_on : c < to → is_table_cell (name_at sh (place_at ns c)) ≡ false → Looking sh ns from to (end_at ns c)
  looking_on l q =
      record {
        here = (p.here.0, rest_of p.here.1, (looking_first l).after);
        goes = λ parent f up h.
            let g = p.goes parent f up h in
            let t : First sh ns parent c to g.0 = first sh ns parent c to g.0 g.1 l in (
              rest_of g.0,
              t.after,
              omega (arith, t.later, g.2),
              g.3 ∙ cells_step sh ns parent c to g.0 g.1 g.2 l ∙ rw q,
              λ anc. g.4 anc ∙ other_of anc g.0 (ap is_table_cell (sym (first_name sh ns parent c to g.0 g.1 l)) ∙ q),
            );
      }

  pub looking_done : (c < to → is_table_cell (name_at sh (place_at ns c)) ≡ true) → (parent : ℕ) (f : Forest) → parent < from → Rep sh ns parent from to f
      → (x : CellFrom sh ns parent c to) × (cell_lengths sh ns parent from to ≡ cell_lengths sh ns parent c to) × ((anc : Ancestors) → cells_of anc f ≡ cells_of anc x.rest)
  looking_done q parent f up h =
      let g = p.goes parent f up h in
      (record { rest = g.0; later = g.2; rep = g.1; is_cell_lem = q }, g.3, g.4)

-- the node that stands first where a cell is left
module _ {sh ns : Bytes} {r c to : ℕ} (p : CellFrom sh ns r c to) (l : c < to) where
  pub from_first : First sh ns r c to p.rest
  from_first = first sh ns r c to p.rest p.rep l

-- ---- the loops over a row's children

-- of the children of row r those from number c up to e are left
pub record ChildFrom (sh ns : Bytes) (r c e : ℕ) : Type 0 where
  pub rest : Forest
  pub later : r < c
  pub rep : Rep sh ns r c e rest

pub child_at : {sh ns : Bytes} {r c d e : ℕ} → ChildFrom sh ns r c e → d ≡ c → ChildFrom sh ns r d e
child_at {sh} {ns} {r} {c} {d} {e} p q = subst (λ (j : ℕ). ChildFrom sh ns r j e) (sym q) p

module _ {sh ns : Bytes} {r c to : ℕ} (p : ChildFrom sh ns r c to) where
  pub child_none : to ≤ c → cell_lengths sh ns r c to ≡ []
  child_none l = gather_done (length_if sh ns r) c to l

  -- node i is the next child, and its end is d
  module _ {i : ℕ} (s : i ≡ c) (l : i < to) where
    here : ChildFrom sh ns r i to
    here = child_at p s

    its_first : First sh ns r i to here.rest
    its_first = first sh ns r i to here.rest here.rep l

    pub child_node : NodeAt sh ns i
    child_node = node_first its_first

    module _ {d : ℕ} (e : d ≡ end_at ns i) where
      pub child_on : ChildFrom sh ns r d to
      child_on = child_at (record { rest = rest_of here.rest; later = omega (arith, here.later, its_first.later); rep = its_first.after }) e

      its_lengths : cell_lengths sh ns r c to ≡ cond (is_table_cell (name_at sh (place_at ns i))) (length_at ns i ∷ []) [] ++ cell_lengths sh ns r d to
      its_lengths =
          ap (λ (j : ℕ). cell_lengths sh ns r j to) (sym s) ∙ cells_step sh ns r i to here.rest here.rep here.later l
          ∙ ap (λ (j : ℕ). cond (is_table_cell (name_at sh (place_at ns i))) (length_at ns i ∷ []) [] ++ cell_lengths sh ns r j to) (sym e)

      -- it is a cell, and n is its length
      pub child_cell : {n : ℕ} → is_table_cell (name_at sh (place_at ns i)) ≡ true → n ≡ length_at ns i → cell_lengths sh ns r c to ≡ n ∷ cell_lengths sh ns r d to
      child_cell q m = its_lengths ∙ rw q (ap (λ (k : ℕ). k ∷ cell_lengths sh ns r d to) (sym m))

      pub child_other : is_table_cell (name_at sh (place_at ns i)) ≡ false → cell_lengths sh ns r c to ≡ cell_lengths sh ns r d to
      child_other q = its_lengths ∙ rw q refl

-- ---- the first of some lengths

module _ {l m : List ℕ} {n : ℕ} (e : l ≡ n ∷ m) where
  pub sum_first : sum l ≡ n + sum m
  unfolding sum
  sum_first = ap sum e

  pub zeros_first : zeros l ≡ max n 1 - n + zeros m
  unfolding zeros
  zeros_first = ap zeros e

  pub length_first : length l ≡ 1 + length m
  length_first = ap length e ∙ omega arith

pub sum_none : {l : List ℕ} → l ≡ [] → sum l ≡ 0
unfolding sum
sum_none e = ap sum e

pub zeros_none : {l : List ℕ} → l ≡ [] → zeros l ≡ 0
unfolding zeros
zeros_none e = ap zeros e

pub zeros_few : (l : List ℕ) → zeros l ≤ length l
unfolding zeros
zeros_few [] = omega arith
zeros_few (n ∷ l) = omega (arith, zeros_few l)
