-- The cells of a row, from sibling to sibling.
use Prim.Native.Nat.{ℕ, ◌+◌, ◌≤◌, ◌<◌}
use native.Mathlib.Omega.{arith}
use mathlib.Core.Path.{◌≡◌, refl, ap, ◌∙◌, sym, subst}
use mathlib.Core.Bool.{Bool, true, false, cond, ◌&&◌, false≢true}
use mathlib.Core.List.{List, [], ◌∷◌}
use lib.ListN.{length}
use lib.Dec.{eqb}
use borrow.Author.Tests.{ne_eqb}
use Rattle.spec.specs.Bytes.{Bytes}
use Rattle.spec.specs.Names.{tag_of}
use Rattle.spec.specs.Tree.{Attr, Forest, nothing, text, comment, element}
use Rattle.spec.specs.Md.MDSerializer.{Ancestors}
use Rattle.spec.specs.Md.Elements.List.{name_of}
use Rattle.spec.specs.Md.Elements.Table.{Cell, is_table_cell, cells_of, all_th}
use Rattle.tree.specs.Memory.{place_at, end_at, parent_at}
use Rattle.tree.specs.Represents.{Rep, Around, rest_of}
use Rattle.tree.specs.Nodes.{name_at}
use Rattle.tree.proofs.Firsts.{First, first, ended}
use Rattle.tree.proofs.Kin.{first_name}
use Rattle.tree.proofs.Ancestry.{around_in}
use Rattle.nodes.specs.Stands.{NodeAt, ElementAt}
use Rattle.tables.specs.Rows.{RowAt}
use Rattle.nodes.proofs.Siblings.{its_node}

-- these are the cells among the children of row r from number c on
pub record CellsAt (sh ns : Bytes) (r c : ℕ) (cells : List Cell) : Type 0 where
  pub anc : Ancestors
  pub rest : Forest
  pub later : r < c
  pub around : Around sh ns r anc
  pub rep : Rep sh ns r c (end_at ns r) rest
  pub cells_are : cells ≡ cells_of anc rest

-- node c is the first of these cells
pub record CellAt (sh ns : Bytes) (r c : ℕ) (cells : List Cell) : Type 0 where
  pub cell : Cell
  pub more : List Cell
  pub cells_are : cells ≡ cell ∷ more
  pub name : Bytes
  pub attrs : List Attr
  pub kids : Forest
  pub is_element : ElementAt sh ns c name attrs kids
  pub parent_is : parent_at ns c ≡ r
  pub around : Around sh ns (parent_at ns c) cell.ancestors
  pub node_is : cell.node ≡ element name attrs kids nothing
  pub th_is : cell.is_th ≡ eqb (name_at sh (place_at ns c)) 18
  pub behind : CellsAt sh ns r (end_at ns c) more

module _ {sh ns : Bytes} {r : ℕ} {row : List Cell} (x : RowAt sh ns r row) where
  pub cells_all : CellsAt sh ns r (r + 1) row
  cells_all =
      let e : ElementAt sh ns r x.name x.attrs x.kids = x.is_element in
      record {
        anc = x.attrs ∷ x.anc;
        rest = x.kids;
        later = omega arith;
        around = around_in sh ns r x.attrs x.anc e.positive e.inside e.field.head e.attrs_are x.around;
        rep = e.kids_are;
        cells_are = x.cells_are;
      }

module _ (sh ns : Bytes) (r c : ℕ) (anc : Ancestors) (later : r < c) (a : Around sh ns r anc) where
  cell_of : (f : Forest) → Rep sh ns r c (end_at ns r) f → c < end_at ns r → is_table_cell (name_of f) ≡ true → CellAt sh ns r c (cells_of anc f)
  unfolding Rep name_of cells_of
  cell_of nothing h l q = absurd (omega arith)
  cell_of (text s f) h l q = absurd (unfold is_table_cell in false≢true q)
  cell_of (comment s f) h l q = absurd (unfold is_table_cell in false≢true q)
  cell_of (element name attrs k f) h l q =
      record {
        cell = record { ancestors = anc; is_th = eqb (tag_of name) 18; node = element name attrs k nothing };
        more = cells_of anc f;
        cells_are = rw q;
        name = name;
        attrs = attrs;
        kids = k;
        is_element = record { positive = omega arith; inside = h.0; field = h.1; attrs_are = h.2; kids_are = h.4 };
        parent_is = h.3;
        around = subst (λ (j : ℕ). Around sh ns j anc) (sym h.3) a;
        node_is = refl;
        th_is = ap (λ (n : ℕ). eqb n 18) (sym (first_name sh ns r c (end_at ns r) (element name attrs k f) h l));
        behind =
            record {
              anc = anc;
              rest = f;
              later = omega (arith, (first sh ns r c (end_at ns r) (element name attrs k f) h l).later);
              around = a;
              rep = h.5;
              cells_are = refl;
            };
      }

pub other_of : (anc : Ancestors) (f : Forest) → is_table_cell (name_of f) ≡ false → cells_of anc f ≡ cells_of anc (rest_of f)
unfolding name_of cells_of rest_of
other_of anc nothing q = refl
other_of anc (text s f) q = refl
other_of anc (comment s f) q = refl
other_of anc (element name attrs k f) q = rw q

pub cells_at : {sh ns : Bytes} {r c d : ℕ} {cells : List Cell} → CellsAt sh ns r c cells → d ≡ c → CellsAt sh ns r d cells
cells_at {sh} {ns} {r} {c} {d} {cells} x q = subst (λ (j : ℕ). CellsAt sh ns r j cells) (sym q) x

module _ {sh ns : Bytes} {r c : ℕ} {cells : List Cell} (x : CellsAt sh ns r c cells) where
  pub cells_none : end_at ns r ≤ c → cells ≡ []
  unfolding cells_of
  cells_none l = x.cells_are ∙ ap (cells_of x.anc) (ended sh ns r c (end_at ns r) x.rest x.rep l)

  module _ (l : c < end_at ns r) where
    pub cells_first : First sh ns r c (end_at ns r) x.rest
    cells_first = first sh ns r c (end_at ns r) x.rest x.rep l

    pub cells_node : NodeAt sh ns c
    cells_node = its_node sh ns r c (end_at ns r) x.rest x.rep l

    its_name : name_at sh (place_at ns c) ≡ name_of x.rest
    its_name = first_name sh ns r c (end_at ns r) x.rest x.rep l

    pub cells_cell : is_table_cell (name_at sh (place_at ns c)) ≡ true → CellAt sh ns r c cells
    cells_cell q =
        subst (CellAt sh ns r c) (sym x.cells_are)
        (cell_of sh ns r c x.anc x.later x.around x.rest x.rep l (ap is_table_cell (sym its_name) ∙ q))

    pub cells_other : is_table_cell (name_at sh (place_at ns c)) ≡ false → CellsAt sh ns r (end_at ns c) cells
    cells_other q =
        record {
          anc = x.anc;
          rest = rest_of x.rest;
          later = omega (arith, x.later, cells_first.later);
          around = x.around;
          rep = cells_first.after;
          cells_are = x.cells_are ∙ other_of x.anc x.rest (ap is_table_cell (sym its_name) ∙ q);
        }

-- ---- loops through the children of a row; node c ends at d

module _ {sh ns : Bytes} {r c d : ℕ} {cells : List Cell} (x : CellsAt sh ns r c cells) (l : c < end_at ns r) (e : d ≡ end_at ns c) where
  next_at : {more : List Cell} → CellsAt sh ns r (end_at ns c) more → CellsAt sh ns r d more
  next_at {more} = subst (λ (j : ℕ). CellsAt sh ns r j more) (sym e)

  -- how many cells there are
  pub count_on : {k : ℕ} → k ≡ cond (is_table_cell (name_at sh (place_at ns c))) 1 0
      → (more : List Cell) × CellsAt sh ns r d more × (k + length more ≡ length cells)
  count_on {k} q = go (is_table_cell (name_at sh (place_at ns c))) refl q
    where
      go : (t : Bool) → is_table_cell (name_at sh (place_at ns c)) ≡ t → k ≡ cond t 1 0 → (more : List Cell) × CellsAt sh ns r d more × (k + length more ≡ length cells)
      go true p q = let y : CellAt sh ns r c cells = cells_cell x l p in (y.more, next_at y.behind, omega (arith, q, ap length y.cells_are))
      go false p q = (cells, next_at (cells_other x l p), omega (arith, q))

  -- whether all are `th`
  pub th_on : (name_at sh (place_at ns c) ≡ 19 → ⊥) → (more : List Cell) × CellsAt sh ns r d more × (all_th cells ≡ all_th more)
  unfolding all_th is_table_cell
  th_on n = go (eqb (name_at sh (place_at ns c)) 18) refl
    where
      go : (t : Bool) → eqb (name_at sh (place_at ns c)) 18 ≡ t → (more : List Cell) × CellsAt sh ns r d more × (all_th cells ≡ all_th more)
      go true p =
          let y : CellAt sh ns r c cells = cells_cell x l (rw p) in
          (y.more, next_at y.behind, ap all_th y.cells_are ∙ ap (λ (t : Bool). t && all_th y.more) (y.th_is ∙ p))
      go false p = (cells, next_at (cells_other x l (rw (p, ne_eqb (name_at sh (place_at ns c)) 19 n))), refl)

pub count_one : (b : Bool) {k : ℕ} → k ≡ cond b 1 0 → k ≤ 1
count_one true q = omega arith
count_one false q = omega arith

pub th_not : {sh ns : Bytes} {r c : ℕ} {cells : List Cell} → CellsAt sh ns r c cells → c < end_at ns r → name_at sh (place_at ns c) ≡ 19 → all_th cells ≡ false
unfolding all_th is_table_cell
th_not {sh} {ns} {r} {c} {cells} x l q =
    let y : CellAt sh ns r c cells = cells_cell x l (rw q) in
    ap all_th y.cells_are ∙ ap (λ (t : Bool). t && all_th y.more) (y.th_is ∙ ap (λ (n : ℕ). eqb n 18) q)
