-- The rows of a table that have cells, from row to row.
use Prim.Native.Nat.{ℕ, suc, ◌+◌, ◌≤◌, ◌<◌}
use native.Mathlib.Omega.{arith}
use mathlib.Core.Path.{◌≡◌, refl, ap, sym, subst, ◌∙◌}
use mathlib.Core.Bool.{Bool, true, false, cond, not, true≢false, false≢true}
use mathlib.Core.List.{List, [], ◌∷◌, ◌++◌, append_assoc}
use lib.ListN.{length, length-append}
use lib.Dec.{eqb}
use borrow.Author.Tests.{eq-eqb, ne_eqb, eqb-true, eqb-false}
use Rattle.spec.specs.Bytes.{Bytes, null}
use Rattle.spec.specs.Tree.{Forest, nothing, text, comment, element}
use Rattle.spec.specs.Names.{tag_of}
use Rattle.spec.specs.Md.MDSerializer.{Ancestors}
use Rattle.spec.specs.Md.Elements.List.{name_of}
use Rattle.spec.specs.Md.Elements.Table.{Cell, cells_of, from_cells, concat, is_table_cell}
use Rattle.tree.specs.Memory.{place_at, end_at, length_at}
use Rattle.tree.specs.Nodes.{name_at}
use Rattle.tree.specs.Represents.{Rep}
use Rattle.tree.proofs.Firsts.{rep_le}
use Rattle.tree.proofs.Kin.{first_name}
use Rattle.tables.specs.Rows.{RowAt, NoRow, Rows, RowsAt, SomeRow, SomeRows, MaybeRow}
use Rattle.tables.specs.Spans.{length_if, cell_lengths, row_lengths, row_if, table_lengths, filled, Kids}
use Rattle.tables.proofs.TableRows.{no_row_node, row_name, rows_here, rows_le, rows_node, rows_on}
use Rattle.tables.proofs.RowTests.{some_row, filled_on}
use Rattle.tables.proofs.Gathering.{gather_on, gather_done, gather_skip, cells_step}

-- ---- lists of lists

module _ {A : Type 0} where
  pub concat_both : (xs ys : List (List A)) → concat (xs ++ ys) ≡ concat xs ++ concat ys
  unfolding concat
  concat_both [] ys = refl
  concat_both (x ∷ xs) ys = ap (λ (z : List A). x ++ z) (concat_both xs ys) ∙ sym (append_assoc x (concat xs) (concat ys))

  pub concat_filled : (xs : List (List A)) → concat (filled xs) ≡ concat xs
  unfolding filled null concat
  concat_filled [] = refl
  concat_filled ([] ∷ xs) = concat_filled xs
  concat_filled ((a ∷ x) ∷ xs) = ap (λ (z : List A). a ∷ (x ++ z)) (concat_filled xs)

  pub filled_first : (x : List A) (xs : List (List A)) → 0 < length x → filled (x ∷ xs) ≡ x ∷ filled xs
  unfolding filled null
  filled_first [] xs l = absurd (omega arith)
  filled_first (a ∷ x) xs l = refl

  filled_none : (x : List A) (xs : List (List A)) → length x ≡ 0 → filled (x ∷ xs) ≡ filled xs
  unfolding filled null
  filled_none [] xs l = refl
  filled_none (a ∷ x) xs l = absurd (omega arith)

not_null : {A : Type 0} (x : List A) → not (null x) ≡ true → 0 < length x
unfolding null
not_null [] q = absurd (false≢true q)
not_null (a ∷ x) q = omega arith

is_null : {A : Type 0} (x : List A) → not (null x) ≡ false → length x ≡ 0
unfolding null
is_null [] q = refl
is_null (a ∷ x) q = absurd (true≢false q)

pub concat_cells : (rows : List (List Cell)) → concat (from_cells rows) ≡ concat rows
unfolding from_cells concat
concat_cells [] = refl
concat_cells ([] ∷ rows) = concat_cells rows
concat_cells ((c ∷ row) ∷ rows) = refl

pub cells_first : (rows : List (List Cell)) {row : List Cell} {more : List (List Cell)} → from_cells rows ≡ row ∷ more → 0 < length row
unfolding from_cells
cells_first [] {row} {more} e = let z : ◌≡◌ {A = ℕ} 0 1 = cc in absurd (omega arith)
cells_first ([] ∷ rows) e = cells_first rows e
cells_first ((c ∷ r) ∷ rows) {row} {more} e = let q : c ∷ r ≡ row = cc in subst (λ (x : List Cell). 0 < length x) q (omega arith)

-- ---- how many cells there are

module _ (sh ns : Bytes) where
  named_step : (r c e : ℕ) (f : Forest) → Rep sh ns r c e f → r < c → c < e
      → cell_lengths sh ns r c e ≡ cond (is_table_cell (name_of f)) (length_at ns c ∷ []) [] ++ cell_lengths sh ns r (end_at ns c) e
  named_step r c e f h l m =
      cells_step sh ns r c e f h l m ∙ ap (λ (n : ℕ). cond (is_table_cell n) (length_at ns c ∷ []) [] ++ cell_lengths sh ns r (end_at ns c) e) (first_name sh ns r c e f h m)

  kids_length : (anc : Ancestors) (r c e : ℕ) (f : Forest) → Rep sh ns r c e f → r < c → length (cell_lengths sh ns r c e) ≡ length (cells_of anc f)
  unfolding Rep cells_of name_of is_table_cell
  kids_length anc r c e nothing h l = ap length (gather_done (length_if sh ns r) c e (omega arith))
  kids_length anc r c e (text s f) h l =
      ap length (named_step r c e (text s f) h l (omega (arith, rep_le sh ns r (c + 1) e f h.4)))
      ∙ (ap (λ (d : ℕ). length (cell_lengths sh ns r d e)) h.2 ∙ kids_length anc r (c + 1) e f h.4 (omega arith))
  kids_length anc r c e (comment s f) h l =
      ap length (named_step r c e (comment s f) h l (omega (arith, rep_le sh ns r (c + 1) e f h.4)))
      ∙ (ap (λ (d : ℕ). length (cell_lengths sh ns r d e)) h.2 ∙ kids_length anc r (c + 1) e f h.4 (omega arith))
  kids_length anc r c e (element name attrs k f) h l =
      let a : c + 1 ≤ end_at ns c = rep_le sh ns c (c + 1) (end_at ns c) k h.4 in
      let m : c < e = omega (arith, rep_le sh ns r (end_at ns c) e f h.5) in
      ap length (named_step r c e (element name attrs k f) h l m)
      ∙ go (is_table_cell (tag_of name)) (length_at ns c) (cell_lengths sh ns r (end_at ns c) e) _ (cells_of anc f) (kids_length anc r (end_at ns c) e f h.5 (omega arith))
    where
      go : (b : Bool) (n : ℕ) (l : List ℕ) (y : Cell) (x : List Cell) → length l ≡ length x → length (cond b (n ∷ []) [] ++ l) ≡ length (cond b (y ∷ x) x)
      go true n l y x q = omega arith
      go false n l y x q = q

  pub row_length : {r : ℕ} {row : List Cell} → RowAt sh ns r row → length (row_lengths sh ns r) ≡ length row
  row_length {r} x = kids_length (x.attrs ∷ x.anc) r (r + 1) (end_at ns r) x.kids x.is_element.kids_are (omega arith) ∙ sym (ap length x.cells_are)

  lengths_skip : (i r e : ℕ) → NoRow sh ns i r → r ≤ e → table_lengths sh ns i e ≡ table_lengths sh ns r e
  unfolding row_if
  lengths_skip i r e p l = gather_skip (row_if sh ns) i r e p.ordered l (λ j a b. rw (ne_eqb (name_at sh (place_at ns j)) 17 (p.others j a b)))

  pub lengths_row : (r e : ℕ) {row : List Cell} → RowAt sh ns r row → r < e → table_lengths sh ns r e ≡ row_lengths sh ns r ∷ table_lengths sh ns (r + 1) e
  unfolding row_if
  lengths_row r e x l = gather_on (row_if sh ns) r e l ∙ rw (eq-eqb (name_at sh (place_at ns r)) 17 (row_name x))

  pub rows_count : (i e : ℕ) (rows : List (List Cell)) → Rows sh ns i e rows → length (concat (table_lengths sh ns i e)) ≡ length (concat rows)
  unfolding Rows concat
  rows_count i e [] p = ap (λ (z : List (List ℕ)). length (concat z)) (lengths_skip i e e p (omega arith) ∙ gather_done (row_if sh ns) e e (omega arith))
  rows_count i e (row ∷ rows) p =
      let l : p.0 < e = omega (arith, rows_le sh ns (p.0 + 1) e rows p.3) in
      ap (λ (z : List (List ℕ)). length (concat z)) (lengths_skip i p.0 e p.1 (omega arith) ∙ lengths_row p.0 e p.2 l)
      ∙ omega
      (arith, length-append (row_lengths sh ns p.0) (concat (table_lengths sh ns (p.0 + 1) e)), length-append row (concat rows), row_length p.2, rows_count (p.0 + 1) e rows p.3)

  pub rows_number : (i e : ℕ) (rows : List (List Cell)) → Rows sh ns i e rows → length (table_lengths sh ns i e) ≡ length rows
  unfolding Rows
  rows_number i e [] p = ap length (lengths_skip i e e p (omega arith) ∙ gather_done (row_if sh ns) e e (omega arith))
  rows_number i e (row ∷ rows) p =
      let l : p.0 < e = omega (arith, rows_le sh ns (p.0 + 1) e rows p.3) in
      ap length (lengths_skip i p.0 e p.1 (omega arith) ∙ lengths_row p.0 e p.2 l) ∙ ap suc (rows_number (p.0 + 1) e rows p.3)

-- ---- the loops over the rows that have cells

-- node r is such a row
pub record Line (sh ns : Bytes) (r e : ℕ) : Type 0 where
  pub row : List Cell
  pub at : RowAt sh ns r row
  pub behind : SomeRows sh ns (r + 1) e
  pub lengths_are : filled (table_lengths sh ns r e) ≡ row_lengths sh ns r ∷ filled (table_lengths sh ns (r + 1) e)

-- of these rows none that has cells is node r
pub record Skip (sh ns : Bytes) (r e : ℕ) (rows : List (List Cell)) : Type 0 where
  pub more : List (List Cell)
  pub behind : Rows sh ns (r + 1) e more
  pub cells_are : from_cells rows ≡ from_cells more
  pub lengths_are : filled (table_lengths sh ns r e) ≡ filled (table_lengths sh ns (r + 1) e)

module _ (sh ns : Bytes) (r e : ℕ) (p : SomeRows sh ns r e) (l : r < e) where
  pub maybe_row : MaybeRow sh ns r
  maybe_row = (rows_node sh ns r e p.0 p.1 l, λ n. some_row p.0 (rows_here sh ns r e p.0 p.1 l n) l)

  -- t says whether it is one
  module _ {t : Bool} (some : t ≡ true → SomeRow sh ns r) (n : (row : List Cell) → RowAt sh ns r row → t ≡ not (null row)) where
    pub line_row : t ≡ true → Line sh ns r e
    unfolding RowsAt
    line_row q = go p.0 (rows_here sh ns r e p.0 p.1 l (row_name (some q).1))
      where
        go : (x : List (List Cell)) → RowsAt sh ns r e x → Line sh ns r e
        go [] h = absurd (omega arith)
        go (row ∷ more) h =
            record {
              row = row;
              at = h.0;
              behind = (more, h.1);
              lengths_are =
                  ap filled (lengths_row sh ns r e h.0 l)
                  ∙ filled_first (row_lengths sh ns r) (table_lengths sh ns (r + 1) e) (omega (arith, row_length sh ns h.0, not_null row (sym (n row h.0) ∙ q)));
            }

    pub line_skip : t ≡ false → Skip sh ns r e p.0
    line_skip q = named (eqb (name_at sh (place_at ns r)) 17) refl
      where
        named : (b : Bool) → eqb (name_at sh (place_at ns r)) 17 ≡ b → Skip sh ns r e p.0
        named true z =
            let h = rows_here sh ns r e p.0 p.1 l (eqb-true (name_at sh (place_at ns r)) 17 z) in
            let m = filled_on n p.0 h l q in
            let x = some_row p.0 h l in
            record {
              more = m.0;
              behind = m.1;
              cells_are = m.2;
              lengths_are =
                  ap filled (lengths_row sh ns r e x.1 l)
                  ∙ filled_none (row_lengths sh ns r) (table_lengths sh ns (r + 1) e) (row_length sh ns x.1 ∙ is_null x.0 (sym (n x.0 x.1) ∙ q));
            }
        named false z =
            let o : name_at sh (place_at ns r) ≡ 17 → ⊥ = eqb-false (name_at sh (place_at ns r)) 17 z in
            record {
              more = p.0;
              behind = rows_on sh ns r e p.0 p.1 l o;
              cells_are = refl;
              lengths_are = ap filled (lengths_skip sh ns r (r + 1) e (no_row_node sh ns r (rows_node sh ns r e p.0 p.1 l) o) (omega arith));
            }

module _ (sh ns : Bytes) where
  pub line_none : (r e : ℕ) → e ≤ r → filled (table_lengths sh ns r e) ≡ []
  unfolding filled
  line_none r e l = ap filled (gather_done (row_if sh ns) r e l)

-- the row ends at d
pub line_turn : {sh ns : Bytes} {r e d : ℕ} → Line sh ns r e → d ≡ end_at ns r
    → filled (table_lengths sh ns r e) ≡ cell_lengths sh ns r (r + 1) d ∷ filled (table_lengths sh ns (r + 1) e)
line_turn {sh} {ns} {r} {e} {d} x q =
    x.lengths_are ∙ ap (λ (j : ℕ). cell_lengths sh ns r (r + 1) j ∷ filled (table_lengths sh ns (r + 1) e)) (sym q)

pub line_kids : {sh ns : Bytes} {r e d : ℕ} → Line sh ns r e → d ≡ end_at ns r → Kids sh ns r d
line_kids {sh} {ns} {r} x q = (x.at.kids, subst (λ (j : ℕ). Rep sh ns r (r + 1) j x.at.kids) (sym q) x.at.is_element.kids_are)
