-- `write_table` from the cells' texts and the table that is made of them.
use Prim.Native.Nat.{ℕ, ◌+◌, ◌-◌, ◌≤◌, ◌<◌}
use native.Mathlib.Omega.{arith}
use mathlib.Core.Path.{◌≡◌, refl, ap, sym, subst, ◌∙◌}
use mathlib.Core.Logic.{⊎_elim}
use mathlib.Core.Bool.{Bool, true, false, cond}
use mathlib.Core.List.{List, [], ◌∷◌, ◌++◌}
use lib.ListN.{length, take, length-append}
use lib.Dec.{eqb}
use Rattle.spec.specs.Bytes.{Bytes}
use Rattle.spec.specs.Names.{tag_of}
use Rattle.spec.specs.Out.{Out, nested_all}
use Rattle.spec.specs.Tree.{Forest, nothing, text, comment, element, size}
use Rattle.spec.specs.Md.MDSerializer.{Ancestors, MDSerializer}
use Rattle.spec.specs.Md.Elements.Table.{Cell, is_table_cell, cells_of, rows_of, from_cells, all_th, table_header_row, data_rows, row_texts, table_texts, concat, table_of}
use Rattle.spec.specs.declared.ctx.FormatOpts.{FormatOpts}
use Rattle.tree.specs.Memory.{end_at}
use Rattle.tree.specs.Represents.{Rep}
use Rattle.tree.proofs.Firsts.{first, rep_le}
use Rattle.spec.proofs.Order.{le_or_lt}
use Rattle.tree.proofs.Ranges.{rep_size}
use Rattle.text.specs.Writes.{Written, Refused, Writes}
use Rattle.text.specs.Writes.{Wrote}
use Rattle.text.proofs.Writing.{alike}
use Rattle.tables.specs.Rows.{RowsAt}
use Rattle.tables.specs.Spans.{row_lengths, sum}
use Rattle.tables.specs.TableSteps.{behind, rows_texts, rows_lengths, table_step, TableAt}
use Rattle.nodes.proofs.Numbers.{node_in}
use Rattle.tables.proofs.TableRows.{rows_at}
use Rattle.tables.proofs.Lines.{concat_both, concat_filled, concat_cells, cells_first, row_length, rows_count}
use Rattle.tables.proofs.TableTexts.{rows_total, table_texts_lem}
use Rattle.serializer.proofs.Gathered.{behind_count, behind_nested, behind_refused}

-- ---- the texts that are counted are those of all cells

module _ (self : MDSerializer) (opts : FormatOpts) where
  data_texts : (rows : List (List Cell)) → concat (table_texts self opts rows) ≡ concat (rows_texts self opts rows)
  data_texts rows = ap concat (table_texts_lem self opts rows) ∙ concat_filled (rows_texts self opts rows)

  all_texts : (rows : List (List Cell)) → row_texts self opts (table_header_row rows) ++ concat (table_texts self opts (data_rows rows)) ≡ concat (rows_texts self opts rows)
  unfolding table_header_row data_rows row_texts rows_texts concat
  all_texts [] = data_texts []
  all_texts (row ∷ rows) = go (all_th row)
    where
      go : (b : Bool) → row_texts self opts (cond b row []) ++ concat (table_texts self opts (cond b rows (row ∷ rows))) ≡ row_texts self opts row ++ concat (rows_texts self opts rows)
      go true = ap (λ (z : List Out). row_texts self opts row ++ z) (data_texts rows)
      go false = data_texts (row ∷ rows)

  module _ (rows : List (List Cell)) (d : List ℕ) (len : ℕ) where
    abbrev heading : List Out
    heading = row_texts self opts (table_header_row rows)

    abbrev others : List (List Out)
    others = table_texts self opts (data_rows rows)

    table_nested : table_of heading others (take len d) ≡ nested_all (concat (rows_texts self opts rows)) (table_step heading others) (take len d)
    unfolding table_of table_step
    table_nested = ap (λ (z : List Out). nested_all z (table_step heading others) (take len d)) (all_texts rows)

    -- the cells' texts had no room
    pub table_full : {room : ℕ} → Refused room (behind (concat (rows_texts self opts rows)) (take len d)) → Refused room (table_of heading others (take len d))
    table_full {room} w = subst (Refused room) (sym table_nested) (behind_refused (concat (rows_texts self opts rows)) (table_step heading others) (take len d) w)

    module _ {room m : ℕ} {mid : List ℕ} (h : len ≤ length d) (w : Written room mid m (behind (concat (rows_texts self opts rows)) (take len d))) where
      pub table_done : {after : List ℕ} {r : Wrote} → Writes (length mid) after r (table_step heading others (take len mid)) → Writes room after r (table_of heading others (take len d))
      table_done x = alike table_nested (behind_nested d len (concat (rows_texts self opts rows)) h w (table_step heading others) x)

      -- the lengths that are stored are those of the bytes behind the text
      pub table_sum : {ls : List (List ℕ)} → ls ≡ rows_lengths (rows_texts self opts rows) → m - len ≡ sum (concat ls)
      table_sum {ls} e =
          omega (arith, behind_count d len (concat (rows_texts self opts rows)) h w, rows_total (rows_texts self opts rows), ap (λ (z : List (List ℕ)). sum (concat z)) e)

-- ---- the cells of the rows below a node are no more than its nodes

cells_few : (anc other : Ancestors) (f : Forest) → length (concat (rows_of anc f)) + length (cells_of other f) ≤ size f
unfolding rows_of cells_of concat size
cells_few anc other nothing = omega arith
cells_few anc other (text s f) = omega (arith, cells_few anc other f)
cells_few anc other (comment s f) = omega (arith, cells_few anc other f)
cells_few anc other (element name attrs k f) =
    let rest : List (List Cell) = rows_of (attrs ∷ anc) k ++ rows_of anc f in
    let a : length (concat rest) ≡ length (concat (rows_of (attrs ∷ anc) k)) + length (concat (rows_of anc f)) =
    ap length (concat_both (rows_of (attrs ∷ anc) k) (rows_of anc f)) ∙ length-append (concat (rows_of (attrs ∷ anc) k)) (concat (rows_of anc f)) in
    omega (
      arith,
      a,
      cells_few (attrs ∷ anc) (attrs ∷ anc) k,
      cells_few anc other f,
      row (eqb (tag_of name) 17) (cells_of (attrs ∷ anc) k) rest,
      cell (is_table_cell (tag_of name)) (record { ancestors = other; is_th = eqb (tag_of name) 18; node = element name attrs k nothing }) (cells_of other f),
    )
  where
    row : (b : Bool) (x : List Cell) (rest : List (List Cell)) → length (concat (cond b (x ∷ []) [] ++ rest)) ≤ length x + length (concat rest)
    row true x rest = omega (arith, length-append x (concat rest))
    row false x rest = omega arith

    cell : (b : Bool) (x : Cell) (l : List Cell) → length (cond b (x ∷ l) l) ≤ length l + 1
    cell true x l = omega arith
    cell false x l = omega arith

-- node `first` is the first row with cells of those in the forest
pub table_at : (sh ns : Bytes) (parent i first to : ℕ) (kids : Forest) (anc : Ancestors) → Rep sh ns parent i to kids → 0 < i → i ≤ first → first < to
    → RowsAt sh ns first to (from_cells (rows_of anc kids)) → TableAt sh ns first to
unfolding RowsAt
table_at sh ns parent i first to kids anc h p l m x =
    let rows : List (List Cell) = from_cells (rows_of anc kids) in
    record {
      rows = rows;
      at = x;
      some_row = m;
      some_cell = some rows refl x;
      few =
          omega
          (arith, rows_count sh ns first to rows (rows_at sh ns first to rows x), ap length (concat_cells (rows_of anc kids)), cells_few anc anc kids, rep_size sh ns parent i to kids h);
      inside = omega (arith, (node_in sh ns (to - 1) i to (parent, kids, h) (omega arith) (omega arith)).inside);
    }
  where
    some : (rows : List (List Cell)) → from_cells (rows_of anc kids) ≡ rows → RowsAt sh ns first to rows → 0 < length (row_lengths sh ns first)
    some [] e y = absurd (omega arith)
    some (row ∷ more) e y = omega (arith, row_length sh ns y.0, cells_first (rows_of anc kids) e)

-- the nodes of a forest end in it
pub ends_in : (sh ns : Bytes) (parent i e : ℕ) (f : Forest) → Rep sh ns parent i e f → (j : ℕ) → i ≤ j → j < e → end_at ns j ≤ e
unfolding Rep
ends_in sh ns parent i e nothing h j l m = absurd (omega arith)
ends_in sh ns parent i e (text s f) h j l m =
    ⊎_elim
    (λ (q : j ≤ i). let z : i ≡ j = omega arith in subst (λ (n : ℕ). end_at ns n ≤ e) z (omega (arith, h.2, rep_le sh ns parent (i + 1) e f h.4)))
    (λ (q : i < j). ends_in sh ns parent (i + 1) e f h.4 j (omega arith) m) (le_or_lt j i)
ends_in sh ns parent i e (comment s f) h j l m =
    ⊎_elim
    (λ (q : j ≤ i). let z : i ≡ j = omega arith in subst (λ (n : ℕ). end_at ns n ≤ e) z (omega (arith, h.2, rep_le sh ns parent (i + 1) e f h.4)))
    (λ (q : i < j). ends_in sh ns parent (i + 1) e f h.4 j (omega arith) m) (le_or_lt j i)
ends_in sh ns parent i e (element name attrs k f) h j l m =
    let b : end_at ns i ≤ e = rep_le sh ns parent (end_at ns i) e f h.5 in
    ⊎_elim (λ (q : j ≤ i). let z : i ≡ j = omega arith in subst (λ (n : ℕ). end_at ns n ≤ e) z b)
    (λ (q : i < j).
    ⊎_elim (λ (o : end_at ns i ≤ j). ends_in sh ns parent (end_at ns i) e f h.5 j o m)
    (λ (o : j < end_at ns i). omega (arith, ends_in sh ns i (i + 1) (end_at ns i) k h.4 j (omega arith) o)) (le_or_lt (end_at ns i) j))
    (le_or_lt j i)
