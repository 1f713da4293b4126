-- The table that is put together from cells' texts is the definition's.
use Prim.Native.Nat.{ℕ, zero, suc, ◌+◌, ◌-◌, ◌<◌, max}
use native.Mathlib.Omega.{arith}
use mathlib.Core.Path.{◌≡◌, refl, ap, ap₂, sym, subst, ◌∙◌}
use mathlib.Core.Bool.{Bool, true, false}
use mathlib.Core.List.{List, [], ◌∷◌, ◌++◌, map, append_assoc}
use lib.ListN.{length, take, drop, replicate, length-append, length-replicate, length-map}
use lib.Seq.{take_at, drop_at}
use Rattle.spec.specs.Bytes.{Bytes, ascii, null, join, join_rest}
use Rattle.spec.specs.Out.{Out, and_then, push, beside}
use Rattle.spec.specs.Md.MDSerializer.{MDSerializer}
use Rattle.spec.specs.Md.Elements.Table.{Cell, all_th, table_header_row, data_rows, row_texts, table_texts, texts, concat, width_of, filled_up, line, dashes, lines}
use Rattle.spec.specs.declared.ctx.FormatOpts.{FormatOpts}
use Rattle.spec.specs.Tree.{nothing}
use Rattle.tree.specs.Memory.{end_at}
use Rattle.tree.specs.Represents.{Rep}
use Rattle.tables.specs.Rows.{RowAt, RowsAt, SomeRows}
use Rattle.tables.specs.Puts.{bar, bars, bar_line, bar_lines}
use Rattle.tables.specs.Spans.{length_if, cell_lengths, row_lengths, table_lengths, filled, sum, cuts, cut_rows, unders, width, table_bytes, Kids}
use Rattle.tables.specs.TableSteps.{rows_texts, lengths_of, rows_lengths, table_step, table_sized, TableAt}
use Rattle.tables.proofs.Cutting.{sum_both, width_first, total_first}
use Rattle.tables.proofs.Lines.{concat_both, concat_filled, filled_first, lengths_row}
use Rattle.tables.proofs.Gathering.{gather_done, sum_none}

-- ---- `line`, where there are cells

joined : (xs : List Bytes) → join_rest (ascii " | ") xs ++ ascii " |\n" ≡ (32 ∷ 124 ∷ []) ++ (bars xs ++ (10 ∷ []))
unfolding join_rest bars bar
joined [] = refl
joined (x ∷ xs) =
    ap (λ (z : Bytes). 32 ∷ 124 ∷ 32 ∷ z)
    (append_assoc x (join_rest (ascii " | ") xs) (ascii " |\n") ∙ ap (λ (z : Bytes). x ++ z) (joined xs) ∙ sym (append_assoc x (32 ∷ 124 ∷ []) (bars xs ++ (10 ∷ [])))
    ∙ sym (append_assoc (x ++ (32 ∷ 124 ∷ [])) (bars xs) (10 ∷ [])))

line_is : (xs : List Bytes) → 0 < length xs → line xs ≡ bar_line xs
unfolding line bar_line join bars bar
line_is [] l = absurd (omega arith)
line_is (x ∷ xs) l =
    ap (λ (z : Bytes). 124 ∷ 32 ∷ z)
    (append_assoc x (join_rest (ascii " | ") xs) (ascii " |\n") ∙ ap (λ (z : Bytes). x ++ z) (joined xs) ∙ sym (append_assoc x (32 ∷ 124 ∷ []) (bars xs ++ (10 ∷ [])))
    ∙ sym (append_assoc (x ++ (32 ∷ 124 ∷ [])) (bars xs) (10 ∷ [])))

-- ---- texts and their lengths

pub texts_both : (os ps : List Out) → texts (os ++ ps) ≡ texts os ++ texts ps
unfolding texts
texts_both [] ps = refl
texts_both (o ∷ os) ps = ap (λ (z : List Bytes). o.text ∷ z) (texts_both os ps)

-- the bytes of the texts of two lists
pub bytes_both : (os ps : List Out) → concat (texts (os ++ ps)) ≡ concat (texts os) ++ concat (texts ps)
bytes_both os ps = ap concat (texts_both os ps) ∙ concat_both (texts os) (texts ps)

pub sum_lengths : (os : List Out) → sum (lengths_of os) ≡ length (concat (texts os))
unfolding sum lengths_of concat texts
sum_lengths [] = refl
sum_lengths (o ∷ os) = omega (arith, sum_lengths os, length-append o.text (concat (texts os)))

count_texts : (os : List Out) → length (texts os) ≡ length (lengths_of os)
unfolding texts lengths_of
count_texts [] = refl
count_texts (o ∷ os) = ap suc (count_texts os)

count_outs : (os : List Out) → length os ≡ length (lengths_of os)
unfolding lengths_of
count_outs [] = refl
count_outs (o ∷ os) = ap suc (count_outs os)

cuts_texts : (os : List Out) (y : Bytes) → cuts (lengths_of os) (concat (texts os) ++ y) ≡ texts os
unfolding cuts lengths_of concat texts
cuts_texts [] y = refl
cuts_texts (o ∷ os) y =
    let x : Bytes = o.text in
    let e : (x ++ concat (texts os)) ++ y ≡ x ++ (concat (texts os) ++ y) = append_assoc x (concat (texts os)) y in
    ap (λ (z : Bytes). take (length x) z ∷ cuts (lengths_of os) (drop (length x) z)) e
    ∙ ap₂ (λ (a b : Bytes). a ∷ cuts (lengths_of os) b) (take_at x (concat (texts os) ++ y) (length x) refl) (drop_at x (concat (texts os) ++ y) (length x) refl)
    ∙ ap (λ (z : List Bytes). x ∷ z) (cuts_texts os y)

drop_texts : (os : List Out) (y : Bytes) → drop (sum (lengths_of os)) (concat (texts os) ++ y) ≡ y
drop_texts os y = drop_at (concat (texts os)) y (sum (lengths_of os)) (sym (sum_lengths os))

-- ---- the rows that have cells

pub filled_lengths : (rs : List (List Out)) → filled (rows_lengths rs) ≡ rows_lengths (filled rs)
unfolding filled null rows_lengths lengths_of
filled_lengths [] = refl
filled_lengths ([] ∷ rs) = filled_lengths rs
filled_lengths ((o ∷ os) ∷ rs) = ap (λ (z : List (List ℕ)). (length o.text ∷ lengths_of os) ∷ z) (filled_lengths rs)

pub row_bytes : (row : List Out) (rs : List (List Out)) → concat (texts (concat (row ∷ rs))) ≡ concat (texts row) ++ concat (texts (concat rs))
unfolding concat
row_bytes row rs = bytes_both row (concat rs)

lines_are : (rs : List (List Out)) → bar_lines (cut_rows (rows_lengths (filled rs)) (concat (texts (concat (filled rs))))) ≡ lines (filled rs)
unfolding bar_lines cut_rows rows_lengths filled null lines
lines_are [] = refl
lines_are ([] ∷ rs) = lines_are rs
lines_are ((o ∷ os) ∷ rs) =
    let row : List Out = o ∷ os in
    let y : Bytes = concat (texts (concat (filled rs))) in
    ap (λ (z : Bytes). bar_line (cuts (lengths_of row) z) ++ bar_lines (cut_rows (rows_lengths (filled rs)) (drop (sum (lengths_of row)) z))) (row_bytes row (filled rs))
    ∙ ap₂ (λ (a : List Bytes) (b : Bytes). bar_line a ++ bar_lines (cut_rows (rows_lengths (filled rs)) b)) (cuts_texts row y) (drop_texts row y)
    ∙ ap₂ (λ (a b : Bytes). a ++ b) (sym (line_is (texts row) (omega (arith, count_texts row, count_outs row)))) (lines_are rs)

pub rows_total : (rs : List (List Out)) → sum (concat (rows_lengths rs)) ≡ length (concat (texts (concat rs)))
unfolding concat rows_lengths texts sum
rows_total [] = refl
rows_total (row ∷ rs) =
    omega
    (arith, sum_both (lengths_of row) (concat (rows_lengths rs)), sum_lengths row, rows_total rs, ap length (bytes_both row (concat rs)), length-append (concat (texts row)) (concat (texts (concat rs))))

width_is : (rs : List (List Out)) → width_of rs ≡ width (rows_lengths rs)
unfolding width_of width rows_lengths
width_is [] = refl
width_is (row ∷ rs) = count_outs row

-- ---- headings

blank_dashes : (k : ℕ) → map dashes (replicate k (32 ∷ [])) ≡ replicate k (45 ∷ [])
unfolding dashes
blank_dashes zero = refl
blank_dashes (suc k) = ap (λ (z : List Bytes). (45 ∷ []) ∷ z) (blank_dashes k)

dashes_are : (os : List Out) (k : ℕ) → map dashes (texts os ++ replicate k (32 ∷ [])) ≡ unders (lengths_of os) ++ replicate k (45 ∷ [])
unfolding dashes texts lengths_of unders
dashes_are [] k = blank_dashes k
dashes_are (o ∷ os) k = ap (λ (z : List Bytes). replicate (max (length o.text) 1) 45 ∷ z) (dashes_are os k)

blank_bytes : (k : ℕ) → length (concat {A = ℕ} (replicate k (32 ∷ []))) ≡ k
unfolding concat
blank_bytes zero = refl
blank_bytes (suc k) = ap suc (blank_bytes k)

-- ---- the table

module _ (h : List Out) (rs : List (List Out)) (t : Bytes) (some : 0 < length (lengths_of h) + width (rows_lengths (filled rs))) where
  abbrev k : ℕ
  k = width (rows_lengths (filled rs)) - length (lengths_of h)

  abbrev heads : List Bytes
  heads = texts h ++ replicate k (32 ∷ [])

  heads_are : filled_up (width_of (filled rs)) (texts h) ≡ heads
  unfolding filled_up
  heads_are = ap (λ (n : ℕ). texts h ++ replicate n (32 ∷ [])) (ap₂ (λ (a b : ℕ). a - b) (width_is (filled rs)) (count_texts h))

  some_heads : 0 < length heads
  some_heads = omega (arith, length-append (texts h) (replicate k (32 ∷ [])), length-replicate {A = Bytes} k (32 ∷ []), count_texts h)

  count_heads : length (concat heads) ≡ sum (lengths_of h) + k
  count_heads =
      omega
      (arith, ap length (concat_both (texts h) (replicate k (32 ∷ []))), length-append (concat (texts h)) (concat {A = ℕ} (replicate k (32 ∷ []))), blank_bytes k, sum_lengths h)

  pub table_step_lem : table_step h (filled rs) t ≡ table_sized (lengths_of h) (rows_lengths (filled rs)) (concat (texts h) ++ concat (texts (concat (filled rs)))) t
  unfolding table_step table_sized table_bytes
  table_step_lem =
      let y : Bytes = concat (texts (concat (filled rs))) in
      ap (λ (z : List Bytes). and_then (beside (length (concat z) + length y) (push ((10 ∷ []) ++ (line z ++ (line (map dashes z) ++ lines (filled rs)))) t)) (push (10 ∷ []))) heads_are
      ∙ ap₂ (λ (n : ℕ) (w : Bytes). and_then (beside n (push (10 ∷ w) t)) (push (10 ∷ [])))
      (omega (arith, count_heads, rows_total (filled rs)))
      (ap₂ (λ (a b : Bytes). a ++ b)
      (line_is heads some_heads ∙ ap (λ (z : List Bytes). bar_line (z ++ replicate k (32 ∷ []))) (sym (cuts_texts h y)))
      (ap₂ (λ (a b : Bytes). a ++ b)
      (ap line (dashes_are h k) ∙ line_is (unders (lengths_of h) ++ replicate k (45 ∷ [])) (omega (arith, some_heads, sym (ap length (dashes_are h k)), length-map heads dashes)))
      (sym (lines_are rs) ∙ ap (λ (z : Bytes). bar_lines (cut_rows (rows_lengths (filled rs)) z)) (sym (drop_texts h y)))))

-- ---- the rows' texts

pub table_texts_lem : (self : MDSerializer) (opts : FormatOpts) (rows : List (List Cell)) → table_texts self opts rows ≡ filled (rows_texts self opts rows)
unfolding table_texts rows_texts row_texts filled null
table_texts_lem self opts [] = refl
table_texts_lem self opts ([] ∷ rows) = table_texts_lem self opts rows
table_texts_lem self opts ((c ∷ row) ∷ rows) = ap (λ (z : List (List Out)). row_texts self opts (c ∷ row) ∷ z) (table_texts_lem self opts rows)

-- these are the lengths of the texts s
pub table_defined : (self : MDSerializer) (opts : FormatOpts) (head : List Cell) (rows : List (List Cell)) (l : List ℕ) (ls : List (List ℕ)) (s t : Bytes)
    → l ≡ lengths_of (row_texts self opts head) → ls ≡ rows_lengths (rows_texts self opts rows)
    → s ≡ concat (texts (row_texts self opts head)) ++ concat (texts (concat (rows_texts self opts rows))) → 0 < length l + width (filled ls)
    → table_step (row_texts self opts head) (table_texts self opts rows) t ≡ table_sized l (filled ls) s t
table_defined self opts head rows l ls s t a b c d =
    let rs : List (List Out) = rows_texts self opts rows in
    let h : List Out = row_texts self opts head in
    let e : filled ls ≡ rows_lengths (filled rs) = ap filled b ∙ filled_lengths rs in
    let f : s ≡ concat (texts h) ++ concat (texts (concat (filled rs))) = c ∙ ap (λ (z : List Out). concat (texts h) ++ concat (texts z)) (sym (concat_filled rs)) in
    ap (λ (z : List (List Out)). table_step h z t) (table_texts_lem self opts rows)
    ∙ table_step_lem h rs t (omega (arith, ap length a, ap width e))
    ∙ sym (ap₂ (λ (x : List ℕ) (y : List (List ℕ)). table_sized x y s t) a e ∙ ap (λ (z : Bytes). table_sized (lengths_of h) (rows_lengths (filled rs)) z t) f)

-- ---- whether the first row is the heading; b says so

module _ {sh ns : Bytes} {first to : ℕ} (self : MDSerializer) (opts : FormatOpts) (b : Bool) (th : (row : List Cell) → RowAt sh ns first row → b ≡ all_th row) (l : first < to)
    (some : 0 < length (row_lengths sh ns first)) (s t : Bytes) where
  pub headed_yes : (rows : List (List Cell)) → RowsAt sh ns first to rows → table_lengths sh ns first to ≡ rows_lengths (rows_texts self opts rows)
      → s ≡ concat (texts (concat (rows_texts self opts rows))) → (end : ℕ) → end ≡ end_at ns first → b ≡ true
      → table_step (row_texts self opts (table_header_row rows)) (table_texts self opts (data_rows rows)) t
      ≡ table_sized (cell_lengths sh ns first (first + 1) end) (filled (table_lengths sh ns (first + 1) to)) s t
  unfolding RowsAt table_header_row data_rows rows_texts rows_lengths
  headed_yes [] x e f end q y = absurd (omega arith)
  headed_yes (row ∷ rows) x e f end q y =
      let p : row_lengths sh ns first ∷ table_lengths sh ns (first + 1) to ≡ lengths_of (row_texts self opts row) ∷ rows_lengths (rows_texts self opts rows) = sym (lengths_row sh ns first to x.0 l) ∙ e in
      let u : row_lengths sh ns first ≡ lengths_of (row_texts self opts row) = cc in
      let v : table_lengths sh ns (first + 1) to ≡ rows_lengths (rows_texts self opts rows) = cc in
      rw (sym (th row x.0) ∙ y)
      (table_defined self opts row rows (row_lengths sh ns first) (table_lengths sh ns (first + 1) to) s t u v (f ∙ row_bytes (row_texts self opts row) (rows_texts self opts rows)) (omega arith)
      ∙ ap (λ (j : ℕ). table_sized (cell_lengths sh ns first (first + 1) j) (filled (table_lengths sh ns (first + 1) to)) s t) (sym q))

  pub headed_no : (rows : List (List Cell)) → RowsAt sh ns first to rows → table_lengths sh ns first to ≡ rows_lengths (rows_texts self opts rows)
      → s ≡ concat (texts (concat (rows_texts self opts rows))) → b ≡ false
      → table_step (row_texts self opts (table_header_row rows)) (table_texts self opts (data_rows rows)) t
      ≡ table_sized (cell_lengths sh ns first (first + 1) (first + 1)) (filled (table_lengths sh ns first to)) s t
  unfolding RowsAt table_header_row data_rows row_texts lengths_of texts concat
  headed_no [] x e f y = absurd (omega arith)
  headed_no (row ∷ rows) x e f y =
      rw (sym (th row x.0) ∙ y)
      (table_defined self opts [] (row ∷ rows) (cell_lengths sh ns first (first + 1) (first + 1)) (table_lengths sh ns first to) s t (gather_done (length_if sh ns first) (first + 1) (first + 1) (omega arith)) e f
      (omega (arith, ap length (ap filled (lengths_row sh ns first to x.0 l) ∙ filled_first (row_lengths sh ns first) (table_lengths sh ns (first + 1) to) some), width_first (ap filled (lengths_row sh ns first to x.0 l) ∙ filled_first (row_lengths sh ns first) (table_lengths sh ns (first + 1) to) some))))

-- ---- the first row of a table, and the rows behind it

pub first_row : {sh ns : Bytes} {first to : ℕ} → TableAt sh ns first to → (row : List Cell) × RowAt sh ns first row × SomeRows sh ns (first + 1) to
unfolding RowsAt
first_row {sh} {ns} {first} {to} x = go x.rows x.at
  where
    go : (rows : List (List Cell)) → RowsAt sh ns first to rows → (row : List Cell) × RowAt sh ns first row × SomeRows sh ns (first + 1) to
    go [] h = absurd (omega (arith, x.some_row))
    go (row ∷ rows) h = (row, h.0, (rows, h.1))

module _ {sh ns : Bytes} {first to n : ℕ} (x : TableAt sh ns first to) (e : n ≡ sum (concat (table_lengths sh ns first to))) where
  its_lengths : table_lengths sh ns first to ≡ row_lengths sh ns first ∷ table_lengths sh ns (first + 1) to
  its_lengths = lengths_row sh ns first to (first_row x).1 x.some_row

  module _ {end : ℕ} (q : end ≡ end_at ns first) where
    pub headed_kids : Kids sh ns first end
    headed_kids = let r = (first_row x).1 in (r.kids, subst (λ (j : ℕ). Rep sh ns first (first + 1) j r.kids) (sym q) r.is_element.kids_are)

    pub headed_sum : n ≡ sum (cell_lengths sh ns first (first + 1) end) + sum (concat (filled (table_lengths sh ns (first + 1) to)))
    headed_sum =
        e ∙ total_first its_lengths ∙ ap₂ (λ (j : ℕ) (z : List ℕ). sum (cell_lengths sh ns first (first + 1) j) + sum z) (sym q) (sym (concat_filled (table_lengths sh ns (first + 1) to)))

    pub headed_few : length (cell_lengths sh ns first (first + 1) end) + length (concat (table_lengths sh ns (first + 1) to)) < to
    unfolding concat
    headed_few =
        omega
        (arith, x.few, ap (λ (z : List (List ℕ)). length (concat z)) its_lengths, length-append (row_lengths sh ns first) (concat (table_lengths sh ns (first + 1) to)), ap (λ (j : ℕ). length (cell_lengths sh ns first (first + 1) j)) q)

  pub plain_kids : Kids sh ns first (first + 1)
  unfolding Rep
  plain_kids = (nothing, refl)

  pub plain_sum : n ≡ sum (cell_lengths sh ns first (first + 1) (first + 1)) + sum (concat (filled (table_lengths sh ns first to)))
  plain_sum = e ∙ omega (arith, sum_none (gather_done (length_if sh ns first) (first + 1) (first + 1) (omega arith)), ap sum (concat_filled (table_lengths sh ns first to)))

  pub plain_few : length (cell_lengths sh ns first (first + 1) (first + 1)) + length (concat (table_lengths sh ns first to)) < to
  plain_few = omega (arith, x.few, ap length (gather_done (length_if sh ns first) (first + 1) (first + 1) (omega arith)))
