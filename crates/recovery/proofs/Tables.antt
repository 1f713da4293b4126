-- Tables: the lines of a table read as its headings and rows.
use Rattle.std.specs.Prelude.{ℕ, ◌≡◌, refl, Bool, true, false, eqb, length}
use Rattle.std.proofs.Common.{sym, ap, ◌∙◌}
use Rattle.std.proofs.Math.Bool.{and-false}
use mathlib.Core.List.{List, [], ◌∷◌, ◌++◌, append-nil, append_assoc, map}
use Rattle.std.proofs.lemmas.List.{length-map}
use borrow.Author.Tests.{eqb-false, ne_eqb, eq-eqb}
use Rattle.spec.specs.Bytes.{Bytes, null, isin, every, digit, cut_at, parts, split}
use Rattle.spec.specs.Entries.{Entry}
use Rattle.spec.specs.Reading.Lines.{space_or_tab, punctuation, blank_line}
use Rattle.spec.specs.Reading.Starts.{text_start, underline, interrupting, underline_or, lead, start_by, start, start_in}
use Rattle.spec.specs.Reading.Tables.{row}
use Rattle.spec.specs.Reading.Held as held
use Rattle.spec.specs.Reading.Held.{
  State,
  state,
  Leaf,
  no_leaf,
  text_leaf,
  table_leaf,
  free_role,
  closed,
  entry_if,
  empty_item,
  add_line,
  is_raw,
  is_fresh,
  is_paragraph,
  is_table,
  is_quote,
  last_line,
  other_lines,
  lines_of,
  heading_row,
  opens_table,
  above_by,
  above,
  any_delimiter,
  behind_first,
  tried_before,
}
use Rattle.spec.specs.Reading.Step.{
  kept,
  all_kept,
  base,
  role_in,
  text_by,
  goes_on,
  text_line,
  line_by,
  line_in,
  line,
  blank_step,
  leaf_step,
  step_by,
  step,
}
use Rattle.spec.specs.Reading.{read_lines, finish}
use Rattle.spec.proofs.Tests.{and_l, and_r, apart, every_app}
use Rattle.recovery.proofs.Escapes.{bare}
use Rattle.recovery.proofs.Markers.{solid, indented_blank, indented_column, indented_strip}
use Rattle.recovery.proofs.Joined.{in_line}
use Rattle.recovery.proofs.Steps.{Reached, step_zero}
use Rattle.recovery.proofs.Cells.{Celled, cnil, cbare, cback, cpipe, Rowed, rnil, rcons, padded_all, row_cells, length_rowed, fit_all, hyphens_rowed, delimiter_row_lem}
use Rattle.recovery.specs.Closed as closed
use Rattle.recovery.specs.Closed.{row_tail, row_line}

-- ---- a row is one line

bare_line : (b : ℕ) → bare b ≡ true → in_line b ≡ true
unfolding bare in_line isin
bare_line b h = rw (apart bare b 0 h refl, apart bare b 10 h refl, apart bare b 13 h refl)

pub punctuation_line : (b : ℕ) → punctuation b ≡ true → in_line b ≡ true
unfolding punctuation in_line isin
punctuation_line b h = rw (apart punctuation b 0 h refl, apart punctuation b 10 h refl, apart punctuation b 13 h refl)

slash_line : in_line 92 ≡ true
unfolding in_line isin
slash_line = refl

pipe_line : in_line 124 ≡ true
unfolding in_line isin
pipe_line = refl

pub cell_line : {e c w : Bytes} → Celled e c w → every in_line e ≡ true
unfolding every
cell_line cnil = refl
cell_line (cbare {b} q h) = rw (bare_line b q) (cell_line h)
cell_line (cback {b} p n h) = rw (slash_line, punctuation_line b p) (cell_line h)
cell_line (cpipe h) = rw (slash_line, pipe_line) (cell_line h)

tail_line : {es cs : List Bytes} → Rowed es cs → every in_line (row_tail es) ≡ true
unfolding every row_tail in_line isin
tail_line rnil = refl
tail_line (rcons {e} {es = es} h k) = every_app in_line e (32 ∷ 124 ∷ row_tail es) (cell_line h) (tail_line k)

pub row_line_lem : {es cs : List Bytes} → Rowed es cs → every in_line (row_line es) ≡ true
unfolding every row_line in_line isin
row_line_lem h = tail_line h

parts_line : (l : Bytes) → every in_line l ≡ true → parts (eqb 10) l ≡ (l, [])
unfolding every parts cut_at
parts_line [] h = refl
parts_line (b ∷ l) h =
    rw (
      ne_eqb 10 b (λ e. eqb-false b 10 (apart in_line b 10 (and_l (in_line b) _ h) (unfold in_line isin in refl)) (sym e)),
      parts_line l (and_r (in_line b) _ h),
    )

one_line_lem : (l : Bytes) → every in_line l ≡ true → lines_of l ≡ l ∷ []
unfolding lines_of split
one_line_lem l h = rw (parts_line l h)

-- ---- the steps

row_solid : (es : List Bytes) → solid (row_line es) ≡ true
unfolding row_line solid space_or_tab
row_solid es = refl

row_start : (es : List Bytes) → start (row_line es) ≡ text_start
unfolding row_line start start_by lead digit
row_start es = refl

row_underline : (es : List Bytes) → underline (row_line es) ≡ false
unfolding row_line underline
row_underline es = refl

row_start_in : (t : Bool) (es : List Bytes) → start_in t (row_line es) ≡ text_start
unfolding start_in underline_or interrupting
row_start_in false es = row_start es
row_start_in true es = rw (row_underline es, row_start es)

row_null : (es : List Bytes) → null (row_line es) ≡ false
unfolding row_line null
row_null es = refl

-- the first row of a table is a paragraph at first
step_heading : (o : List Entry) (op : List ℕ) (hs : List Bytes) → kept 0 op ≡ []
    → step (state o op no_leaf) (row_line hs) ≡ state o [] (text_leaf free_role (row_line hs))
unfolding line_by text_line text_by goes_on is_paragraph is_fresh is_table is_quote role_in closed
step_heading o op hs k =
    step_zero o op (row_line hs) k (row_solid hs) ∙ rw (row_start hs, and-false (all_kept 0 op), append-nil o)

-- a row where no item is open
step_row : (o : List Entry) (lf : Leaf) (es : List Bytes) → is_raw lf ≡ false
    → step (state o [] lf) (row_line es) ≡ text_line true [] 0 (row_line es) o [] lf
unfolding step step_by leaf_step line line_in base kept all_kept line_by
step_row o lf es h =
    rw (h, indented_blank 0 (row_line es) (row_solid es), indented_column 0 0 (row_line es) (row_solid es), indented_strip 0 (row_line es) (row_solid es))
    (rw (row_start_in (is_paragraph lf) es))

-- the delimiter row makes it a table
step_delimiter : (o : List Entry) (h : Bytes) (hs cs : List Bytes) → Rowed (h ∷ hs) cs
    → step (state o [] (text_leaf free_role (row_line (h ∷ hs)))) (row_line (map closed.hyphens (h ∷ hs)))
    ≡ state o [] (table_leaf false (padded_all cs) [])
unfolding text_line text_by is_paragraph opens_table heading_row last_line other_lines above above_by empty_item tried_before any_delimiter behind_first null
step_delimiter o h hs cs k =
    let ds : List Bytes = map closed.hyphens (h ∷ hs) in
    let same : length (padded_all cs) ≡ length (row (row_line ds)) =
    length_rowed k ∙ (sym (length-map (h ∷ hs) closed.hyphens) ∙ (sym (length_rowed (hyphens_rowed (h ∷ hs))) ∙ ap length (sym (row_cells (hyphens_rowed (h ∷ hs)))))) in
    step_row o (text_leaf free_role (row_line (h ∷ hs))) ds (unfold is_raw in refl)
    ∙ rw (
      row_null (h ∷ hs),
      one_line_lem (row_line (h ∷ hs)) (row_line_lem k),
      row_cells k,
      delimiter_row_lem h hs,
      eq-eqb (length (padded_all cs)) (length (row (row_line ds))) same,
    )
    (rw (one_line_lem (row_line (h ∷ hs)) (row_line_lem k), row_cells k, append-nil o))

rowed_some : {e : Bytes} {es cs : List Bytes} → Rowed (e ∷ es) cs → null (padded_all cs) ≡ false
unfolding padded_all null
rowed_some (rcons h k) = refl

-- a row of as many cells is added whole
step_data : (o : List Entry) (hs : List Bytes) (rs : List (List Bytes)) (e : Bytes) (es cs : List Bytes) → Rowed (e ∷ es) cs
    → length hs ≡ length (e ∷ es)
    → step (state o [] (table_leaf false hs rs)) (row_line (e ∷ es)) ≡ state o [] (table_leaf false hs (rs ++ (padded_all cs ∷ [])))
unfolding text_line text_by goes_on is_paragraph is_fresh is_table is_quote add_line
step_data o hs rs e es cs k n =
    step_row o (table_leaf false hs rs) (e ∷ es) (unfold is_raw in refl)
    ∙ rw (row_cells k, rowed_some k) (rw (row_cells k, n, ← length_rowed k, fit_all (padded_all cs)))

-- ---- the whole table

-- rows of n cells each, written and read
pub data Rows : ℕ → List (List Bytes) → List (List Bytes) → Type 0 where
  last_row : {n : ℕ} → Rows n [] []
  more_rows : {n : ℕ} {e : Bytes} {es cs : List Bytes} {ess css : List (List Bytes)} → Rowed (e ∷ es) cs → n ≡ length (e ∷ es)
      → Rows n ess css → Rows n ((e ∷ es) ∷ ess) (cs ∷ css)

unfoldable pub row_lines : List (List Bytes) → List Bytes
row_lines [] = []
row_lines (es ∷ ess) = row_line es ∷ row_lines ess

unfoldable pub padded_rows : List (List Bytes) → List (List Bytes)
padded_rows [] = []
padded_rows (cs ∷ css) = padded_all cs ∷ padded_rows css

step_rows : (o : List Entry) (hs : List Bytes) (rs : List (List Bytes)) {n : ℕ} {ess css : List (List Bytes)} → length hs ≡ n
    → Rows n ess css
    → read_lines (state o [] (table_leaf false hs rs)) (row_lines ess) ≡ state o [] (table_leaf false hs (rs ++ padded_rows css))
unfolding read_lines row_lines padded_rows
step_rows o hs rs n last_row = rw (append-nil rs)
step_rows o hs rs n (more_rows {e = e} {es} {cs} {ess} {css} k m more) =
    ap (λ (s : State). read_lines s (row_lines ess)) (step_data o hs rs e es cs k (n ∙ m))
    ∙ (step_rows o hs (rs ++ (padded_all cs ∷ [])) n more
    ∙ ap (λ (r : List (List Bytes)). state o [] (table_leaf false hs r)) (append_assoc rs (padded_all cs ∷ []) (padded_rows css)))

reached_table : (o : List Entry) (hs : List Bytes) (rs : List (List Bytes))
    → Reached (o ++ (held.table_entry hs rs ∷ [])) (state o [] (table_leaf false hs rs))
unfolding kept finish step step_by leaf_step blank_step is_raw is_fresh blank_line every closed entry_if
reached_table o hs rs = record { columns = []; left = refl; behind = refl; ended = refl }

pub read_table : (o : List Entry) (op : List ℕ) (h : Bytes) (hs cs : List Bytes) (ess css : List (List Bytes)) → kept 0 op ≡ []
    → Rowed (h ∷ hs) cs → Rows (length (h ∷ hs)) ess css
    → Reached (o ++ (held.table_entry (padded_all cs) (padded_rows css) ∷ []))
    (read_lines (state o op no_leaf) (row_line (h ∷ hs) ∷ row_line (map closed.hyphens (h ∷ hs)) ∷ row_lines ess))
unfolding read_lines
read_table o op h hs cs ess css k r m =
    let first : step (step (state o op no_leaf) (row_line (h ∷ hs))) (row_line (map closed.hyphens (h ∷ hs))) ≡ state o [] (table_leaf false (padded_all cs) []) =
    ap (λ (s : State). step s (row_line (map closed.hyphens (h ∷ hs)))) (step_heading o op (h ∷ hs) k) ∙ step_delimiter o h hs cs r in
    let all : read_lines (step (step (state o op no_leaf) (row_line (h ∷ hs))) (row_line (map closed.hyphens (h ∷ hs)))) (row_lines ess)
    ≡ state o [] (table_leaf false (padded_all cs) (padded_rows css)) =
    ap (λ (s : State). read_lines s (row_lines ess)) first ∙ step_rows o (padded_all cs) [] (length_rowed r) m in
    rw all (reached_table o (padded_all cs) (padded_rows css))
