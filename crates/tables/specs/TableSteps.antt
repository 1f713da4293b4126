-- The texts of a table's cells as they are written, and what is made of them.
use Rattle.std.specs.Prelude.{ℕ, ◌+◌, ◌-◌, ◌*◌, ◌≤◌, ◌<◌, ◌≡◌, List, [], ◌∷◌, ◌++◌, map, length}
use Rattle.spec.specs.Bytes.{Bytes, ascii}
use Rattle.spec.specs.Out.{Out, Step, and_then, push, beside, inside_all}
use Rattle.spec.specs.Md.MDSerializer.{MDSerializer}
use Rattle.spec.specs.Md.Elements.Table.{Cell, row_texts, texts, concat, width_of, filled_up, line, dashes, lines}
use Rattle.spec.specs.declared.ctx.FormatOpts.{FormatOpts}
use Rattle.text.specs.Writes.{Writes}
use Rattle.text.specs.Writes.{Wrote}
use Rattle.std.specs.Prelude.{Ok}
use Rattle.tables.specs.Rows.{RowsAt}
use Rattle.tables.specs.Spans.{row_lengths, table_lengths, sum, width, table_bytes}

-- texts begun behind the text one after the other, each staying there
unfoldable pub behind : List Out → Step
behind os t = record { text = t ++ concat (texts os); peak = inside_all t os }

-- the texts of the cells, row by row
unfoldable pub rows_texts : MDSerializer → FormatOpts → List (List Cell) → List (List Out)
rows_texts self opts [] = []
rows_texts self opts (row ∷ rows) = row_texts self opts row ∷ rows_texts self opts rows

unfoldable pub lengths_of : List Out → List ℕ
lengths_of [] = []
lengths_of (o ∷ os) = length o.text ∷ lengths_of os

unfoldable pub rows_lengths : List (List Out) → List (List ℕ)
rows_lengths [] = []
rows_lengths (row ∷ rows) = lengths_of row ∷ rows_lengths rows

-- what `table_of` does behind its cells
unfoldable pub table_step : List Out → List (List Out) → Step
table_step heading rows t =
    let headings = filled_up (width_of rows) (texts heading) in
    let counted = length (concat headings) + length (concat (texts (concat rows))) in
    let written = ascii "\n" ++ (line headings ++ (line (map dashes headings) ++ lines rows)) in
    and_then (beside counted (push written t)) (push (ascii "\n"))

-- `table_step` by the lengths of the cells, whose texts are s
unfoldable pub table_sized : List ℕ → List (List ℕ) → Bytes → Step
table_sized head rows s t =
    and_then (beside (sum head + sum (concat rows) + (width rows - length head)) (push (table_bytes head rows s) t)) (push (10 ∷ []))

-- the rows of a table from the first that has cells, which is node `first`; the cells are no more than the nodes
pub record TableAt (sh ns : Bytes) (first to : ℕ) : Type 0 where
  pub rows : List (List Cell)
  pub at : RowsAt sh ns first to rows
  pub some_row : first < to
  pub some_cell : 0 < length (row_lengths sh ns first)
  pub few : length (concat (table_lengths sh ns first to)) < to
  pub inside : to * 24 ≤ length ns

-- what writing the cells of a row answers: their texts stand behind t, and where there was room for them their lengths are stored
pub record RowWrites (room : ℕ) (after : List ℕ) (stored : List ℕ) (r : Wrote) (os : List Out) (t : Bytes) : Type 0 where
  pub writes : Writes room after r (behind os t)
  pub lengths_are : (e : ℕ) → r ≡ Ok e → stored ≡ lengths_of os

-- rows are written, and the lengths of their cells are stored
pub record RowsWrites (room : ℕ) (after : List ℕ) (stored : List (List ℕ)) (r : Wrote) (rows : List (List Out)) (t : Bytes) : Type 0 where
  pub writes : Writes room after r (behind (concat rows) t)
  pub lengths_are : (e : ℕ) → r ≡ Ok e → stored ≡ rows_lengths rows
