-- The loop that writes the cells of the rows of a table.
use Prim.Native.Nat.{ℕ, ◌+◌, ◌≤◌, ◌<◌}
use native.Mathlib.Omega.{arith}
use mathlib.Core.Path.{◌≡◌, refl, ap, sym, ◌∙◌}
use mathlib.Core.List.{List, [], ◌∷◌, ◌++◌, append_assoc, append-nil}
use lib.ListN.{length, take}
use Rattle.spec.specs.Bytes.{Bytes}
use Rattle.spec.specs.Out.{keep, and_then}
use Rattle.spec.specs.Md.MDSerializer.{MDSerializer}
use Rattle.spec.specs.Md.Elements.Table.{Cell, row_texts, concat}
use Rattle.spec.specs.declared.ctx.FormatOpts.{FormatOpts}
use Rattle.tree.specs.Memory.{end_at, Kept}
use Rattle.tree.proofs.Frames.{kept_none, kept_then, kept_in, end_kept}
use Rattle.text.specs.Writes.{Wrote, no_room}
use Rattle.std.specs.Prelude.{Ok}
use Rattle.text.proofs.Writing.{Owes, owes_all, owes_step, owes_stop, owes_none}
use Rattle.tables.specs.Rows.{RowAt, Rows, RowsAt, SomeRows}
use Rattle.tables.specs.Spans.{row_lengths, row_if, table_lengths}
use Rattle.tables.specs.TableSteps.{behind, rows_texts, lengths_of, rows_lengths, RowWrites, RowsWrites}
use Rattle.tables.proofs.TableRows.{rows_at, rows_at_le, row_kept, rows_kept}
use Rattle.tables.proofs.RowTests.{no_rows}
use Rattle.tables.proofs.Gathering.{gather_split, gather_done}
use Rattle.tables.proofs.Lines.{lengths_row, rows_number}
use Rattle.tables.proofs.Scratch.{rows_kept_before}
use Rattle.serializer.proofs.Gathered.{behind_none, behind_both}
use Rattle.serializer.proofs.RowWriting.{empty_part, never}

-- ---- the lengths of the rows passed

module _ (sh ns : Bytes) (i d r to : ℕ) where
  -- no row stands from d up to r
  rows_skip : i ≤ d → d ≤ r → (rows : List (List Cell)) → Rows sh ns d to rows → RowsAt sh ns r to rows → table_lengths sh ns i r ≡ table_lengths sh ns i d
  rows_skip l m rows x y =
      let z : table_lengths sh ns d r ≡ [] =
      empty_part (table_lengths sh ns d r) (table_lengths sh ns r to)
      (ap length (sym (gather_split (row_if sh ns) d r to m (rows_at_le sh ns r to rows y))) ∙ (rows_number sh ns d to rows x ∙ sym (rows_number sh ns r to rows (rows_at sh ns r to rows y)))) in
      gather_split (row_if sh ns) i d r l m ∙ (ap (λ (x : List (List ℕ)). table_lengths sh ns i d ++ x) z ∙ append-nil (table_lengths sh ns i d))

  rows_more : {row : List Cell} → RowAt sh ns r row → i ≤ r → table_lengths sh ns i (r + 1) ≡ table_lengths sh ns i r ++ (row_lengths sh ns r ∷ [])
  rows_more x l =
      gather_split (row_if sh ns) i r (r + 1) l (omega arith)
      ∙ ap (λ (z : List (List ℕ)). table_lengths sh ns i r ++ z)
      (lengths_row sh ns r (r + 1) x (omega arith) ∙ ap (λ (z : List (List ℕ)). row_lengths sh ns r ∷ z) (gather_done (row_if sh ns) (r + 1) (r + 1) (omega arith)))

-- ---- texts of rows

module _ (self : MDSerializer) (opts : FormatOpts) where
  lengths_more : (xs : List (List Cell)) (x : List Cell) → rows_lengths (rows_texts self opts (xs ++ (x ∷ []))) ≡ rows_lengths (rows_texts self opts xs) ++ (lengths_of (row_texts self opts x) ∷ [])
  unfolding rows_texts rows_lengths
  lengths_more [] x = refl
  lengths_more (y ∷ xs) x = ap (λ (z : List (List ℕ)). lengths_of (row_texts self opts y) ∷ z) (lengths_more xs x)

  behind_row : (x : List Cell) (xs : List (List Cell)) (t : Bytes)
      → behind (concat (rows_texts self opts (x ∷ xs))) t ≡ and_then (behind (row_texts self opts x) t) (behind (concat (rows_texts self opts xs)))
  unfolding rows_texts concat
  behind_row x xs t = behind_both (row_texts self opts x) (concat (rows_texts self opts xs)) t

-- ---- the loop. Node memory is a at its beginning and b now, the text memory d and `text`; r is the next row, up to number `to`

pub record RowsGoing (self : MDSerializer) (opts : FormatOpts) (sh b : Bytes) (from to r : ℕ) (d text : List ℕ) (len end : ℕ) (rows : List (List Cell)) : Type 0 where
  pub passed : List (List Cell)
  pub left : List (List Cell)
  pub rows_are : rows ≡ passed ++ left
  pub at : RowsAt sh b r to left
  pub lengths_are : table_lengths sh b from r ≡ rows_lengths (rows_texts self opts passed)
  pub owes : Owes (length d) text end (behind (concat (rows_texts self opts left))) (behind (concat (rows_texts self opts rows)) (take len d))

pub record RowsProgress (self : MDSerializer) (opts : FormatOpts) (sh a b : Bytes) (from to r : ℕ) (d text : List ℕ) (len end : ℕ) : Type 0 where
  pub kept : Kept from to a b
  pub later : from ≤ r
  pub some : SomeRows sh a from to
  -- the nodes of the range end in it
  pub within : (j : ℕ) → from ≤ j → j < to → end_at a j ≤ to
  pub goes : (rows : List (List Cell)) → Rows sh a from to rows → RowsGoing self opts sh b from to r d text len end rows

-- the first of the rows that are left
pub record Next (sh ns : Bytes) (r to : ℕ) (left : List (List Cell)) : Type 0 where
  pub row : List Cell
  pub more : List (List Cell)
  pub left_is : left ≡ row ∷ more
  pub at : RowAt sh ns r row
  pub behind_it : Rows sh ns (r + 1) to more

next_row : {sh ns : Bytes} {r to : ℕ} (left : List (List Cell)) → RowsAt sh ns r to left → r < to → Next sh ns r to left
unfolding RowsAt
next_row [] x l = absurd (omega arith)
next_row (row ∷ more) x l = record { row = row; more = more; left_is = refl; at = x.0; behind_it = x.1 }

module _ (self : MDSerializer) (opts : FormatOpts) where
  pub rows_start : {sh a : Bytes} {from to r : ℕ} → SomeRows sh a from to → ((j : ℕ) → from ≤ j → j < to → end_at a j ≤ to) → from ≤ r
      → ((rows : List (List Cell)) → Rows sh a from to rows → RowsAt sh a r to rows) → (d : List ℕ) (len : ℕ) → len ≤ length d
      → RowsProgress self opts sh a a from to r d d len len
  rows_start {sh} {a} {from} {to} {r} s w l n d len h =
      record {
        kept = kept_none a;
        later = l;
        some = s;
        within = w;
        goes = λ rows x.
            record {
              passed = [];
              left = rows;
              rows_are = refl;
              at = n rows x;
              lengths_are = begun (rows_skip sh a from from r to (omega arith) l rows x (n rows x) ∙ gather_done (row_if sh a) from from (omega arith));
              owes = owes_all d len (behind (concat (rows_texts self opts rows))) h refl;
            };
      }
    where
      begun : {l : List (List ℕ)} → l ≡ [] → l ≡ rows_lengths (rows_texts self opts [])
      begun q = unfold rows_texts rows_lengths in q

module _ {self : MDSerializer} {opts : FormatOpts} {sh a b : Bytes} {from to r : ℕ} {d text : List ℕ} {len end : ℕ} (p : RowsProgress self opts sh a b from to r d text len end) where
  -- no row is left
  pub rows_end : to ≤ r → (rows : List (List Cell)) → Rows sh a from to rows
      → RowsWrites (length d) text (table_lengths sh b from to) (Ok end) (rows_texts self opts rows) (take len d)
  rows_end l rows x =
      let g : RowsGoing self opts sh b from to r d text len end rows = p.goes rows x in
      let z : g.left ≡ [] = no_rows sh b r to g.left g.at l in
      let w : rows ≡ g.passed = g.rows_are ∙ (ap (λ (y : List (List Cell)). g.passed ++ y) z ∙ append-nil g.passed) in
      let q : to ≡ r = omega (arith, rows_at_le sh b r to g.left g.at) in
      record {
        writes = owes_none g.owes (ap (λ (y : List (List Cell)). behind (concat (rows_texts self opts y)) (take end text)) z ∙ none (take end text));
        lengths_are = λ e s. ap (table_lengths sh b from) q ∙ (g.lengths_are ∙ ap (λ (y : List (List Cell)). rows_lengths (rows_texts self opts y)) (sym w));
      }
    where
      none : (t : Bytes) → behind (concat (rows_texts self opts [])) t ≡ keep t
      none t = unfold rows_texts concat in behind_none t

  module _ (l : r < to) where
    first_left : (rows : List (List Cell)) (x : Rows sh a from to rows) → Next sh b r to (p.goes rows x).left
    first_left rows x = next_row (p.goes rows x).left (p.goes rows x).at l

    pub rows_row : (row : List Cell) × RowAt sh b r row
    rows_row = ((first_left p.some.0 p.some.1).row, (first_left p.some.0 p.some.1).at)

    pub rows_within : end_at b r ≤ to
    rows_within = omega (arith, p.within r p.later l, end_kept p.kept r)

    -- what writing the row keeps of node memory, and what is behind it
    module _ {b' : Bytes} (k : Kept (r + 1) (end_at b r) b b') where
      pub rows_keep : Kept from to a b'
      rows_keep = kept_then p.kept (kept_in (omega (arith, p.later)) rows_within k)

      pub rows_behind : SomeRows sh b' (r + 1) to
      rows_behind =
          let f : Next sh b r to _ = first_left p.some.0 p.some.1 in (f.more, rows_kept k sh (r + 1) to f.more f.behind_it)

    split : (rows : List (List Cell)) (y : Rows sh a from to rows)
        → behind (concat (rows_texts self opts (p.goes rows y).left)) (take end text)
        ≡ and_then (behind (row_texts self opts (first_left rows y).row) (take end text)) (behind (concat (rows_texts self opts (first_left rows y).more)))
    split rows y =
        ap (λ (z : List (List Cell)). behind (concat (rows_texts self opts z)) (take end text)) (first_left rows y).left_is
        ∙ behind_row self opts (first_left rows y).row (first_left rows y).more (take end text)

    module _ {text' : List ℕ} (b' : Bytes) {w : Wrote} (x : (row : List Cell) → RowAt sh b r row → RowWrites (length text) text' (row_lengths sh b' r) w (row_texts self opts row) (take end text)) where
      -- the row had no room
      pub rows_stop : w ≡ no_room → (z : List ℕ) (lengths : List (List ℕ)) (rows : List (List Cell)) → Rows sh a from to rows
          → RowsWrites (length d) z lengths no_room (rows_texts self opts rows) (take len d)
      rows_stop q z lengths rows y =
          let f : Next sh b r to (p.goes rows y).left = first_left rows y in
          record {
            writes = owes_stop (p.goes rows y).owes (behind (row_texts self opts f.row)) (behind (concat (rows_texts self opts f.more))) (split rows y) q (x f.row f.at).writes;
            lengths_are = λ e s. absurd (never s);
          }

      -- the row is written, and r' is the next
      pub rows_on : {m : ℕ} → w ≡ Ok m → Kept (r + 1) (end_at b r) b b' → (r' : ℕ) → r + 1 ≤ r' → ((rows : List (List Cell)) → Rows sh b' (r + 1) to rows → RowsAt sh b' r' to rows)
          → RowsProgress self opts sh a b' from to r' d text' len m
      rows_on {m} q k r' o n =
          record {
            kept = rows_keep k;
            later = omega (arith, p.later);
            some = p.some;
            within = p.within;
            goes = λ rows y.
                let g : RowsGoing self opts sh b from to r d text len end rows = p.goes rows y in
                let f : Next sh b r to g.left = first_left rows y in
                let v : Rows sh b' (r + 1) to f.more = rows_kept k sh (r + 1) to f.more f.behind_it in
                let u : RowWrites (length text) text' (row_lengths sh b' r) w (row_texts self opts f.row) (take end text) = x f.row f.at in
                record {
                  passed = g.passed ++ (f.row ∷ []);
                  left = f.more;
                  rows_are = g.rows_are ∙ (ap (λ (z : List (List Cell)). g.passed ++ z) f.left_is ∙ sym (append_assoc g.passed (f.row ∷ []) f.more));
                  at = n f.more v;
                  lengths_are =
                      rows_skip sh b' from (r + 1) r' to (omega (arith, p.later)) o f.more v (n f.more v)
                      ∙ (rows_more sh b' from (r + 1) r to (row_kept k sh r f.row f.at) p.later
                      ∙ (ap (λ (z : List (List ℕ)). z ++ (row_lengths sh b' r ∷ [])) (rows_kept_before r sh f.at.kids f.at.is_element.kids_are k from ∙ g.lengths_are)
                      ∙ (ap (λ (z : List ℕ). rows_lengths (rows_texts self opts g.passed) ++ (z ∷ [])) (u.lengths_are m q) ∙ sym (lengths_more self opts g.passed f.row))));
                  owes = owes_step g.owes (behind (row_texts self opts f.row)) (behind (concat (rows_texts self opts f.more))) (split rows y) q u.writes;
                };
          }
