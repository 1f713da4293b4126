-- The loop that writes the cells of a row.
use Prim.Native.Nat.{ℕ, ◌+◌, ◌*◌, ◌≤◌, ◌<◌}
use native.Mathlib.Omega.{arith}
use mathlib.Core.Path.{◌≡◌, refl, ap, sym, subst, ◌∙◌}
use mathlib.Core.Bool.{Bool}
use mathlib.Core.List.{List, [], ◌∷◌, ◌++◌, append_assoc, append-nil}
use lib.ListN.{length, take, length-append}
use Rattle.spec.specs.Bytes.{Bytes}
use Rattle.spec.specs.Out.{Out, keep, and_then}
use Rattle.spec.specs.Tree.{Attr, Forest, nothing, element}
use Rattle.spec.specs.Md.MDSerializer.{Ancestors, MDSerializer}
use Rattle.spec.specs.Md.Elements.Table.{Cell, cell_text, row_texts, is_table_cell}
use Rattle.spec.specs.declared.ctx.FormatOpts.{FormatOpts}
use Rattle.tree.specs.Memory.{end_at, parent_at, length_at, Kept}
use Rattle.tree.specs.Nodes.{name_at}
use Rattle.tree.specs.Represents.{Rep, Around, rest_of}
use Rattle.tree.proofs.Firsts.{First, first, rep_le}
use Rattle.tree.proofs.Frames.{kept_none, kept_then, kept_in, place_kept, end_kept, rep_kept, around_kept}
use Rattle.text.specs.Writes.{Written, Writes}
use Rattle.text.specs.Writes.{Wrote, no_room}
use Rattle.std.specs.Prelude.{Ok}
use Rattle.text.proofs.Writing.{done, full, Owes, owes_all, owes_on, owes_over, owes_none}
use Rattle.text.proofs.Temporary.{lent, back}
use Rattle.nodes.specs.Stands.{Siblings, ElementAt, Placed}
use Rattle.tables.specs.Rows.{RowAt, SomeRow}
use Rattle.tables.specs.Spans.{length_if, cell_lengths, row_lengths, CellFrom, NextCell}
use Rattle.tables.specs.TableSteps.{behind, lengths_of, RowWrites}
use Rattle.tables.proofs.TableCells.{CellsAt, CellAt, cells_all, cells_cell, cells_none}
use Rattle.tables.proofs.Gathering.{gather_split, gather_done, cells_step}
use Rattle.tables.proofs.Scratch.{cells_kept}
use Rattle.serializer.proofs.Gathered.{behind_none, behind_both, behind_full, behind_done}

-- ---- the lengths of the cells passed

pub empty_part : {A : Type 0} (x y : List A) → length (x ++ y) ≡ length y → x ≡ []
empty_part [] y e = refl
empty_part (a ∷ x) y e = absurd (omega (arith, length-append x y))

module _ (sh ns : Bytes) (r i d c to : ℕ) where
  -- no cell stands from d up to c
  cells_skip : i ≤ d → d ≤ c → c ≤ to → cell_lengths sh ns r d to ≡ cell_lengths sh ns r c to → cell_lengths sh ns r i c ≡ cell_lengths sh ns r i d
  cells_skip l m n e =
      let z : cell_lengths sh ns r d c ≡ [] = empty_part (cell_lengths sh ns r d c) (cell_lengths sh ns r c to) (ap length (sym (gather_split (length_if sh ns r) d c to m n) ∙ e)) in
      gather_split (length_if sh ns r) i d c l m ∙ (ap (λ (x : List ℕ). cell_lengths sh ns r i d ++ x) z ∙ append-nil (cell_lengths sh ns r i d))

  -- node c is a cell, and ends at d
  cells_more : CellFrom sh ns r c to → c < to → i ≤ c → d ≡ end_at ns c → cell_lengths sh ns r i d ≡ cell_lengths sh ns r i c ++ (length_at ns c ∷ [])
  cells_more p l m e =
      let t : First sh ns r c to p.rest = first sh ns r c to p.rest p.rep l in
      let one : cell_lengths sh ns r c (end_at ns c) ≡ length_at ns c ∷ [] =
      cells_step sh ns r c (end_at ns c) _ t.alone p.later t.later
      ∙ rw (p.is_cell_lem l) (ap (λ (x : List ℕ). length_at ns c ∷ x) (gather_done (length_if sh ns r) (end_at ns c) (end_at ns c) (omega arith))) in
      ap (cell_lengths sh ns r i) e
      ∙ (gather_split (length_if sh ns r) i c (end_at ns c) m (omega (arith, t.later)) ∙ ap (λ (x : List ℕ). cell_lengths sh ns r i c ++ x) one)

-- ---- the cells that are left

cells_at_kept : {from to : ℕ} {a b : Bytes} → Kept from to a b → {sh : Bytes} {r c : ℕ} {cells : List Cell} → CellsAt sh a r c cells → CellsAt sh b r c cells
cells_at_kept {from} {to} {a} {b} p {sh} {r} {c} x =
    record {
      anc = x.anc;
      rest = x.rest;
      later = x.later;
      around = around_kept p sh r x.anc x.around;
      rep = subst (λ (j : ℕ). Rep sh b r c j x.rest) (sym (end_kept p r)) (rep_kept p sh r c (end_at _ r) x.rest x.rep);
      cells_are = x.cells_are;
    }

module _ {sh ns : Bytes} {r d c to : ℕ} (e : to ≡ end_at ns r) (n : NextCell sh ns d to c) where
  its_rep : {cells : List Cell} (x : CellsAt sh ns r d cells) → Rep sh ns r d to x.rest
  its_rep x = subst (λ (j : ℕ). Rep sh ns r d j x.rest) (sym e) x.rep

  next_from : {cells : List Cell} → CellsAt sh ns r d cells → CellFrom sh ns r c to
  next_from x = (n r x.rest x.later (its_rep x)).0

  next_cells : {cells : List Cell} → CellsAt sh ns r d cells → CellsAt sh ns r c cells
  next_cells x =
      let y = n r x.rest x.later (its_rep x) in
      record {
        anc = x.anc;
        rest = y.0.rest;
        later = y.0.later;
        around = x.around;
        rep = subst (λ (j : ℕ). Rep sh ns r c j y.0.rest) e y.0.rep;
        cells_are = x.cells_are ∙ y.2 x.anc;
      }

  next_lengths : {cells : List Cell} → CellsAt sh ns r d cells → (i : ℕ) → i ≤ d → d ≤ c → cell_lengths sh ns r i c ≡ cell_lengths sh ns r i d
  next_lengths x i l m =
      let y = n r x.rest x.later (its_rep x) in
      cells_skip sh ns r i d c to l m (rep_le sh ns r c to y.0.rest y.0.rep) y.1

-- ---- texts of cells

module _ (self : MDSerializer) (opts : FormatOpts) where
  row_both : (xs ys : List Cell) → row_texts self opts (xs ++ ys) ≡ row_texts self opts xs ++ row_texts self opts ys
  unfolding row_texts
  row_both [] ys = refl
  row_both (x ∷ xs) ys = ap (λ (z : List Out). cell_text self opts x ∷ z) (row_both xs ys)

  lengths_both : (os ps : List Out) → lengths_of (os ++ ps) ≡ lengths_of os ++ lengths_of ps
  unfolding lengths_of
  lengths_both [] ps = refl
  lengths_both (o ∷ os) ps = ap (λ (z : List ℕ). length o.text ∷ z) (lengths_both os ps)

  row_more : (xs : List Cell) (x : Cell) → lengths_of (row_texts self opts (xs ++ (x ∷ []))) ≡ lengths_of (row_texts self opts xs) ++ (length (cell_text self opts x).text ∷ [])
  unfolding row_texts lengths_of
  row_more xs x = ap lengths_of (row_both xs (x ∷ [])) ∙ lengths_both (row_texts self opts xs) (cell_text self opts x ∷ [])

  behind_first_lem : (x : Cell) (xs : List Cell) (t : Bytes) → behind (row_texts self opts (x ∷ xs)) t ≡ and_then (behind (cell_text self opts x ∷ []) t) (behind (row_texts self opts xs))
  unfolding row_texts
  behind_first_lem x xs t = behind_both (cell_text self opts x ∷ []) (row_texts self opts xs) t

pub never : {e : ℕ} → ◌≡◌ {A = Wrote} no_room (Ok e) → ⊥
never s = let z : ◌≡◌ {A = ℕ} 0 1 = cc in omega arith

-- ---- the loop. Node memory is a at its beginning and b now, the text memory d and `text`; c is the next cell, up to number `to`

pub record RowGoing (self : MDSerializer) (opts : FormatOpts) (sh b : Bytes) (row c : ℕ) (d text : List ℕ) (len end : ℕ) (cells : List Cell) : Type 0 where
  pub passed : List Cell
  pub left : List Cell
  pub cells_are : cells ≡ passed ++ left
  pub at : CellsAt sh b row c left
  pub lengths_are : cell_lengths sh b row (row + 1) c ≡ lengths_of (row_texts self opts passed)
  pub owes : Owes (length d) text end (behind (row_texts self opts left)) (behind (row_texts self opts cells) (take len d))

pub record RowProgress (self : MDSerializer) (opts : FormatOpts) (sh a b : Bytes) (row to c : ℕ) (d text : List ℕ) (len end : ℕ) : Type 0 where
  pub to_is : to ≡ end_at a row
  pub kept : Kept (row + 1) to a b
  pub some : SomeRow sh a row
  pub here : CellFrom sh b row c to
  pub goes : (cells : List Cell) → RowAt sh a row cells → RowGoing self opts sh b row c d text len end cells

module _ (self : MDSerializer) (opts : FormatOpts) where
  pub row_start : {sh a : Bytes} {row to c : ℕ} → SomeRow sh a row → to ≡ end_at a row → row + 1 ≤ c → NextCell sh a (row + 1) to c → (d : List ℕ) (len : ℕ) → len ≤ length d
      → RowProgress self opts sh a a row to c d d len len
  row_start {sh} {a} {row} {to} {c} s e l n d len h =
      record {
        to_is = e;
        kept = kept_none a;
        some = s;
        here = next_from e n (cells_all s.1);
        goes = λ cells x.
            record {
              passed = [];
              left = cells;
              cells_are = refl;
              at = next_cells e n (cells_all x);
              lengths_are = begun (next_lengths e n (cells_all x) (row + 1) (omega arith) l ∙ gather_done (length_if sh a row) (row + 1) (row + 1) (omega arith));
              owes = owes_all d len (behind (row_texts self opts cells)) h refl;
            };
      }
    where
      begun : {l : List ℕ} → l ≡ [] → l ≡ lengths_of (row_texts self opts [])
      begun q = unfold row_texts lengths_of in q

module _ {self : MDSerializer} {opts : FormatOpts} {sh a b : Bytes} {row to c : ℕ} {d text : List ℕ} {len end : ℕ} (p : RowProgress self opts sh a b row to c d text len end) where
  row_some : RowGoing self opts sh b row c d text len end p.some.0
  row_some = p.goes p.some.0 p.some.1

  pub row_reach : end ≤ length text
  row_reach = row_some.owes.reach

  pub row_long : length text ≡ length d
  row_long = row_some.owes.long

  its_end : to ≡ end_at b row
  its_end = p.to_is ∙ sym (end_kept p.kept row)

  -- no cell is left
  pub row_end : to ≤ c → (cells : List Cell) → RowAt sh a row cells → RowWrites (length d) text (row_lengths sh b row) (Ok end) (row_texts self opts cells) (take len d)
  row_end l cells x =
      let g : RowGoing self opts sh b row c d text len end cells = p.goes cells x in
      let z : g.left ≡ [] = cells_none g.at (omega (arith, its_end)) in
      let w : cells ≡ g.passed = g.cells_are ∙ (ap (λ (y : List Cell). g.passed ++ y) z ∙ append-nil g.passed) in
      let q : end_at b row ≡ c = omega (arith, its_end, rep_le sh b row c to p.here.rest p.here.rep) in
      record {
        writes = owes_none g.owes (ap (λ (y : List Cell). behind (row_texts self opts y) (take end text)) z ∙ none (take end text));
        lengths_are = λ e r. ap (cell_lengths sh b row (row + 1)) q ∙ (g.lengths_are ∙ ap (λ (y : List Cell). lengths_of (row_texts self opts y)) (sym w));
      }
    where
      none : (t : Bytes) → behind (row_texts self opts []) t ≡ keep t
      none t = unfold row_texts in behind_none t

  module _ (l : c < to) where
    pub row_cell : {cells : List Cell} (x : RowAt sh a row cells) → CellAt sh b row c (p.goes cells x).left
    row_cell {cells} x = cells_cell (p.goes cells x).at (omega (arith, its_end)) (p.here.is_cell_lem l)

    row_first : First sh b row c to p.here.rest
    row_first = first sh b row c to p.here.rest p.here.rep l

    -- what the writer of the cell is given
    pub row_inside : c * 24 + 24 ≤ length b
    row_inside = row_first.inside

    pub row_placed : Placed sh b c
    row_placed = let x : CellAt sh b row c _ = row_cell p.some.1 in ((x.name, x.attrs, x.kids, x.is_element), (x.cell.ancestors, x.around))

    -- what it says of the element is said of the cell
    pub row_writes : {room : ℕ} {ys : List ℕ} {r : Wrote}
        → ((name : Bytes) (attrs : List Attr) (kids : Forest) (anc : Ancestors) (th : Bool) → ElementAt sh b c name attrs kids → Around sh b (parent_at b c) anc
        → Writes room ys r (cell_text self opts (record { ancestors = anc; is_th = th; node = element name attrs kids nothing })))
        → (cells : List Cell) (x : RowAt sh a row cells) → Writes room ys r (cell_text self opts (row_cell x).cell)
    row_writes {room} {ys} {r} e cells x =
        let y : CellAt sh b row c _ = row_cell x in
        subst (λ (n : Forest). Writes room ys r (cell_text self opts (record { ancestors = y.cell.ancestors; is_th = y.cell.is_th; node = n }))) (sym y.node_is)
        (e y.name y.attrs y.kids y.cell.ancestors y.cell.is_th y.is_element y.around)

    -- what it keeps of node memory, and what is behind the cell, which ends at e
    module _ {b₁ : Bytes} (k : Kept c (end_at b c) b b₁) where
      pub row_kept : Kept (row + 1) (end_at a row) a b₁
      row_kept =
          subst (λ (j : ℕ). Kept (row + 1) j a b₁) p.to_is (kept_then p.kept (kept_in (omega (arith, p.here.later)) row_first.within k))

      module _ {b₂ : Bytes} (k₂ : Kept c (c + 1) b₁ b₂) {e : ℕ} (u : e ≡ end_at b₂ c) where
        both : Kept c (end_at b c) b b₂
        both = kept_then k (kept_in (omega arith) (omega (arith, row_first.later)) k₂)

        pub row_later : c < e
        row_later = omega (arith, u, end_kept both c, row_first.later)

        pub row_behind : Siblings sh b₂ e to
        row_behind =
            (row, rest_of p.here.rest, subst (λ (j : ℕ). Rep sh b₂ row j to (rest_of p.here.rest)) (sym (u ∙ end_kept both c)) (rep_kept both sh row (end_at b c) to (rest_of p.here.rest) row_first.after))

    module _ {ys : List ℕ} {r : Wrote} (w : (cells : List Cell) (x : RowAt sh a row cells) → Writes (length (lent text end)) ys r (cell_text self opts (row_cell x).cell)) where
      split : (cells : List Cell) (x : RowAt sh a row cells)
          → behind (row_texts self opts (p.goes cells x).left) (take end text)
          ≡ and_then (behind (cell_text self opts (row_cell x).cell ∷ []) (take end text)) (behind (row_texts self opts (row_cell x).more))
      split cells x =
          ap (λ (z : List Cell). behind (row_texts self opts z) (take end text)) (row_cell x).cells_are
          ∙ behind_first_lem self opts (row_cell x).cell (row_cell x).more (take end text)

      -- the cell had no room
      pub row_stop : r ≡ no_room → (z : List ℕ) (lengths : List ℕ) (cells : List Cell) → RowAt sh a row cells → RowWrites (length d) z lengths no_room (row_texts self opts cells) (take len d)
      row_stop q z lengths cells x =
          let o : Out = cell_text self opts (row_cell x).cell in
          record {
            writes = owes_over (p.goes cells x).owes (behind (o ∷ [])) (behind (row_texts self opts (row_cell x).more)) (split cells x) (behind_full text end row_reach o (full q (w cells x)));
            lengths_are = λ e s. absurd (never s);
          }

      -- the cell is written, its span stored, and c' is the next
      pub row_on : {n : ℕ} → r ≡ Ok n → {b₁ b₂ : Bytes} → Kept c (end_at b c) b b₁ → Kept c (c + 1) b₁ b₂ → length_at b₂ c ≡ n → {e c' : ℕ} → e ≡ end_at b₂ c → e ≤ c' → NextCell sh b₂ e to c'
          → RowProgress self opts sh a b₂ row to c' d (back text end ys) len (end + n)
      row_on {n} q {b₁} {b₂} k₁ k₂ v {e} {c'} u m nx =
          let t : First sh b row c to p.here.rest = first sh b row c to p.here.rest p.here.rep l in
          let k : Kept c (end_at b c) b b₂ = kept_then k₁ (kept_in (omega arith) (omega (arith, t.later)) k₂) in
          let f : e ≡ end_at b c = u ∙ end_kept k c in
          let next : (cells : List Cell) (x : RowAt sh a row cells) → CellsAt sh b₂ row e (row_cell x).more =
          λ cells x. subst (λ (j : ℕ). CellsAt sh b₂ row j (row_cell x).more) (sym f) (cells_at_kept k (row_cell x).behind) in
          let h : to ≡ end_at b₂ row = its_end ∙ sym (end_kept k row) in
          let i : row + 1 ≤ c = omega (arith, p.here.later) in
          let here₂ : CellFrom sh b₂ row c to = from_kept k p.here in
          record {
            to_is = p.to_is;
            kept = kept_then p.kept (kept_in i t.within k);
            some = p.some;
            here = next_from h nx (next p.some.0 p.some.1);
            goes = λ cells x.
                let g : RowGoing self opts sh b row c d text len end cells = p.goes cells x in
                let o : Out = cell_text self opts (row_cell x).cell in
                let y : Written (length (lent text end)) ys n o = done q (w cells x) in
                record {
                  passed = g.passed ++ ((row_cell x).cell ∷ []);
                  left = (row_cell x).more;
                  cells_are = g.cells_are ∙ (ap (λ (z : List Cell). g.passed ++ z) (row_cell x).cells_are ∙ sym (append_assoc g.passed ((row_cell x).cell ∷ []) (row_cell x).more));
                  at = next_cells h nx (next cells x);
                  lengths_are =
                      next_lengths h nx (next cells x) (row + 1) (omega (arith, f, t.later)) m
                      ∙ (cells_more sh b₂ row (row + 1) e c to here₂ l i u
                      ∙ (ap (λ (z : List ℕ). z ++ (length_at b₂ c ∷ [])) (cells_kept k sh row (row + 1) c (omega arith) ∙ g.lengths_are)
                      ∙ (ap (λ (z : ℕ). lengths_of (row_texts self opts g.passed) ++ (z ∷ [])) (v ∙ y.count) ∙ sym (row_more self opts g.passed (row_cell x).cell))));
                  owes = owes_on g.owes (behind (o ∷ [])) (behind (row_texts self opts (row_cell x).more)) (split cells x) (behind_done text end row_reach o y);
                };
          }
        where
          from_kept : {b₂ : Bytes} → Kept c (end_at b c) b b₂ → CellFrom sh b row c to → CellFrom sh b₂ row c to
          from_kept {b₂} k x = record { rest = x.rest; later = x.later; rep = rep_kept k sh row c to x.rest x.rep; is_cell_lem = λ m. ap (λ (j : ℕ). is_table_cell (name_at sh j)) (place_kept k c) ∙ x.is_cell_lem m }
