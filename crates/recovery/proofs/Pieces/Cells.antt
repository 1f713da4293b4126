-- The cells of a written row, whatever they hold, part where they were joined.
use Rattle.std.specs.Prelude.{ℕ, suc, ◌<◌, ◌≤◌, ◌≡◌, Bool, cond, not, ◌&&◌, ◌||◌, List, [], ◌∷◌, ◌++◌, eqb, length}
use Rattle.std.proofs.Common.{arith, sym, ap, ◌∙◌, eqb-true}
use Rattle.std.proofs.Math.Path.{refl}
use Rattle.std.proofs.Math.Bool.{true, false, and-true, and-false}
use Rattle.std.proofs.lemmas.Bool.{false≢true}
use Rattle.spec.specs.Bytes.{Bytes, ascii, null, isin, same, starts_with}
use Rattle.spec.specs.Md.Elements.Table.{pipes_escaped}
use Rattle.spec.specs.Md.TextUtils.{is_escaped, escaped_from, escaped_chunk}
use Rattle.spec.specs.Pieces.Tables.{cell_text}
use Rattle.spec.specs.Reading.Inline as reading
use Rattle.spec.specs.Reading.Inline.{escaped, slashed, unescape}
use Rattle.spec.specs.Reading.Lines.{punctuation, head_is, contains}
use Rattle.spec.specs.Reading.Tables.{in_cell, cell_byte, cells, piped, row_by, row, untrailed}
use Rattle.recovery.proofs.Cells.{padded, padded_all, held, whole, untrailed_all}
use Rattle.recovery.specs.Closed.{row_tail, row_line}
use Rattle.recovery.proofs.Escapes.{escaped_punctuation}
use Rattle.recovery.proofs.Pieces.Escapes.{bare_backslash}
use Rattle.spec.proofs.Tests.{or_l, or_r, apart}

-- ---- one cell

-- the text of a cell behind a backslash that is held back
text_held : (b : ℕ) (c : Bytes) → eqb b 124 ≡ false → cell_text (92 ∷ b ∷ c) ≡ 92 ∷ cell_text (b ∷ c)
unfolding cell_text head_is
text_held b c h = rw h

text_other : (b : ℕ) (c : Bytes) → eqb b 92 ≡ false → cell_text (b ∷ c) ≡ b ∷ cell_text c
unfolding cell_text
text_other b c h = rw h

-- c as the writer escapes it, with a blank behind it, whatever follows
pub cells_escaped : (s : Bool) (c t : Bytes)
    → cells s (pipes_escaped s c ++ (32 ∷ t)) ≡ (cell_text (held s c) ++ (32 ∷ (cells false t).0), (cells false t).1)
unfolding pipes_escaped held
cells_escaped true [] t = unfold cells cell_byte in_cell held cell_text head_is in refl
cells_escaped false [] t = unfold cells cell_byte in_cell held cell_text in refl
cells_escaped s (b ∷ c) t = go s (eqb b 124) (eqb b 92) refl refl (cells_escaped true c t) (cells_escaped false c t)
  where
    go : (s p k : Bool) → eqb b 124 ≡ p → eqb b 92 ≡ k
        → cells true (pipes_escaped true c ++ (32 ∷ t)) ≡ (cell_text (92 ∷ c) ++ (32 ∷ (cells false t).0), (cells false t).1)
        → cells false (pipes_escaped false c ++ (32 ∷ t)) ≡ (cell_text c ++ (32 ∷ (cells false t).0), (cells false t).1)
        → cells s ((cond (p && not s) (ascii "\\") [] ++ (b ∷ pipes_escaped k c)) ++ (32 ∷ t))
        ≡ (cell_text (held s (b ∷ c)) ++ (32 ∷ (cells false t).0), (cells false t).1)
    go s true true q e i j = absurd (false≢true (ap (λ n. eqb n 92) (sym (eqb-true b 124 q)) ∙ e))
    go true true false q e i j = unfold cells cell_byte in_cell cell_text head_is in rw (q, e, j)
    go false true false q e i j = unfold cells cell_byte in_cell cell_text head_is in rw (q, e, j)
    go true false true q e i j = unfold cells cell_byte in_cell in rw (q, e, i, text_held b c q) (rw (eqb-true b 92 e))
    go false false true q e i j = unfold cells cell_byte in_cell in rw (q, e, i) (rw (eqb-true b 92 e))
    go true false false q e i j = unfold cells cell_byte in_cell in rw (q, e, j, text_held b c q, text_other b c e)
    go false false false q e i j = unfold cells cell_byte in_cell in rw (q, e, j, text_other b c e)

-- ---- the row

-- the texts of cells as the writer escapes them
unfoldable pub escaped_cells : List Bytes → List Bytes
escaped_cells [] = []
escaped_cells (c ∷ cs) = pipes_escaped false c ∷ escaped_cells cs

unfoldable pub cell_texts : List Bytes → List Bytes
cell_texts [] = []
cell_texts (c ∷ cs) = cell_text c ∷ cell_texts cs

tail_escaped : (cs : List Bytes) → whole (cells false (row_tail (escaped_cells cs))) ≡ padded_all (cell_texts cs) ++ ([] ∷ [])
unfolding whole row_tail escaped_cells cell_texts padded_all padded held cells cell_byte in_cell
tail_escaped [] = refl
tail_escaped (c ∷ cs) =
    rw (cells_escaped false c (124 ∷ row_tail (escaped_cells cs))) (ap (λ (l : List Bytes). (32 ∷ (cell_text c ++ (32 ∷ []))) ∷ l) (tail_escaped cs))

-- whatever the cells hold, the row parts where they were joined: each cell gives its text, between blanks
pub row_escaped : (cs : List Bytes) → row (row_line (escaped_cells cs)) ≡ padded_all (cell_texts cs)
unfolding row row_line row_by piped whole
row_escaped cs = ap untrailed (tail_escaped cs) ∙ untrailed_all (cell_texts cs)

-- ---- the text of a cell

slash_pipe : (b : ℕ) (c : Bytes) → starts_with (ascii "\\|") (b ∷ c) ≡ (eqb b 92 && head_is 124 c)
unfolding starts_with same head_is
slash_pipe b [] = refl
slash_pipe b (d ∷ c) = rw (and-true (eqb d 124))

-- a text in which no backslash stands straight before a pipe comes back
pub text_kept : (c : Bytes) → contains (ascii "\\|") c ≡ false → cell_text c ≡ c
unfolding contains cell_text
text_kept [] h = refl
text_kept (b ∷ c) h =
    rw (sym (slash_pipe b c) ∙ or_l (starts_with (ascii "\\|") (b ∷ c)) _ h)
    (ap (λ (r : Bytes). b ∷ r) (text_kept c (or_r (starts_with (ascii "\\|") (b ∷ c)) _ h)))

text_least : (c : Bytes) → length (cell_text c) ≤ length c
unfolding cell_text
text_least [] = omega arith
text_least (b ∷ c) = go (eqb b 92 && head_is 124 c) (text_least c)
  where
    go : (t : Bool) → length (cell_text c) ≤ length c → length (cond t (cell_text c) (b ∷ cell_text c)) ≤ suc (length c)
    go true h = omega arith
    go false h = omega arith

-- any other loses those backslashes
pub text_lost : (c : Bytes) → contains (ascii "\\|") c ≡ true → length (cell_text c) < length c
unfolding contains cell_text
text_lost [] h = unfold null in absurd (false≢true h)
text_lost (b ∷ c) h = go (eqb b 92 && head_is 124 c) (rw (slash_pipe b c) at h) (λ e. text_lost c e)
  where
    go : (t : Bool) → (t || contains (ascii "\\|") c) ≡ true → (contains (ascii "\\|") c ≡ true → length (cell_text c) < length c)
        → length (cond t (cell_text c) (b ∷ cell_text c)) < suc (length c)
    go true e f = omega (arith, text_least c)
    go false e f = omega (arith, f e)

-- two cells that are written alike: a pipe, and a pipe behind a backslash
pub written_alike : pipes_escaped false (ascii "|") ≡ pipes_escaped false (ascii "\\|")
unfolding pipes_escaped
written_alike = refl

-- ---- words in a cell

text_pipe : (b : ℕ) (c : Bytes) → eqb b 124 ≡ true → cell_text (92 ∷ b ∷ c) ≡ 124 ∷ cell_text c
unfolding cell_text head_is
text_pipe b c h = rw (eqb-true b 124 h)

-- a byte that the writer escapes nowhere but at the beginning of a line
unfoldable pub quiet : ℕ → Bool
quiet b = not (isin b (ascii "\\`*_[]<|~"))

pub unescaped_quiet : (start marker underline : Bool) (b : ℕ) (rest : Bytes) → is_escaped start marker underline b rest ≡ false → quiet b ≡ true
unfolding is_escaped quiet
unescaped_quiet start marker underline b rest h = rw (or_l (isin b (ascii "\\`*_[]<|~")) _ h)

pipe_first : (start marker underline : Bool) (w : Bytes) → head_is 124 (escaped_from start marker underline w) ≡ false
unfolding escaped_from head_is
pipe_first start marker underline [] = refl
pipe_first start marker underline (b ∷ w) = go (is_escaped start marker underline b w) refl
  where
    go : (t : Bool) → is_escaped start marker underline b w ≡ t → head_is 124 (cond t (ascii "\\") [] ++ (b ∷ escaped_from false marker underline w)) ≡ false
    go true e = unfold head_is in refl
    go false e = unfold quiet isin in apart quiet b 124 (unescaped_quiet start marker underline b w e) refl

text_plain : (b : ℕ) (c : Bytes) → head_is 124 c ≡ false → cell_text (b ∷ c) ≡ b ∷ cell_text c
unfolding cell_text
text_plain b c h = rw (h, and-false (eqb b 92))

plain_read : (b : ℕ) (r : Bytes) → eqb b 92 ≡ false → unescape false (b ∷ r) ≡ b ∷ unescape false r
unfolding unescape reading.bare escaped slashed
plain_read b r h = rw h

back_read : (b : ℕ) (r : Bytes) → punctuation b ≡ true → unescape false (92 ∷ b ∷ r) ≡ b ∷ unescape false r
unfolding unescape reading.bare escaped slashed
back_read b r h = rw h

back_cell : (b : ℕ) (r : Bytes) → punctuation b ≡ true → head_is 124 r ≡ false → unescape false (cell_text (92 ∷ b ∷ r)) ≡ b ∷ unescape false (cell_text r)
back_cell b r p h = go (eqb b 124) refl
  where
    go : (t : Bool) → eqb b 124 ≡ t → unescape false (cell_text (92 ∷ b ∷ r)) ≡ b ∷ unescape false (cell_text r)
    go true e =
        rw (text_pipe b r e) (plain_read 124 (cell_text r) refl ∙ ap (λ (n : ℕ). n ∷ unescape false (cell_text r)) (sym (eqb-true b 124 e)))
    go false e = rw (text_held b r e, text_plain b r h) (back_read b (cell_text r) p)

from_cell : (start marker underline : Bool) (w : Bytes) → unescape false (cell_text (escaped_from start marker underline w)) ≡ w
unfolding escaped_from
from_cell start marker underline [] = unfold cell_text unescape in refl
from_cell start marker underline (b ∷ w) = go (is_escaped start marker underline b w) refl (from_cell false marker underline w)
  where
    go : (t : Bool) → is_escaped start marker underline b w ≡ t → unescape false (cell_text (escaped_from false marker underline w)) ≡ w
        → unescape false (cell_text (cond t (ascii "\\") [] ++ (b ∷ escaped_from false marker underline w))) ≡ b ∷ w
    go true e ih =
        back_cell b (escaped_from false marker underline w) (escaped_punctuation start marker underline b w e) (pipe_first false marker underline w)
        ∙ ap (λ (r : Bytes). b ∷ r) ih
    go false e ih =
        rw (text_plain b (escaped_from false marker underline w) (pipe_first false marker underline w))
        (plain_read b (cell_text (escaped_from false marker underline w)) (bare_backslash start marker underline b w e) ∙ ap (λ (r : Bytes). b ∷ r) ih)

-- the escapes of a word that stands in a cell give the word back, also one that holds pipes and backslashes
pub word_cell : (w : Bytes) (start : Bool) → unescape false (cell_text (escaped_chunk w true start)) ≡ w
unfolding escaped_chunk
word_cell w start = from_cell start _ _ w
