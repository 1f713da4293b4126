-- The cells of a row: they part where they were joined, and each gives its words.
use Rattle.std.specs.Prelude.{ℕ, zero, suc, ◌-◌, max, ◌≡◌, refl, Bool, true, not, List, [], ◌∷◌, ◌++◌, map, eqb, length, replicate}
use Rattle.std.proofs.Common.{arith, ap, ◌∙◌, append-nil, append_assoc, eqb-true}
use Rattle.std.proofs.Math.Bool.{false}
use Rattle.std.proofs.lemmas.Bool.{not-true}
use Rattle.spec.specs.Bytes.{Bytes, null, same, isin, every, starts_with, white, cut_at, parts, split, filled, words}
use Rattle.spec.specs.Entries.{word}
use Rattle.spec.specs.Reading.Lines.{punctuation, head_is, drop_while, drop_run}
use Rattle.spec.specs.Reading.Inline as reading
use Rattle.spec.specs.Reading.Inline.{escaped, slashed, unescape, anywhere, mark, begins_by, begins, pieces, inline}
use Rattle.spec.specs.Reading.Tables.{Cells, cell_blank, blank_cell, in_cell, cell_byte, cells, untrailed, piped, row_by, row, drop_colon, hyphens, delimiter_cell, delimiter_cells, delimiter_row, fit}
use Rattle.spec.proofs.Tests.{and_l, and_r, and_no}
use Rattle.recovery.proofs.Words.{plain_word, plain_words, plain_bytes, blanked, parts_word}
use Rattle.recovery.proofs.Escapes.{bare, bare_not, Esc, enil, ebare, eback, begins_bare, begins_back}
use Rattle.recovery.specs.Closed as closed
use Rattle.recovery.specs.Closed.{phrase, row_tail, row_line}

-- ---- what is written of a cell, and what the reading takes it for

-- e is written, c is the text of the cell, w are the bytes meant: a pipe loses its backslash when the row is parted, every other
-- byte keeps it until the inlines are read
pub data Celled : Bytes → Bytes → Bytes → Type 0 where
  cnil : Celled [] [] []
  cbare : {b : ℕ} {e c w : Bytes} → bare b ≡ true → Celled e c w → Celled (b ∷ e) (b ∷ c) (b ∷ w)
  cback : {b : ℕ} {e c w : Bytes} → punctuation b ≡ true → eqb b 124 ≡ false → Celled e c w → Celled (92 ∷ b ∷ e) (92 ∷ b ∷ c) (b ∷ w)
  cpipe : {e c w : Bytes} → Celled e c w → Celled (92 ∷ 124 ∷ e) (124 ∷ c) (124 ∷ w)

pub Celled_app : {e c w f d v : Bytes} → Celled e c w → Celled f d v → Celled (e ++ f) (c ++ d) (w ++ v)
Celled_app cnil k = k
Celled_app (cbare q h) k = cbare q (Celled_app h k)
Celled_app (cback p n h) k = cback p n (Celled_app h k)
Celled_app (cpipe h) k = cpipe (Celled_app h k)

-- a written text as a cell
pub record InCell (e w : Bytes) : Type 0 where
  pub text : Bytes
  pub celled : Celled e text w

back_cell : (t : Bool) (b : ℕ) (e w : Bytes) → eqb b 124 ≡ t → punctuation b ≡ true → InCell e w → InCell (92 ∷ b ∷ e) (b ∷ w)
back_cell true b e w q p c =
    rw (eqb-true b 124 q) (record { text = 124 ∷ c.text; celled = cpipe c.celled })
back_cell false b e w q p c = record { text = 92 ∷ b ∷ c.text; celled = cback p q c.celled }

pub in_cell_lem : {e w : Bytes} → Esc e w → InCell e w
in_cell_lem enil = record { text = []; celled = cnil }
in_cell_lem (ebare {b} q h) = record { text = b ∷ (in_cell_lem h).text; celled = cbare q (in_cell_lem h).celled }
in_cell_lem (eback {b} {e} {w} p h) = back_cell (eqb b 124) b e w refl p (in_cell_lem h)

-- ---- a cell's inlines

unescape_Celled : {e c w : Bytes} → Celled e c w → unescape false c ≡ w
unfolding unescape reading.bare escaped slashed
unescape_Celled cnil = refl
unescape_Celled (cbare {b} q h) = rw (bare_not b 92 q (unfold bare isin in refl), unescape_Celled h)
unescape_Celled (cback p n h) = rw (p, unescape_Celled h)
unescape_Celled (cpipe h) = rw (unescape_Celled h)

cell_break : {e c w : Bytes} → Celled e c w → starts_with (10 ∷ []) c ≡ false
unfolding starts_with same
cell_break cnil = refl
cell_break (cbare {b} q h) = rw (bare_not b 10 q (unfold bare isin in refl))
cell_break (cback p n h) = refl
cell_break (cpipe h) = refl

cell_hard_break : {e c w : Bytes} → Celled e c w → starts_with (32 ∷ 10 ∷ []) c ≡ false
unfolding starts_with same
cell_hard_break cnil = refl
cell_hard_break (cbare {b} q h) = and_no (eqb b 32) _ (cell_break h)
cell_hard_break (cback p n h) = refl
cell_hard_break (cpipe h) = refl

begins_pipe : (p : ℕ) (c : Bytes) → begins p 124 c ≡ false
unfolding begins begins_by mark isin
begins_pipe p c = refl

anywhere_Celled : {e c w : Bytes} (p : ℕ) → Celled e c w → anywhere begins p false c ≡ false
unfolding anywhere escaped slashed
anywhere_Celled p cnil = refl
anywhere_Celled p (cbare {b} {c = c} q h) =
    rw (begins_bare p b c q (cell_hard_break h), bare_not b 92 q (unfold bare isin in refl)) (anywhere_Celled _ h)
anywhere_Celled p (cback {b} {c = c} k n h) = rw (begins_back p b c k, k) (anywhere_Celled _ h)
anywhere_Celled p (cpipe {c = c} h) = rw (begins_pipe p c) (anywhere_Celled _ h)

pub inline_Celled : {e c w : Bytes} → Celled e c w → inline c ≡ map word (words w)
unfolding inline pieces
inline_Celled h = rw (anywhere_Celled 32 h, unescape_Celled h)

-- ---- a cell between blanks

unfoldable pub padded : Bytes → Bytes
padded c = 32 ∷ (c ++ (32 ∷ []))

pub blank_bare : bare 32 ≡ true
unfolding bare isin
blank_bare = refl

pub padded_Celled : {e c w : Bytes} → Celled e c w → Celled (padded e) (padded c) (padded w)
unfolding padded
padded_Celled h = cbare blank_bare (Celled_app h (cbare blank_bare cnil))

parts_padded : (ws : List Bytes) → plain_words ws ≡ true → parts white (blanked ws ++ (32 ∷ [])) ≡ ([], ws ++ ([] ∷ []))
unfolding blanked parts plain_words cut_at white isin
parts_padded [] h = refl
parts_padded (w ∷ ws) h =
    rw (
      append_assoc w (blanked ws) (32 ∷ []),
      parts_word w (blanked ws ++ (32 ∷ [])) (plain_bytes w (and_l (plain_word w) _ h)),
      parts_padded ws (and_r (plain_word w) _ h),
      append-nil w,
    )

filled_padded : (ws : List Bytes) → plain_words ws ≡ true → filled (ws ++ ([] ∷ [])) ≡ ws
unfolding filled plain_words plain_word null
filled_padded [] h = refl
filled_padded (w ∷ ws) h =
    rw (not-true (null w) (and_l (not (null w)) _ (and_l (plain_word w) _ h)), filled_padded ws (and_r (plain_word w) _ h))

words_padded : (w : Bytes) (ws : List Bytes) → plain_words (w ∷ ws) ≡ true → words (padded (w ++ blanked ws)) ≡ w ∷ ws
unfolding words split padded parts cut_at white isin filled null plain_words
words_padded w ws h =
    rw (
      append_assoc w (blanked ws) (32 ∷ []),
      parts_word w (blanked ws ++ (32 ∷ [])) (plain_bytes w (and_l (plain_word w) _ h)),
      parts_padded ws (and_r (plain_word w) _ h),
      append-nil w,
    )
    (filled_padded (w ∷ ws) h)

-- the words of a cell
pub inline_padded : (w : Bytes) (ws : List Bytes) (c : Bytes) → plain_words (w ∷ ws) ≡ true → Celled (phrase (w ∷ ws)) c (w ++ blanked ws)
    → inline (padded c) ≡ map word (w ∷ ws)
inline_padded w ws c h k = inline_Celled (padded_Celled k) ∙ ap (map word) (words_padded w ws h)

-- ---- the scan of a row

-- a backslash that is held back
unfoldable pub held : Bool → Bytes → Bytes
held true c = 92 ∷ c
held false c = c

cells_back : (s k : Bool) (b : ℕ) (e c t : Bytes) → eqb b 92 ≡ k → eqb b 124 ≡ false
    → ((s : Bool) → cells s (e ++ (32 ∷ t)) ≡ (held s (c ++ (32 ∷ (cells false t).0)), (cells false t).1))
    → cells s (92 ∷ b ∷ (e ++ (32 ∷ t))) ≡ (held s (92 ∷ b ∷ (c ++ (32 ∷ (cells false t).0))), (cells false t).1)
unfolding cells cell_byte in_cell held
cells_back true true b e c t q n ih = rw (n, q, ih true) (rw (eqb-true b 92 q))
cells_back true false b e c t q n ih = rw (n, q, ih false)
cells_back false true b e c t q n ih = rw (n, q, ih true) (rw (eqb-true b 92 q))
cells_back false false b e c t q n ih = rw (n, q, ih false)

-- a cell with a blank behind it, whatever follows
cells_cell : {e c w : Bytes} (s : Bool) (t : Bytes) → Celled e c w
    → cells s (e ++ (32 ∷ t)) ≡ (held s (c ++ (32 ∷ (cells false t).0)), (cells false t).1)
unfolding cells cell_byte in_cell held
cells_cell true t cnil = refl
cells_cell false t cnil = refl
cells_cell true t (cbare {b} q h) =
    rw (bare_not b 124 q (unfold bare isin in refl), bare_not b 92 q (unfold bare isin in refl), cells_cell false t h)
cells_cell false t (cbare {b} q h) =
    rw (bare_not b 124 q (unfold bare isin in refl), bare_not b 92 q (unfold bare isin in refl), cells_cell false t h)
cells_cell s t (cback {b} {e} {c} p n h) = cells_back s (eqb b 92) b e c t refl n (λ s. cells_cell s t h)
cells_cell true t (cpipe h) = rw (cells_cell false t h)
cells_cell false t (cpipe h) = rw (cells_cell false t h)

-- ---- rows

-- the cells of a row, written and read
pub data Rowed : List Bytes → List Bytes → Type 0 where
  rnil : Rowed [] []
  rcons : {e c w : Bytes} {es cs : List Bytes} → Celled e c w → Rowed es cs → Rowed (e ∷ es) (c ∷ cs)

unfoldable pub padded_all : List Bytes → List Bytes
padded_all [] = []
padded_all (c ∷ cs) = padded c ∷ padded_all cs

unfoldable pub whole : Cells → List Bytes
whole p = p.0 ∷ p.1

tail_cells : {es cs : List Bytes} → Rowed es cs → whole (cells false (row_tail es)) ≡ padded_all cs ++ ([] ∷ [])
unfolding whole cells row_tail padded_all padded cell_byte in_cell held
tail_cells rnil = refl
tail_cells (rcons {e} {c} {es = es} h k) =
    rw (cells_cell false (124 ∷ row_tail es) h) (ap (λ (l : List Bytes). (32 ∷ (c ++ (32 ∷ []))) ∷ l) (tail_cells k))

pub untrailed_all : (cs : List Bytes) → untrailed (padded_all cs ++ ([] ∷ [])) ≡ padded_all cs
unfolding untrailed padded_all null blank_cell every
untrailed_all [] = refl
untrailed_all (c ∷ []) = refl
untrailed_all (c ∷ d ∷ cs) = ap (λ (l : List Bytes). padded c ∷ l) (untrailed_all (d ∷ cs))

-- the cells of a row part where they were joined
pub row_cells : {es cs : List Bytes} → Rowed es cs → row (row_line es) ≡ padded_all cs
unfolding row row_line row_by piped whole
row_cells {cs = cs} h = ap untrailed (tail_cells h) ∙ untrailed_all cs

pub length_rowed : {es cs : List Bytes} → Rowed es cs → length (padded_all cs) ≡ length es
unfolding padded_all
length_rowed rnil = refl
length_rowed (rcons h k) = ap suc (length_rowed k)

pub fit_all : (cs : List Bytes) → fit (length cs) cs ≡ cs
unfolding fit
fit_all [] = refl
fit_all (c ∷ cs) = ap (λ (l : List Bytes). c ∷ l) (fit_all cs)

-- ---- the delimiter row

dash_bare : bare 45 ≡ true
unfolding bare isin
dash_bare = refl

dashes_Celled : (k : ℕ) → Celled (replicate k 45) (replicate k 45) (replicate k 45)
dashes_Celled zero = cnil
dashes_Celled (suc k) = cbare dash_bare (dashes_Celled k)

drop_dashes : (k : ℕ) (t : Bytes) → drop_run 45 (replicate k 45 ++ (32 ∷ t)) ≡ 32 ∷ t
unfolding drop_run
drop_dashes zero t = refl
drop_dashes (suc k) t = drop_dashes k t

delimiter_padded : (k : ℕ) → delimiter_cell (padded (replicate (suc k) 45)) ≡ true
unfolding delimiter_cell padded drop_while cell_blank isin drop_colon hyphens head_is drop_run blank_cell every
delimiter_padded k = rw (drop_dashes k [])

one_at_least : (n : ℕ) → max n 1 ≡ suc (n - 1)
one_at_least n = omega arith

delimiter_hyphens : (c : Bytes) → delimiter_cell (padded (closed.hyphens c)) ≡ true
unfolding closed.hyphens
delimiter_hyphens c = rw (one_at_least (length c)) (delimiter_padded (length c - 1))

pub hyphens_rowed : (hs : List Bytes) → Rowed (map closed.hyphens hs) (map closed.hyphens hs)
unfolding closed.hyphens
hyphens_rowed [] = rnil
hyphens_rowed (c ∷ hs) = rcons (dashes_Celled (max (length c) 1)) (hyphens_rowed hs)

delimiter_all : (hs : List Bytes) → delimiter_cells (padded_all (map closed.hyphens hs)) ≡ true
unfolding delimiter_cells padded_all
delimiter_all [] = refl
delimiter_all (c ∷ hs) = rw (delimiter_hyphens c) (delimiter_all hs)

-- the row of hyphens is a delimiter row
pub delimiter_row_lem : (h : Bytes) (hs : List Bytes) → delimiter_row (row (row_line (map closed.hyphens (h ∷ hs)))) ≡ true
unfolding delimiter_row
delimiter_row_lem h hs = rw (row_cells (hyphens_rowed (h ∷ hs))) (unfold padded_all null in delimiter_all (h ∷ hs))
