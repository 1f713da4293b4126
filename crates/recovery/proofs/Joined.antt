-- Lines joined by LF: the reading's `lines` gives them back, and empty lines before the first block change nothing.
use Rattle.std.specs.Prelude.{ℕ, ◌≡◌, refl, Bool, true, false, cond, not, ◌&&◌, List, [], ◌∷◌, ◌++◌, eqb}
use Rattle.std.proofs.Common.{append-nil}
use Rattle.std.proofs.lemmas.Bool.{not-true}
use Rattle.spec.specs.Bytes.{Bytes, ascii, null, isin, every, join_rest, join}
use Rattle.spec.specs.Tree.{Forest}
use Rattle.spec.specs.Reading.Lines.{safe_byte, safe, ends_line, line_byte, cut_lines, without_last, lines, blank_line}
use Rattle.spec.specs.Reading.Held.{State, state, no_leaf, closed, is_raw, is_fresh}
use Rattle.spec.specs.Reading.Step.{blank_step, leaf_step, step_by, step}
use Rattle.spec.specs.Reading.{read_lines, finish, read}
use Rattle.spec.proofs.Tests.{and_l, and_r, apart}
use Rattle.recovery.specs.Closed.{from_first, sheet_lines, closed_form}

-- ---- lines

-- a byte that stands in a line
unfoldable pub in_line : ℕ → Bool
in_line b = not (isin b (0 ∷ 10 ∷ 13 ∷ []))

unfoldable pub clean : List Bytes → Bool
clean [] = true
clean (l ∷ ls) = every in_line l && clean ls

pub clean_app : (a b : List Bytes) → clean a ≡ true → clean b ≡ true → clean (a ++ b) ≡ true
unfolding clean
clean_app [] b p h = h
clean_app (x ∷ a) b p h = rw (and_l (every in_line x) _ p) (clean_app a b (and_r (every in_line x) _ p) h)

-- the last line holds something
unfoldable pub last_some : List Bytes → Bool
last_some [] = true
last_some (l ∷ ls) = cond (null ls) (not (null l)) (last_some ls)

in_line_lem : (b x : ℕ) → in_line b ≡ true → in_line x ≡ false → eqb b x ≡ false
in_line_lem b x h n = apart in_line b x h n

-- ---- no NUL

pub safe_line : (l r : Bytes) → every in_line l ≡ true → safe (l ++ r) ≡ l ++ safe r
unfolding every safe safe_byte
safe_line [] r h = refl
safe_line (b ∷ l) r h =
    rw (in_line_lem b 0 (and_l (in_line b) _ h) (unfold in_line isin in refl), safe_line l r (and_r (in_line b) _ h))

safe_rest : (ls : List Bytes) → clean ls ≡ true → safe (join_rest (ascii "\n") ls) ≡ join_rest (ascii "\n") ls
unfolding clean join_rest safe safe_byte
safe_rest [] h = refl
safe_rest (l ∷ ls) h =
    rw (safe_line l (join_rest (ascii "\n") ls) (and_l (every in_line l) _ h), safe_rest ls (and_r (every in_line l) _ h))

pub safe_join : (ls : List Bytes) → clean ls ≡ true → safe (join (ascii "\n") ls) ≡ join (ascii "\n") ls
unfolding clean join safe
safe_join [] h = refl
safe_join (l ∷ ls) h =
    rw (safe_line l (join_rest (ascii "\n") ls) (and_l (every in_line l) _ h), safe_rest ls (and_r (every in_line l) _ h))

-- ---- lines part where they were joined

pub cut_line : (l r : Bytes) → every in_line l ≡ true → cut_lines (l ++ r) ≡ (l ++ (cut_lines r).0, (cut_lines r).1)
unfolding every cut_lines ends_line line_byte
cut_line [] r h = refl
cut_line (b ∷ l) r h =
    rw (
      in_line_lem b 10 (and_l (in_line b) _ h) (unfold in_line isin in refl),
      in_line_lem b 13 (and_l (in_line b) _ h) (unfold in_line isin in refl),
      cut_line l r (and_r (in_line b) _ h),
    )

cut_rest : (ls : List Bytes) → clean ls ≡ true → cut_lines (join_rest (ascii "\n") ls) ≡ ([], ls)
unfolding clean join_rest cut_lines ends_line line_byte
cut_rest [] h = refl
cut_rest (l ∷ ls) h =
    rw (
      cut_line l (join_rest (ascii "\n") ls) (and_l (every in_line l) _ h),
      cut_rest ls (and_r (every in_line l) _ h),
      append-nil l,
    )

last_same : (ls : List Bytes) → last_some ls ≡ true → without_last ls ≡ ls
unfolding last_some without_last null
last_same [] h = refl
last_same (l ∷ []) h = rw (not-true (null l) h)
last_same (l ∷ m ∷ ls) h = rw (last_same (m ∷ ls) h)

pub lines_join : (ls : List Bytes) → clean ls ≡ true → last_some ls ≡ true → lines (join (ascii "\n") ls) ≡ ls
unfolding clean lines join cut_lines without_last null
lines_join [] h k = refl
lines_join (l ∷ ls) h k =
    rw (
      cut_line l (join_rest (ascii "\n") ls) (and_l (every in_line l) _ h),
      cut_rest ls (and_r (every in_line l) _ h),
      append-nil l,
    )
    (last_same (l ∷ ls) k)

-- ---- the lines of the closed form

from_clean : (ls : List Bytes) → clean ls ≡ true → clean (from_first ls) ≡ true
unfolding clean from_first
from_clean [] h = refl
from_clean (l ∷ ls) h = go (null l) (from_clean ls (and_r (every in_line l) _ h))
  where
    go : (t : Bool) → clean (from_first ls) ≡ true → clean (cond t (from_first ls) (l ∷ ls)) ≡ true
    go true ih = ih
    go false ih = h

from_some : (ls : List Bytes) → last_some ls ≡ true → last_some (from_first ls) ≡ true
unfolding last_some from_first null
from_some [] h = refl
from_some (l ∷ []) h = rw (not-true (null l) h) h
from_some (l ∷ m ∷ ls) h = go (null l) (from_some (m ∷ ls) h)
  where
    go : (t : Bool) → last_some (from_first (m ∷ ls)) ≡ true → last_some (cond t (from_first (m ∷ ls)) (l ∷ m ∷ ls)) ≡ true
    go true ih = ih
    go false ih = h

-- empty lines before any block
abbrev pub begun : State
begun = state [] [] no_leaf

read_from : (ls : List Bytes) → read_lines begun (from_first ls) ≡ read_lines begun ls
unfolding from_first read_lines null step step_by leaf_step blank_step closed is_raw is_fresh blank_line every
read_from [] = refl
read_from ([] ∷ ls) = read_from ls
read_from ((b ∷ l) ∷ ls) = refl

-- the reading of the closed form goes through the sheet's lines
pub read_closed : (tree : Forest) → clean (sheet_lines tree) ≡ true → last_some (sheet_lines tree) ≡ true
    → read (closed_form tree) ≡ finish (read_lines begun (sheet_lines tree))
unfolding read closed_form
read_closed tree h k =
    rw (
      safe_join (from_first (sheet_lines tree)) (from_clean (sheet_lines tree) h),
      lines_join (from_first (sheet_lines tree)) (from_clean (sheet_lines tree) h) (from_some (sheet_lines tree) k),
      read_from (sheet_lines tree),
    )
