-- Where the writer stands between blocks, and what a block's text makes of that.
use Rattle.std.specs.Prelude.{ℕ, zero, suc, ◌≡◌, Bool, true, false, cond, not, List, [], ◌∷◌, ◌++◌, replicate}
use Rattle.std.proofs.Math.Path.{refl}
use Rattle.std.proofs.Common.{sym, ap, ◌∙◌, subst, true≢false, append-nil, append_assoc}
use Rattle.spec.specs.Bytes.{Bytes, ascii, null, every, white, blank, ends_with, join_rest, join}
use Rattle.recovery.specs.Closed.{from_first}
use Rattle.recovery.proofs.Written.Ends.{last_is, first_is, last_keep, first_app}
use Rattle.recovery.proofs.Written.Breaks.{lfs, sep, more_lfs, broken, broken_word, broken_line, broken_lines, broken_lfs, ends_one, ends_two}
use Rattle.recovery.proofs.Written.Lines.{below, below_join, join_app}
use Rattle.recovery.proofs.Written.Lists.{Room}

-- ---- between blocks

-- the text t between two blocks, or before the first: x is what is written so far, without line ends at either end
pub data After (t x : Bytes) : Type 0 where
  begun : (k : ℕ) → t ≡ lfs k → x ≡ [] → After t x
  behind : (k : ℕ) (g : Bool) → t ≡ lfs k ++ (x ++ sep g) → first_is white x ≡ false → last_is white x ≡ false → After t x

-- the text u where a block begins: y is what is written so far, with the line ends that part it from the block
pub record Opens (u y : Bytes) : Type 0 where
  pub k : ℕ
  pub is : u ≡ lfs k ++ y
  pub room : Room y 0

-- what is written so far, and a gap
unfoldable pub gapped : Bytes → Bytes → Bytes
gapped gap x = cond (null x) [] (x ++ gap)

nil_room : Room [] 0
unfolding last_is null blank
nil_room = record { after = refl; begins = λ r h. h }

gap_room : (x z : Bytes) → first_is white x ≡ false → Room (x ++ (z ++ ascii "\n")) 0
gap_room x z f =
    let l : last_is blank (ascii "\n") ≡ false = unfold last_is blank null in refl in
    record {
      after = last_keep blank (10 ∷ x) (z ++ ascii "\n") (last_keep blank z (ascii "\n") l);
      begins = λ r h. first_app white (x ++ (z ++ ascii "\n")) r (first_app white x (z ++ ascii "\n") f);
    }

gapped_some : (gap x : Bytes) → null x ≡ false → gapped gap x ≡ x ++ gap
unfolding gapped
gapped_some gap x n = rw n

black_some : (x : Bytes) → first_is white x ≡ false → null x ≡ false
unfolding first_is null
black_some [] h = absurd (true≢false h)
black_some (b ∷ x) h = refl

opens_begun : {u : Bytes} (gap x : Bytes) (k : ℕ) → u ≡ lfs k → x ≡ [] → Opens u (gapped gap x)
unfolding gapped null
opens_begun gap x k e n = record { k = k; is = e ∙ (sym (append-nil (lfs k)) ∙ ap (λ (z : Bytes). lfs k ++ gapped gap z) (sym n)); room = subst (λ (z : Bytes). Room (gapped gap z) 0) (sym n) nil_room }

opens_behind : {u : Bytes} (z x : Bytes) (k : ℕ) → u ≡ lfs k ++ (x ++ (z ++ ascii "\n")) → first_is white x ≡ false → Opens u (gapped (z ++ ascii "\n") x)
opens_behind z x k e f =
    let g : gapped (z ++ ascii "\n") x ≡ x ++ (z ++ ascii "\n") = gapped_some (z ++ ascii "\n") x (black_some x f) in
    record { k = k; is = e ∙ ap (λ (y : Bytes). lfs k ++ y) (sym g); room = subst (λ (y : Bytes). Room y 0) (sym g) (gap_room x z f) }

-- ---- the break before a block

broken_sep : (g : Bool) (y : Bytes) → last_is white y ≡ false → broken false (y ++ sep g) ≡ y ++ ascii "\n\n"
unfolding sep
broken_sep true y h = broken_line y h
broken_sep false y h = broken_lines false y

broken_behind : (k : ℕ) (g : Bool) (x : Bytes) → last_is white x ≡ false → broken false (lfs k ++ (x ++ sep g)) ≡ lfs k ++ (x ++ ascii "\n\n")
broken_behind k g x l =
    ap (broken false) (sym (append_assoc (lfs k) x (sep g))) ∙ (broken_sep g (lfs k ++ x) (last_keep white (lfs k) x l) ∙ append_assoc (lfs k) x (ascii "\n\n"))

-- one blank line before most blocks
pub block_opens : {t x : Bytes} → After t x → Opens (broken false t) (gapped (ascii "\n\n") x)
block_opens {t} {x} (begun k e n) = opens_begun (ascii "\n\n") x (more_lfs k) (ap (broken false) e ∙ broken_lfs k) n
block_opens {t} {x} (behind k g e f l) = opens_behind (ascii "\n") x k (ap (broken false) e ∙ broken_behind k g x l) f

-- that break leaves everything else as it was
pub broken_after : {t x : Bytes} → After t x → After (broken false t) x
unfolding sep
broken_after {t} {x} (begun k e n) = begun (more_lfs k) (ap (broken false) e ∙ broken_lfs k) n
broken_after {t} {x} (behind k g e f l) = behind k false (ap (broken false) e ∙ broken_behind k g x l) f l

lfs_more : (k : ℕ) → lfs k ++ ascii "\n" ≡ lfs (suc k)
unfolding lfs
lfs_more zero = refl
lfs_more (suc k) = ap (λ (y : Bytes). 10 ∷ y) (lfs_more k)

-- a block begins a line
pub record LineEnd (u : Bytes) : Type 0 where
  pub front : Bytes
  pub is : u ≡ front ++ ascii "\n"

lfs_end : (k : ℕ) → LineEnd (lfs (more_lfs k))
unfolding more_lfs lfs
lfs_end zero = record { front = ascii "\n"; is = refl }
lfs_end (suc zero) = record { front = ascii "\n"; is = refl }
lfs_end (suc (suc k)) = record { front = lfs (suc k); is = sym (lfs_more (suc k)) }

pub line_end : {t x : Bytes} → After t x → LineEnd (broken false t)
line_end {t} {x} (begun k e n) = subst LineEnd (sym (ap (broken false) e ∙ broken_lfs k)) (lfs_end k)
line_end {t} {x} (behind k g e f l) =
    record { front = lfs k ++ (x ++ ascii "\n"); is = ap (broken false) e ∙ (broken_behind k g x l ∙ simp append_assoc) }

-- two before a table
pub table_opens : {t x : Bytes} → After t x → Opens (broken false t ++ ascii "\n") (gapped (ascii "\n\n\n") x)
table_opens {t} {x} (begun k e n) =
    opens_begun (ascii "\n\n\n") x (suc (more_lfs k)) (ap (λ (y : Bytes). y ++ ascii "\n") (ap (broken false) e ∙ broken_lfs k) ∙ lfs_more (more_lfs k)) n
table_opens {t} {x} (behind k g e f l) =
    opens_behind (ascii "\n\n") x k (ap (λ (y : Bytes). y ++ ascii "\n") (ap (broken false) e ∙ broken_behind k g x l) ∙ simp append_assoc) f

-- one before a fence, which adds at most one line end
unfoldable pub fence_break : Bytes → Bytes
fence_break t = cond (ends_with (ascii "\n\n") t) [] (ascii "\n")

fence_sep : (g : Bool) (y : Bytes) → last_is white y ≡ false → (y ++ sep g) ++ fence_break (y ++ sep g) ≡ y ++ ascii "\n\n"
unfolding sep fence_break
fence_sep true y h = rw (ends_one y h) (append_assoc y (ascii "\n") (ascii "\n"))
fence_sep false y h = rw (ends_two y, append-nil (y ++ ascii "\n\n"))

fence_lfs : (t : Bool) (k : ℕ) → lfs k ++ cond t [] (ascii "\n") ≡ lfs (cond t k (suc k))
fence_lfs true k = append-nil (lfs k)
fence_lfs false k = lfs_more k

pub fence_opens : {t x : Bytes} → After t x → Opens (t ++ fence_break t) (gapped (ascii "\n\n") x)
fence_opens {t} {x} (begun k e n) =
    opens_begun (ascii "\n\n") x (cond (ends_with (ascii "\n\n") (lfs k)) k (suc k)) (ap (λ (y : Bytes). y ++ fence_break y) e ∙ (unfold fence_break in fence_lfs (ends_with (ascii "\n\n") (lfs k)) k)) n
fence_opens {t} {x} (behind k g e f l) =
    opens_behind (ascii "\n") x k
    (ap (λ (y : Bytes). y ++ fence_break y) (e ∙ sym (append_assoc (lfs k) x (sep g))) ∙ (fence_sep g (lfs k ++ x) (last_keep white (lfs k) x l) ∙ append_assoc (lfs k) x (ascii "\n\n"))) f

-- ---- a block

-- its text c, with blanks behind it, and then the break behind the block
pub words_after : {u y : Bytes} (c z : Bytes) → first_is white c ≡ false → last_is white c ≡ false → every blank z ≡ true → Opens u y → After (broken false (u ++ (c ++ z))) (y ++ c)
words_after {u} {y} c z f l w o =
    behind o.k false
    (ap (broken false) (sym (append_assoc u c z) ∙ ap (λ (v : Bytes). (v ++ c) ++ z) o.is)
    ∙ (broken_word false ((lfs o.k ++ y) ++ c) z (last_keep white (lfs o.k ++ y) c l) w ∙ simp append_assoc))
    (o.room.begins c f) (last_keep white y c l)

-- its text, with one line end or two
pub lines_after : {u y : Bytes} (c : Bytes) (g : Bool) → first_is white c ≡ false → last_is white c ≡ false → Opens u y → After (u ++ (c ++ sep g)) (y ++ c)
lines_after {u} {y} c g f l o =
    behind o.k g (ap (λ (v : Bytes). v ++ (c ++ sep g)) o.is ∙ simp append_assoc) (o.room.begins c f) (last_keep white y c l)

-- ---- the lines so far

-- the lines of the sheet as a text, from the first that is not empty on
unfoldable pub joined : List Bytes → Bytes
joined ls = join (ascii "\n") (from_first ls)

from_app : (a b : List Bytes) → from_first (a ++ b) ≡ cond (null (from_first a)) (from_first b) (from_first a ++ b)
unfolding from_first null
from_app [] b = refl
from_app (l ∷ a) b = go (null l) (from_app a b)
  where
    go : (t : Bool) → from_first (a ++ b) ≡ cond (null (from_first a)) (from_first b) (from_first a ++ b)
        → cond t (from_first (a ++ b)) (l ∷ (a ++ b)) ≡ cond (null (cond t (from_first a) (l ∷ a))) (from_first b) (cond t (from_first a) (l ∷ a) ++ b)
    go true ih = ih
    go false ih = refl

joined_null : (ls : List Bytes) → null (joined ls) ≡ null (from_first ls)
unfolding joined from_first null join
joined_null [] = refl
joined_null ([] ∷ ls) = joined_null ls
joined_null ((b ∷ l) ∷ ls) = refl

-- the first of the lines is not empty
unfoldable pub first_some : List Bytes → Bool
first_some [] = false
first_some (l ∷ ls) = not (null l)

from_filled : (ls : List Bytes) → first_some ls ≡ true → from_first ls ≡ ls
unfolding first_some from_first null
from_filled [] h = absurd (true≢false (sym h))
from_filled ([] ∷ ls) h = absurd (true≢false (sym h))
from_filled ((b ∷ l) ∷ ls) h = refl

first_filled : (ls : List Bytes) → first_some ls ≡ true → null ls ≡ false
unfolding first_some null
first_filled [] h = absurd (true≢false (sym h))
first_filled (l ∷ ls) h = refl

-- n empty lines
unfoldable pub empties : ℕ → List Bytes
empties n = replicate n []

below_empties : (n : ℕ) (ls : List Bytes) → first_some ls ≡ true → below (empties n ++ ls) ≡ lfs (suc n) ++ join (ascii "\n") ls
unfolding empties join_rest lfs
below_empties zero ls h = below_join ls (first_filled ls h)
below_empties (suc n) ls h = ap (λ (y : Bytes). 10 ∷ y) (below_empties n ls h)

from_empties : (n : ℕ) (ls : List Bytes) → first_some ls ≡ true → from_first (empties n ++ ls) ≡ ls
unfolding empties from_first null
from_empties zero ls h = from_filled ls h
from_empties (suc n) ls h = from_empties n ls h

-- a block's lines behind n empty ones
pub joined_gap : (before : List Bytes) (n : ℕ) (ls : List Bytes) → first_some ls ≡ true
    → joined (before ++ (empties n ++ ls)) ≡ gapped (lfs (suc n)) (joined before) ++ join (ascii "\n") ls
unfolding joined gapped
joined_gap before n ls h =
    rw (from_app before (empties n ++ ls), from_empties n ls h, joined_null before) (go (null (from_first before)) refl)
  where
    go : (t : Bool) → null (from_first before) ≡ t
        → join (ascii "\n") (cond t ls (from_first before ++ (empties n ++ ls)))
        ≡ cond t [] (join (ascii "\n") (from_first before) ++ lfs (suc n)) ++ join (ascii "\n") ls
    go true e = refl
    go false e =
        join_app (from_first before) (empties n ++ ls) e
        ∙ (ap (λ (y : Bytes). join (ascii "\n") (from_first before) ++ y) (below_empties n ls h)
        ∙ sym (append_assoc (join (ascii "\n") (from_first before)) (lfs (suc n)) (join (ascii "\n") ls)))
