-- Line breaks at the end of a text, and the trim of both ends of the whole text.
use Rattle.std.specs.Prelude.{ℕ, zero, suc, ◌≡◌, Bool, true, false, cond, [], ◌∷◌, ◌++◌, eqb, length, replicate}
use Rattle.std.proofs.Math.Path.{refl}
use Rattle.std.proofs.Common.{sym, ap, ◌∙◌, append_assoc}
use Rattle.spec.specs.Bytes.{Bytes, ascii, null, same, every, ends_with, white, blank, isin, one, unless, trim_end_matches, trim_start_matches, trim_ascii_end, trim_ascii_start}
use Rattle.spec.specs.Out.{cut, keep, push, and_then}
use Rattle.spec.specs.Md.TextUtils.{trim_blanks, trim_trailing_space, breaks_until, add_linebreaks, trim_space}
use Rattle.spec.proofs.Tests.{or_l, or_r, every_imp, eqb_yes}
use Rattle.recovery.proofs.Written.Ends.{last_is, first_is, last_keep, last_imp, Snoc, snoc, trim_fix, trim_none, trim_cut, start_cut, ends_by, last_not}

-- ---- what a text ends with

-- n line ends
unfoldable pub lfs : ℕ → Bytes
lfs n = replicate n 10

-- a line end, or two where lines do not stand close
unfoldable pub sep : Bool → Bytes
sep tight = cond tight (ascii "\n") (ascii "\n\n")

black_lf : (b : ℕ) → white b ≡ false → eqb b 10 ≡ false
unfolding white isin
black_lf b h = or_l (eqb b 10) _ (or_r (eqb b 9) _ h)

black_blank : (b : ℕ) → white b ≡ false → blank b ≡ false
unfolding white isin blank
black_blank b h = or_l (eqb b 32) _ (or_r (eqb b 13) _ (or_r (eqb b 12) _ (or_r (eqb b 10) _ (or_r (eqb b 9) _ h))))

pub last_lf : (y : Bytes) → last_is white y ≡ false → last_is (λ b. eqb b 10) y ≡ false
last_lf y h = last_imp white (λ b. eqb b 10) black_lf y h

pub last_blank : (y : Bytes) → last_is white y ≡ false → last_is blank y ≡ false
last_blank y h = last_imp white blank black_blank y h

pub blank_white : (z : Bytes) → every blank z ≡ true → every white z ≡ true
unfolding blank white isin
blank_white z h = every_imp blank white z (λ b k. eqb_yes white b 32 k refl) h

-- the blank that stands for white bytes at a text's end
pub end_blank : (t : Bool) → every blank (cond t (ascii " ") []) ≡ true
unfolding every blank
end_blank true = refl
end_blank false = refl

-- ---- `add_linebreaks`

-- its text, until the text ends with one line end, or with two
unfoldable pub broken : Bool → Bytes → Bytes
broken tight t = (add_linebreaks (ascii "\n") (sep tight) t).text

until_go : (n : ℕ) (end t : Bytes) → ends_with end t ≡ false
    → (breaks_until (suc n) (ascii "\n") end t).text ≡ (breaks_until n (ascii "\n") end (t ++ ascii "\n")).text
unfolding breaks_until and_then push
until_go n end t h = rw h

until_stop : (n : ℕ) (end t : Bytes) → ends_with end t ≡ true → (breaks_until n (ascii "\n") end t).text ≡ t
unfolding breaks_until keep
until_stop zero end t h = refl
until_stop (suc n) end t h = rw h

until_none : (end t : Bytes) → (breaks_until 0 (ascii "\n") end t).text ≡ t
unfolding breaks_until keep
until_none end t = refl

broken_until : (g : Bool) (t : Bytes) → broken g t ≡ (breaks_until (length (sep g)) (ascii "\n") (sep g) (trim_blanks t)).text
unfolding broken add_linebreaks trim_trailing_space and_then cut
broken_until g t = refl

pub ends_one : (y : Bytes) → last_is white y ≡ false → ends_with (ascii "\n\n") (y ++ ascii "\n") ≡ false
ends_one y h =
    let r : Snoc (λ b. eqb b 10) y = snoc (λ b. eqb b 10) y (last_lf y h) in
    rw (r.is, append_assoc r.front (r.byte ∷ []) (ascii "\n"))
    (ends_by (ascii "\n\n") r.front (r.byte ∷ 10 ∷ []) refl ∙ unfold same in rw r.other)

pub ends_two : (y : Bytes) → ends_with (ascii "\n\n") (y ++ ascii "\n\n") ≡ true
ends_two y = ends_by (ascii "\n\n") y (ascii "\n\n") refl ∙ unfold same in refl

-- behind one line end
until_line : (n : ℕ) (y : Bytes) → last_is white y ≡ false → (breaks_until (suc n) (ascii "\n") (ascii "\n\n") (y ++ ascii "\n")).text ≡ y ++ ascii "\n\n"
until_line n y h =
    until_go n (ascii "\n\n") (y ++ ascii "\n") (ends_one y h)
    ∙ (ap (λ (u : Bytes). (breaks_until n (ascii "\n") (ascii "\n\n") u).text) (append_assoc y (ascii "\n") (ascii "\n"))
    ∙ until_stop n (ascii "\n\n") (y ++ ascii "\n\n") (ends_two y))

-- behind a word, and blanks after it
pub broken_word : (g : Bool) (y z : Bytes) → last_is white y ≡ false → every blank z ≡ true → broken g (y ++ z) ≡ y ++ sep g
unfolding sep trim_blanks
broken_word true y z h k =
    broken_until true (y ++ z) ∙ rw (trim_cut blank y z (last_blank y h) k)
    (until_go 0 (ascii "\n") y (last_not [] 10 y (last_lf y h)) ∙ until_none (ascii "\n") (y ++ ascii "\n"))
broken_word false y z h k =
    broken_until false (y ++ z) ∙ rw (trim_cut blank y z (last_blank y h) k)
    (until_go 1 (ascii "\n\n") y (last_not (10 ∷ []) 10 y (last_lf y h)) ∙ until_line 0 y h)

trim_lf : (y z : Bytes) → trim_blanks (y ++ (z ++ ascii "\n")) ≡ y ++ (z ++ ascii "\n")
unfolding trim_blanks
trim_lf y z =
    let l : last_is blank (10 ∷ []) ≡ false = unfold last_is blank null in refl in
    trim_fix blank (y ++ (z ++ ascii "\n")) (last_keep blank y (z ++ ascii "\n") (last_keep blank z (ascii "\n") l))

pub broken_line : (y : Bytes) → last_is white y ≡ false → broken false (y ++ ascii "\n") ≡ y ++ ascii "\n\n"
unfolding sep
broken_line y h = broken_until false (y ++ ascii "\n") ∙ rw (trim_lf y []) (until_line 1 y h)

-- behind two
pub broken_lines : (g : Bool) (y : Bytes) → broken g (y ++ ascii "\n\n") ≡ y ++ ascii "\n\n"
unfolding sep
broken_lines true y = broken_until true (y ++ ascii "\n\n") ∙ rw (trim_lf y (ascii "\n"))
    (until_stop 1 (ascii "\n") (y ++ ascii "\n\n")
    (ap (λ (u : Bytes). ends_with (ascii "\n") u) (sym (append_assoc y (ascii "\n") (ascii "\n"))) ∙ (ends_by (ascii "\n") (y ++ ascii "\n") (ascii "\n") refl ∙ unfold same in refl)))
broken_lines false y =
    broken_until false (y ++ ascii "\n\n") ∙ rw (trim_lf y (ascii "\n")) (until_stop 2 (ascii "\n\n") (y ++ ascii "\n\n") (ends_two y))

-- of line ends alone there are some more
unfoldable pub more_lfs : ℕ → ℕ
more_lfs zero = 2
more_lfs (suc zero) = 2
more_lfs (suc (suc k)) = suc (suc k)

lfs_two : (k : ℕ) → lfs (suc (suc k)) ≡ lfs k ++ ascii "\n\n"
unfolding lfs
lfs_two zero = refl
lfs_two (suc k) = ap (λ (u : Bytes). 10 ∷ u) (lfs_two k)

pub broken_lfs : (k : ℕ) → broken false (lfs k) ≡ lfs (more_lfs k)
unfolding lfs more_lfs unless
broken_lfs zero = unfold broken sep add_linebreaks trim_trailing_space trim_blanks breaks_until and_then cut push keep trim_end_matches ends_with same in refl
broken_lfs (suc zero) = unfold broken sep add_linebreaks trim_trailing_space trim_blanks breaks_until and_then cut push keep trim_end_matches one blank ends_with same in refl
broken_lfs (suc (suc k)) = ap (broken false) (lfs_two k) ∙ (broken_lines false (lfs k) ∙ sym (lfs_two k))

-- ---- both ends of the whole text

-- the text of `trim_space`
unfoldable pub trimmed : Bytes → Bytes
trimmed t = (trim_space t).text

pub lfs_white : (k : ℕ) → every white (lfs k) ≡ true
unfolding lfs every white isin
lfs_white zero = refl
lfs_white (suc k) = lfs_white k

pub trim_core : (k : ℕ) (x z : Bytes) → first_is white x ≡ false → last_is white x ≡ false → every white z ≡ true → trimmed (lfs k ++ (x ++ z)) ≡ x
unfolding trimmed trim_space cut trim_ascii_start trim_ascii_end
trim_core k x z f l w =
    rw (← append_assoc (lfs k) x z, trim_cut white (lfs k ++ x) z (last_keep white (lfs k) x l) w) (start_cut white (lfs k) x (lfs_white k) f)

pub trim_lfs : (k : ℕ) → trimmed (lfs k) ≡ []
unfolding trimmed trim_space cut trim_ascii_start trim_ascii_end trim_start_matches
trim_lfs k = rw (trim_none white (lfs k) (lfs_white k))
