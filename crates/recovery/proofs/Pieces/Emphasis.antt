-- The marks of emphasis: beside which characters they are delimiters by the flanking rules.
use Rattle.std.specs.Prelude.{ℕ, zero, suc, ◌≡◌, Bool, cond, not, ◌&&◌, eqb, leb, drop, replicate}
use Rattle.std.proofs.Common.{arith, sym, ap, ◌∙◌, true≢false, leb-true}
use Rattle.std.proofs.Math.Path.{refl}
use Rattle.std.proofs.Math.Bool.{true, false, and-true, and-false}
use mathlib.Core.List.{[], ◌∷◌, ◌++◌, append-nil, append_assoc}
use Rattle.std.proofs.lemmas.Bool.{lt-leb}
use Rattle.spec.specs.Bytes.{Bytes, ascii, null, isin, white, starts_with, ends_with}
use Rattle.spec.specs.Out.{keep, push, and_then, beside}
use Rattle.spec.specs.Md.Elements.Emphasis.{ends_with_emphasis, drop_end, try_trim_prev_emphasis_marker, closed, push_marked, md_emphasis}
use Rattle.spec.specs.Md.TextUtils.{escape_trailing_bang}
use Rattle.spec.specs.Everything.{everything}
use Rattle.spec.specs.Names as tag
use Rattle.spec.specs.Pieces.Emphasis.{Classes, ends_bare, run_begins, can_open, can_close}
use Rattle.spec.specs.Reading.Lines.{punctuation, drop_run}
use Rattle.spec.specs.Reading.Inline as reading
use Rattle.spec.specs.Reading.Inline.{escaped, slashed, Beside, beside_white, beside_punctuation, beside_text, beside_unknown, is_unknown, left_flanking, may_open}
use Rattle.recovery.proofs.Written.Ends.{last_is, first_is, last_keep, last_replicate, last_not}

-- ---- the flanking rules

-- n asterisks and one more
abbrev pub stars : ℕ → Bytes
stars n = replicate (suc n) 42

run_behind : (n : ℕ) (rest : Bytes) → drop_run 42 (replicate n 42 ++ rest) ≡ drop_run 42 rest
unfolding drop_run
run_behind zero rest = refl
run_behind (suc n) rest = run_behind n rest

pub may_open_lem : (p q : Beside) → may_open 42 p q ≡ left_flanking p q
unfolding may_open
may_open_lem p q = and-true (left_flanking p q)

-- marks can open emphasis just where they are left-flanking, and close it just where they are right-flanking
pub opens_where : (k : Classes) (n : ℕ) (x rest : Bytes)
    → can_open k 42 x (stars n ++ rest) ≡ (run_begins 42 x && left_flanking (k.last x) (k.first (drop_run 42 rest)))
unfolding can_open
opens_where k n x rest = rw (run_behind (suc n) rest, may_open_lem (k.last x) (k.first (drop_run 42 rest)))

pub closes_where : (k : Classes) (n : ℕ) (x rest : Bytes)
    → can_close k 42 x (stars n ++ rest) ≡ (run_begins 42 x && left_flanking (k.first (drop_run 42 rest)) (k.last x))
unfolding can_close
closes_where k n x rest = rw (run_behind (suc n) rest, may_open_lem (k.first (drop_run 42 rest)) (k.last x))

-- ---- what the writer writes

abbrev begun : Bytes → Bytes
begun content = cond (starts_with (ascii " ") content) (drop 1 content) content

-- the emphasis text without one blank at either end. A second one stays: `b` that holds "a " and `i` of a blank is written `**a **`
unfoldable pub body : Bytes → Bytes
body content = cond (ends_with (ascii " ") (begun content)) (drop_end 1 (begun content)) (begun content)

-- the blanks that go before and behind the marks
unfoldable pub blank_before : Bytes → Bytes → Bytes
blank_before content acc = cond (starts_with (ascii " ") content && not (ends_with (ascii " ") acc)) (ascii " ") []

unfoldable pub blank_behind : Bytes → Bytes
blank_behind content = cond (ends_with (ascii " ") (begun content)) (ascii " ") []

closed_is : (m content : Bytes) → closed m content ≡ body content ++ (m ++ blank_behind content)
unfolding closed body blank_behind
closed_is m content = go (ends_with (ascii " ") (begun content))
  where
    go : (t : Bool) → cond t (drop_end 1 (begun content) ++ (m ++ ascii " ")) (begun content ++ m) ≡ cond t (drop_end 1 (begun content)) (begun content) ++ (m ++ cond t (ascii " ") [])
    go true = refl
    go false = ap (λ (r : Bytes). begun content ++ r) (sym (append-nil m))

no_bang : (x : Bytes) (n : ℕ) → ends_with (ascii "!") (x ++ stars n) ≡ false
no_bang x n = last_not [] 33 (x ++ stars n) (last_keep (λ b. eqb b 33) x (stars n) (last_replicate (λ b. eqb b 33) n 42 refl))

bang_kept : (t : Bool) (x : Bytes) (n : ℕ) → (cond t (escape_trailing_bang (x ++ stars n)) (keep (x ++ stars n))).text ≡ x ++ stars n
unfolding escape_trailing_bang keep
bang_kept true x n = rw (no_bang x n)
bang_kept false x n = refl

-- behind no emphasis of the same marks: the text between them
pub marked : (n : ℕ) (content acc : Bytes) → ends_with_emphasis (stars n) acc ≡ false
    → (push_marked (stars n) content acc).text ≡ (acc ++ blank_before content acc) ++ (stars n ++ (body content ++ (stars n ++ blank_behind content)))
unfolding push_marked beside and_then try_trim_prev_emphasis_marker push keep blank_before
marked n content acc h =
    rw (h, bang_kept (starts_with (ascii "[") (closed (stars n) content)) (acc ++ blank_before content acc) n, closed_is (stars n) content)
    (append_assoc (acc ++ blank_before content acc) (stars n) (body content ++ (stars n ++ blank_behind content)))

-- the marks of `strong` and `b`, and of `em` and `i`
pub marks : (md_emphasis tag.strong ≡ stars 1) × (md_emphasis tag.b ≡ stars 1) × (md_emphasis tag.em ≡ stars 0) × (md_emphasis tag.i ≡ stars 0)
unfolding md_emphasis isin
marks = (refl, refl, refl, refl)

-- ---- the marks and their neighbours

unfoldable pub star : ℕ → Bool
star b = eqb b 42

bare_none : (s : Bool) (x : Bytes) → last_is star x ≡ false → ends_bare 42 s x ≡ false
unfolding ends_bare last_is null star
bare_none s [] h = refl
bare_none s (b ∷ []) h = rw h (and-false (not (escaped s b)))
bare_none s (b ∷ c ∷ x) h = bare_none (slashed s b) (c ∷ x) h

begins_behind : (x : Bytes) → last_is star x ≡ false → run_begins 42 x ≡ true
unfolding run_begins
begins_behind x h = rw (bare_none false x h)

run_none : (s r : Bytes) → first_is star s ≡ false → drop_run 42 (s ++ r) ≡ s ++ r
unfolding first_is drop_run star
run_none [] r h = absurd (true≢false h)
run_none (b ∷ s) r h = rw h

-- The marks around s, behind x and before y. The first opens emphasis just where s begins with no white space, and not with
-- punctuation behind a character that is neither; the other closes it just where s ends so
pub record Delimiters (k : Classes) (n : ℕ) (x s y : Bytes) : Type 0 where
  pub opens : can_open k 42 x (stars n ++ (s ++ (stars n ++ y))) ≡ left_flanking (k.last x) (k.first (s ++ (stars n ++ y)))
  pub closes : can_close k 42 (x ++ (stars n ++ s)) (stars n ++ y) ≡ left_flanking (k.first (drop_run 42 y)) (k.last (x ++ (stars n ++ s)))

pub delimiters : (k : Classes) (n : ℕ) (x s y : Bytes) → run_begins 42 x ≡ true → first_is star s ≡ false → last_is star s ≡ false → Delimiters k n x s y
delimiters k n x s y b f l =
    record {
      opens = opens_where k n x (s ++ (stars n ++ y)) ∙ rw (b, run_none s (stars n ++ y) f);
      closes = closes_where k n (x ++ (stars n ++ s)) y ∙ rw (begins_behind (x ++ (stars n ++ s)) (last_keep star x (stars n ++ s) (last_keep star (stars n) s l)));
    }

-- beside ASCII the class is that of the byte
pub opens_ascii : (k : Classes) (n : ℕ) (x : Bytes) (b : ℕ) (s : Bytes) → run_begins 42 x ≡ true → star b ≡ false → leb b 127 ≡ true
    → can_open k 42 x (stars n ++ (b ∷ s)) ≡ left_flanking (k.last x) (reading.beside b)
unfolding star
opens_ascii k n x b s r h a = opens_where k n x (b ∷ s) ∙ unfold drop_run in rw (r, h, k.first_ascii b s a)

pub closes_ascii : (k : Classes) (n : ℕ) (x : Bytes) (b : ℕ) (y : Bytes) → star b ≡ false → leb b 127 ≡ true
    → can_close k 42 (x ++ (b ∷ [])) (stars n ++ y) ≡ left_flanking (k.first (drop_run 42 y)) (reading.beside b)
closes_ascii k n x b y h a =
    closes_where k n (x ++ (b ∷ [])) y
    ∙ rw (begins_behind (x ++ (b ∷ [])) (last_keep star x (b ∷ []) (unfold last_is null in h)), k.last_ascii x b a)

-- what the writer writes, before any text y: marks whose neighbours are the ends of the text between them and what stands around
pub emphasis_read : (k : Classes) (n : ℕ) (content acc y : Bytes) → ends_with_emphasis (stars n) acc ≡ false
    → run_begins 42 (acc ++ blank_before content acc) ≡ true
    → first_is star (body content) ≡ false
    → last_is star (body content) ≡ false
    → ((push_marked (stars n) content acc).text ++ y
    ≡ (acc ++ blank_before content acc) ++ (stars n ++ (body content ++ (stars n ++ (blank_behind content ++ y)))))
    × Delimiters k n (acc ++ blank_before content acc) (body content) (blank_behind content ++ y)
emphasis_read k n content acc y h b f l = (
  rw (marked n content acc h) (simp append_assoc),
  delimiters k n (acc ++ blank_before content acc) (body content) (blank_behind content ++ y) b f l,
)

-- ---- the exceptions

-- punctuation between letters, however characters outside ASCII are told: the marks neither open nor close
pub none_opens : (k : Classes) → can_open k 42 (ascii "a") (ascii "**!**b") ≡ false
none_opens k =
    opens_ascii k 1 (ascii "a") 33 (ascii "**b") (unfold everything in refl) (unfold star in refl) refl
    ∙ (ap (λ (p : Beside). left_flanking p (reading.beside 33)) (k.last_ascii [] 97 refl) ∙ unfold everything in refl)

pub none_closes : (k : Classes) → can_close k 42 (ascii "a**!") (ascii "**b") ≡ false
none_closes k =
    let b : drop_run 42 (ascii "b") ≡ ascii "b" = unfold drop_run in refl in
    closes_ascii k 1 (ascii "a**") 33 (ascii "b") (unfold star in refl) refl
    ∙ (ap (λ (s : Bytes). left_flanking (k.first s) (reading.beside 33)) b
    ∙ (ap (λ (p : Beside). left_flanking p (reading.beside 33)) (k.first_ascii 98 [] refl) ∙ unfold everything in refl))

pub none_written : (push_marked (stars 1) (ascii "!") (ascii "a")).text ≡ ascii "a**!**"
unfolding everything
none_written = refl

-- ---- there is such a way of telling characters: every character outside ASCII is taken for text

unfoldable pub known : ℕ → Beside
known b = cond (leb 128 b) beside_text (reading.beside b)

unfoldable pub first_of : Bytes → Beside
first_of [] = beside_white
first_of (b ∷ s) = known b

unfoldable pub last_of : Bytes → Beside
last_of [] = beside_white
last_of (b ∷ s) = cond (null s) (known b) (last_of s)

pub known_ascii : (b : ℕ) → leb b 127 ≡ true → known b ≡ reading.beside b
unfolding known
known_ascii b h = rw (lt-leb 128 b (omega (arith, leb-true b 127 h)))

known_known : (b : ℕ) → is_unknown (known b) ≡ false
unfolding known reading.beside
known_known b = go (leb 128 b) (white b) (punctuation b)
  where
    go : (t u v : Bool) → is_unknown (cond t beside_text (cond u beside_white (cond v beside_punctuation (cond t beside_unknown beside_text)))) ≡ false
    go true u v = unfold is_unknown in refl
    go false true v = unfold is_unknown in refl
    go false false true = unfold is_unknown in refl
    go false false false = unfold is_unknown in refl

pub last_ascii : (s : Bytes) (b : ℕ) → leb b 127 ≡ true → last_of (s ++ (b ∷ [])) ≡ reading.beside b
unfolding last_of null
last_ascii [] b h = known_ascii b h
last_ascii (c ∷ []) b h = known_ascii b h
last_ascii (c ∷ d ∷ s) b h = last_ascii (d ∷ s) b h

pub last_known : (s : Bytes) → is_unknown (last_of s) ≡ false
unfolding last_of null
last_known [] = unfold is_unknown in refl
last_known (b ∷ []) = known_known b
last_known (b ∷ c ∷ s) = last_known (c ∷ s)

pub first_known : (s : Bytes) → is_unknown (first_of s) ≡ false
unfolding first_of
first_known [] = unfold is_unknown in refl
first_known (b ∷ s) = known_known b

unfoldable pub ascii_classes : Classes
unfolding first_of last_of
ascii_classes =
    record {
      first = first_of;
      last = last_of;
      first_none = refl;
      last_none = refl;
      first_ascii = λ b s h. known_ascii b h;
      last_ascii = last_ascii;
      first_known = first_known;
      last_known = last_known;
    }
