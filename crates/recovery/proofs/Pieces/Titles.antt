-- Link titles: what `push_title` appends is one, and means the title's words.
use Rattle.std.specs.Prelude.{ℕ, ◌≡◌, Bool, cond, ◌&&◌, List, [], ◌∷◌, ◌++◌, eqb}
use Rattle.std.proofs.Math.Path.{refl}
use Rattle.std.proofs.Common.{sym, ap, ◌∙◌, append-nil}
use Rattle.std.proofs.Math.Bool.{true, false, not}
use Rattle.std.proofs.lemmas.Bool.{false≢true, not-true}
use Rattle.std.proofs.Math.Option.{none}
use Rattle.spec.specs.Bytes.{Bytes, ascii, null, isin, every, white, is_blank, words}
use Rattle.spec.specs.Md.TextUtils.{escaped_chunk, starts_with_white, ends_with_white, more_words, quote_escaped, each_byte}
use Rattle.spec.specs.Reading.Lines.{punctuation, space_or_tab, head_is, safe, ends_line, line_byte, cut_lines, without_last, lines, blank_line}
use Rattle.spec.specs.Pieces.Links.{References, enclosed, enclosed_by, no_blank_line, link_title, title_meaning}
use Rattle.recovery.proofs.Tables.{punctuation_line as punctuation-in-line}
use Rattle.spec.proofs.Tests.{and_l, and_r, apart, isin_no, every_app, every_byte, every_both}
use Rattle.recovery.proofs.Words.{blanked, all_of, words_all, absent}
use Rattle.recovery.proofs.Pieces.Attributes.{each_app}
use Rattle.recovery.proofs.Pieces.Meanings.{literal, means}
use Rattle.recovery.proofs.Pieces.CodeSpans.{inner_same, unbreaking}
use Rattle.recovery.proofs.Joined.{in_line, safe_line}
use Rattle.recovery.proofs.Pieces.Slashed.{Slashed, snil, slit, sback, Slashed_app, slashed_means, slashed_bare, slashed_enclosed, slashed_every, Quoted, chunk_slashed, more_slashed, blank_slashed}

-- ---- the words of a title

-- the words as the writer escapes them, where the first is escaped as at the beginning of a line or not
unfoldable pub title_words : Bool → Bytes → List Bytes → Bytes
title_words start title [] = []
title_words start title (w ∷ ws) =
    cond (not start && starts_with_white title) (ascii " ") []
    ++ (escaped_chunk w true start ++ (more_words true ws ++ cond (ends_with_white title) (ascii " ") []))

-- and as they are
unfoldable pub seen_words : Bool → Bytes → List Bytes → Bytes
seen_words start title [] = []
seen_words start title (w ∷ ws) =
    cond (not start && starts_with_white title) (ascii " ") [] ++ (w ++ (blanked ws ++ cond (ends_with_white title) (ascii " ") []))

words_slashed : (q r : ℕ → Bool) (f : ℕ → Bytes) → Quoted q r f → (start : Bool) (title : Bytes) (ws : List Bytes) → all_of r ws ≡ true
    → Slashed q (each_byte f (title_words start title ws)) (seen_words start title ws)
unfolding title_words seen_words all_of
words_slashed q r f c start title [] h = unfold each_byte in snil
words_slashed q r f c start title (w ∷ ws) h =
    rw (
      each_app f (cond (not start && starts_with_white title) (ascii " ") []) _,
      each_app f (escaped_chunk w true start) _,
      each_app f (more_words true ws) _,
    )
    (Slashed_app (blank_slashed q r f c (not start && starts_with_white title))
    (Slashed_app (chunk_slashed q r f c start w (and_l (every r w) _ h))
    (Slashed_app (more_slashed q r f c ws (and_r (every r w) _ h)) (blank_slashed q r f c (ends_with_white title)))))

-- ---- the title

-- a byte of a title that stands for itself: no line end, no quotation mark, no backslash
unfoldable titled : ℕ → Bool
titled b = not (isin b (10 ∷ 13 ∷ 34 ∷ 92 ∷ []))

titled_plain : (b : ℕ) → white b ≡ false → eqb b 92 ≡ false → eqb b 34 ≡ false → titled b ≡ true
unfolding titled isin
titled_plain b h m n =
    rw (
      apart (λ c. not (white c)) b 10 (ap not h) (unfold white isin in refl),
      apart (λ c. not (white c)) b 13 (ap not h) (unfold white isin in refl),
      m,
      n,
    )

-- the classes of a title's words, and of their bytes that stand for themselves
abbrev word_byte : (ℕ → Bool) → ℕ → Bool
word_byte p b = not (white b) && p b

abbrev standing : (ℕ → Bool) → ℕ → Bool
standing p b = titled b && p b

quoted_escaped : (p : ℕ → Bool) → p 32 ≡ true → Quoted (standing p) (word_byte p) quote_escaped
quoted_escaped p k =
    record {
      same = λ b e. unfold quote_escaped in rw e;
      quote = λ h. unfold quote_escaped punctuation in sback refl snil;
      plain = λ b h m n. rw (titled_plain b (not-true (white b) (and_l (not (white b)) _ h)) m n) (and_r (not (white b)) _ h);
      blank = unfold titled isin in k;
    }

quoted_bare : (p : ℕ → Bool) → p 32 ≡ true → Quoted (standing p) (word_byte (λ b. p b && not (eqb b 34))) (λ b. b ∷ [])
quoted_bare p k =
    record {
      same = λ b e. refl;
      quote = λ h. absurd (false≢true (and_r (p 34) false (and_r (not (white 34)) _ h)));
      plain = λ b h m n.
          rw (titled_plain b (not-true (white b) (and_l (not (white b)) _ h)) m n) (and_l (p b) _ (and_r (not (white b)) _ h));
      blank = unfold titled isin in k;
    }

-- what stands between the quotation marks
unfoldable pub title_body : Bytes → Bytes
title_body title =
    cond (isin 34 title) (each_byte quote_escaped (title_words true title (words title)))
    (cond (not (null title) && is_blank title) (ascii " ") (title_words false title (words title)))

-- the words of a title with one blank between them, and one for white bytes at either end; not at the beginning of a title that
-- holds a quotation mark
unfoldable pub seen_title : Bytes → Bytes
seen_title title =
    cond (isin 34 title) (seen_words true title (words title))
    (cond (not (null title) && is_blank title) (ascii " ") (seen_words false title (words title)))

each_one : (s : Bytes) → each_byte (λ b. b ∷ []) s ≡ s
unfolding each_byte
each_one [] = refl
each_one (b ∷ s) = rw (each_one s)

word_byte_lem : (p : ℕ → Bool) (b : ℕ) → white b ≡ false → p b ≡ true → word_byte p b ≡ true
word_byte_lem p b e h = rw (e, h)

body_slashed : (p : ℕ → Bool) (title : Bytes) → p 32 ≡ true → every p title ≡ true
    → Slashed (standing p) (title_body title) (seen_title title)
unfolding title_body seen_title
body_slashed p title k h = go (isin 34 title) refl
  where
    inside : every (λ b. p b && not (eqb b 34)) title ≡ true → (t : Bool)
        → Slashed (standing p) (cond t (ascii " ") (title_words false title (words title)))
        (cond t (ascii " ") (seen_words false title (words title)))
    inside i true = slit (quoted_bare p k).blank snil
    inside i false =
        rw each_one at
        (words_slashed (standing p) (word_byte (λ b. p b && not (eqb b 34))) (λ b. b ∷ []) (quoted_bare p k) false title (words title)
        (words_all (λ b. p b && not (eqb b 34)) (word_byte (λ b. p b && not (eqb b 34))) (word_byte_lem (λ b. p b && not (eqb b 34))) title i))

    go : (t : Bool) → isin 34 title ≡ t
        → Slashed (standing p)
        (cond t (each_byte quote_escaped (title_words true title (words title)))
        (cond (not (null title) && is_blank title) (ascii " ") (title_words false title (words title))))
        (cond t (seen_words true title (words title))
        (cond (not (null title) && is_blank title) (ascii " ") (seen_words false title (words title))))
    go true e =
        words_slashed (standing p) (word_byte p) quote_escaped (quoted_escaped p k) true title (words title)
        (words_all p (word_byte p) (word_byte_lem p) title h)
    go false e = inside (every_both p (λ b. not (eqb b 34)) title h (absent 34 title e)) (not (null title) && is_blank title)

-- ---- what a reader finds

-- the title with its quotation marks
unfoldable pub title_of : Bytes → Bytes
title_of title = 34 ∷ (title_body title ++ (34 ∷ []))

one_line_lem : (x : Bytes) → every unbreaking x ≡ true → cut_lines x ≡ (x, [])
unfolding cut_lines ends_line line_byte every
one_line_lem [] h = refl
one_line_lem (b ∷ x) h =
    rw (
      apart unbreaking b 10 (and_l (unbreaking b) _ h) (unfold unbreaking isin in refl),
      apart unbreaking b 13 (and_l (unbreaking b) _ h) (unfold unbreaking isin in refl),
      one_line_lem x (and_r (unbreaking b) _ h),
    )

no_blank_line_lem : (x : Bytes) → every unbreaking x ≡ true → no_blank_line (lines (34 ∷ x)) ≡ true
unfolding lines
no_blank_line_lem x h =
    rw (one_line_lem (34 ∷ x) (unfold every unbreaking isin in h))
    (unfold without_last null no_blank_line blank_line every space_or_tab in refl)

titled_line : (b : ℕ) → standing (λ c. true) b ≡ true → unbreaking b ≡ true
unfolding titled unbreaking
titled_line b h = ap not (isin_no titled b (10 ∷ 13 ∷ []) (and_l (titled b) _ h) (unfold titled every isin in refl))

punctuation_line : (b : ℕ) → punctuation b ≡ true → unbreaking b ≡ true
unfolding unbreaking
punctuation_line b h = ap not (isin_no punctuation b (10 ∷ 13 ∷ []) h (unfold punctuation every in refl))

link_of_lem : (x : Bytes) → enclosed 34 34 false x ≡ true → no_blank_line (lines (34 ∷ x)) ≡ true → link_title (34 ∷ x) ≡ true
unfolding link_title enclosed_by head_is
link_of_lem x c l = rw (c, l)

-- 6.3: what `push_title` appends behind a blank is one link title, in double quotation marks, for every title
pub title_link : (title : Bytes) → link_title (title_of title) ≡ true
unfolding title_of
title_link title =
    let h : Slashed (standing (λ b. true)) (title_body title) (seen_title title) = body_slashed (λ b. true) title refl (every_byte title) in
    let e : every unbreaking (title_body title ++ (34 ∷ [])) ≡ true =
    every_app unbreaking (title_body title) (34 ∷ []) (slashed_every unbreaking titled_line punctuation_line h)
    (unfold every unbreaking isin in refl) in
    let c : enclosed 34 34 false (title_body title ++ (34 ∷ [])) ≡ true =
    slashed_enclosed {q = standing (λ b. true)} (unfold titled isin in refl) (unfold titled isin in refl) h in
    link_of_lem (title_body title ++ (34 ∷ [])) c (no_blank_line_lem _ e)

literal_standing : (b : ℕ) → standing (λ c. not (eqb c 38)) b ≡ true → literal b ≡ true
unfolding literal isin
literal_standing b h =
    rw (not-true (eqb b 38) (and_r (titled b) _ h), apart titled b 92 (and_l (titled b) _ h) (unfold titled isin in refl))

-- and it means the words of the title, for every title without `&`
pub title_meaning_lem : (known : References) (title : Bytes) → isin 38 title ≡ false → title_meaning known (title_of title) ≡ seen_title title
unfolding title_of title_meaning
title_meaning_lem known title h =
    rw (inner_same 34 34 (title_body title))
    (means (slashed_means literal_standing (body_slashed (λ b. not (eqb b 38)) title refl (absent 38 title h))))

-- and of any title where no reference is known, so that references are the only exception
pub title_unreferenced : (title : Bytes) → title_meaning (λ name. none) (title_of title) ≡ seen_title title
unfolding title_of title_meaning
title_unreferenced title =
    rw (inner_same 34 34 (title_body title))
    (slashed_bare {q = standing (λ b. true)} (unfold titled isin in refl) (body_slashed (λ b. true) title refl (every_byte title)))

safe_standing : (b : ℕ) → standing (λ c. not (eqb c 0)) b ≡ true → in_line b ≡ true
unfolding in_line isin
safe_standing b h =
    rw (
      not-true (eqb b 0) (and_r (titled b) _ h),
      apart titled b 10 (and_l (titled b) _ h) (unfold titled isin in refl),
      apart titled b 13 (and_l (titled b) _ h) (unfold titled isin in refl),
    )

safe_whole : (x : Bytes) → every in_line x ≡ true → safe x ≡ x
unfolding safe
safe_whole x h = ap safe (sym (append-nil x)) ∙ (safe_line x [] h ∙ append-nil x)

-- 2.3: a title without NUL is read as it stands
pub title_safe : (title : Bytes) → isin 0 title ≡ false → safe (title_of title) ≡ title_of title
unfolding title_of
title_safe title h =
    let b : every in_line (title_body title) ≡ true =
    slashed_every in_line safe_standing punctuation-in-line (body_slashed (λ b. not (eqb b 0)) title refl (absent 0 title h)) in
    let q : every in_line (34 ∷ []) ≡ true = unfold every in_line isin in refl in
    safe_whole (34 ∷ (title_body title ++ (34 ∷ [])))
    (every_app in_line (34 ∷ []) (title_body title ++ (34 ∷ [])) q (every_app in_line (title_body title) (34 ∷ []) b q))
