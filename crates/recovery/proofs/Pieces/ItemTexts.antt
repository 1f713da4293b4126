-- A line of texts that begins behind the indent or the marker of an item.
use Rattle.std.specs.Prelude.{ℕ, zero, suc, ◌-◌, ◌≤◌, ◌≡◌, Bool, true, false, cond, not, ◌&&◌, ◌||◌, leb, length, take}
use Rattle.std.proofs.Common.{arith, sym, ap, ◌∙◌, length-append}
use Rattle.std.proofs.Math.Path.{refl}
use Rattle.std.proofs.Math.Bool.{and-false, and-true, or-true}
use mathlib.Core.List.{[], ◌∷◌, ◌++◌, append-nil, append_assoc}
use Rattle.std.proofs.Math.ListN.{drop, replicate}
use Rattle.std.proofs.Math.Seq.{take-append_seam, drop-append_seam}
use borrow.Author.Tests.{le-leb, not-true}
use Rattle.spec.specs.Bytes.{Bytes, ascii, null, same, isin, every, ends_with, blank, digit, one, trim_end_matches, decimal}
use Rattle.spec.specs.Decimal.{length_least}
use Rattle.spec.specs.Everything.{everything}
use Rattle.spec.specs.Md.Ctx.{prefix_of, prefix}
use Rattle.spec.specs.Md.TextUtils.{is_ordered_list_marker, before_marker, at_indent, ends_with_marker_digits}
use Rattle.spec.specs.declared.ctx.FormatOpts.{FormatOpts}
use Rattle.spec.specs.declared.ctx.ListContext.{ListContext}
use Rattle.spec.specs.declared.ctx.ListKind.{ListKind}
use Rattle.spec.specs.declared.ctx.ListKind.TheVariants.{Ul, Ol}
use Rattle.spec.proofs.Tests.{every_app, every_imp, every_replicate, isin_no}
use Rattle.recovery.proofs.Written.Ends.{last_is, last_keep, last_replicate, trim_fix, trim_none, trim_cut, ends_by}
use Rattle.recovery.proofs.Written.Normalized.{no_marker_digits}
use Rattle.recovery.proofs.Digits.{decimal_digits}
use Rattle.recovery.proofs.Pieces.ClosingEscapes.{last_byte}
use Rattle.recovery.proofs.Pieces.Headings.{at_line}
use Rattle.recovery.proofs.Pieces.TextStarts.{some_length}
use Rattle.recovery.proofs.Pieces.Texts.{Opens}

-- ---- blanks behind a line end

line_end : (p : ℕ → Bool) (x : Bytes) → ends_with (ascii "\n") x ≡ true → p 10 ≡ false → last_is p x ≡ false
line_end p x e h = rw (last_byte 10 x e) (last_keep p (take (length x - 1) x) (10 ∷ []) (unfold last_is null in h))

-- a class without LF and the blank
line_last : (p : ℕ → Bool) (x : Bytes) (n : ℕ) → ends_with (ascii "\n") x ≡ true → p 10 ≡ false → p 32 ≡ false → last_is p (x ++ replicate n 32) ≡ false
line_last p x zero e h k = rw (append-nil x) (line_end p x e h)
line_last p x (suc n) e h k = last_keep p x (replicate (suc n) 32) (last_replicate p n 32 k)

without_last_lem : (y : Bytes) (b : ℕ) → take (length (y ++ (b ∷ [])) - 1) (y ++ (b ∷ [])) ≡ y
without_last_lem y b =
    let n : length (y ++ (b ∷ [])) - 1 ≡ length y = rw (length-append y (b ∷ [])) (omega arith) in
    rw n (take-append_seam y (b ∷ []))

-- no marker stands between the line end and the last blank
indent_before : (x : Bytes) (n : ℕ) → ends_with (ascii "\n") x ≡ true
    → before_marker ((x ++ replicate n 32) ++ (32 ∷ [])) ≡ (x ++ replicate n 32) ++ (32 ∷ [])
unfolding before_marker
indent_before x n e =
    rw (
      without_last_lem (x ++ replicate n 32) 32,
      trim_fix (λ b. not (isin b (ascii " \n"))) (x ++ replicate n 32) (line_last (λ b. not (isin b (ascii " \n"))) x n e (unfold isin in refl) (unfold isin in refl)),
      drop_all (x ++ replicate n 32),
      no_word,
      and-false (ends_with (ascii " ") ((x ++ replicate n 32) ++ (32 ∷ []))),
    )
  where
    drop_all : (y : Bytes) → drop (length y) y ≡ []
    drop_all [] = refl
    drop_all (b ∷ y) = drop_all y

    no_word : (same [] (ascii "-") || (same [] (ascii "+") || is_ordered_list_marker [])) ≡ false
    no_word = unfold everything in refl

indent_at : (x : Bytes) (n : ℕ) → ends_with (ascii "\n") x ≡ true → at_indent ((x ++ replicate n 32) ++ (32 ∷ [])) ≡ true
unfolding at_indent
indent_at x n e =
    let blanks : every blank (replicate n 32 ++ (32 ∷ [])) ≡ true =
    every_app blank (replicate n 32) (32 ∷ []) (every_replicate blank n 32 (unfold blank in refl)) (unfold every blank in refl) in
    rw (
      append_assoc x (replicate n 32) (32 ∷ []),
      trim_cut blank x (replicate n 32 ++ (32 ∷ [])) (line_end blank x e (unfold blank in refl)) blanks,
      e,
    )
    (or-true (null x))

indent_marks : (x : Bytes) (n : ℕ) (ds : Bytes) → ends_with (ascii "\n") x ≡ true → every digit ds ≡ true → null ds ≡ false
    → ends_with_marker_digits (((x ++ replicate n 32) ++ (32 ∷ [])) ++ ds) ≡ leb (length ds) 9
unfolding ends_with_marker_digits
indent_marks x n ds e h k =
    let u : Bytes = (x ++ replicate n 32) ++ (32 ∷ []) in
    let m : length (u ++ ds) - length u ≡ length ds = rw (length-append u ds) (omega arith) in
    rw (
      trim_cut digit u ds (last_keep digit (x ++ replicate n 32) (32 ∷ []) (unfold last_is null digit in refl)) h,
      m,
      indent_before x n e,
      indent_at x n e,
      le-leb 1 (length ds) (some_length ds k),
    )
    (and-true (leb (length ds) 9))

snoc_blank : (x : Bytes) (n : ℕ) → x ++ replicate (suc n) 32 ≡ (x ++ replicate n 32) ++ (32 ∷ [])
snoc_blank x n = ap (λ (z : Bytes). x ++ z) (go n) ∙ sym (append_assoc x (replicate n 32) (32 ∷ []))
  where
    go : (n : ℕ) → replicate {A = ℕ} (suc n) 32 ≡ replicate n 32 ++ (32 ∷ [])
    go zero = refl
    go (suc n) = ap (λ (z : Bytes). 32 ∷ z) (go n)

-- in an item, a line of texts begins behind blanks that follow a line end
pub opens_indent : (opts : FormatOpts) (x : Bytes) (n : ℕ) → opts.list_item ≡ true → ends_with (ascii "\n") x ≡ true
    → Opens opts (x ++ replicate (suc n) 32)
unfolding same
opens_indent opts x n i e =
    rw (snoc_blank x n)
    (record {
      follows = rw (ends_by (ascii " ") (x ++ replicate n 32) (ascii " ") refl, or-true (ends_with (ascii "\n") ((x ++ replicate n 32) ++ (32 ∷ []))));
      begins = rw i (or-true (null ((x ++ replicate n 32) ++ (32 ∷ [])) || ends_with (ascii "\n") ((x ++ replicate n 32) ++ (32 ∷ []))));
      none = no_marker_digits (x ++ replicate n 32) 32 (unfold digit in refl);
      marks = λ ds h k. indent_marks x n ds e h k;
    })

-- ---- behind a marker

-- the marker of an item without its blank
unfoldable pub mark_of : ListKind → Bool → Bytes
mark_of Ul cell = cond cell (ascii "+") (ascii "-")
mark_of (Ol n) cell = decimal n ++ ascii "."

mark_prefix : (kind : ListKind) (cell : Bool) → prefix_of kind (cond cell (ascii "+ ") (ascii "- ")) ≡ mark_of kind cell ++ (32 ∷ [])
unfolding prefix_of mark_of
mark_prefix Ul true = refl
mark_prefix Ul false = refl
mark_prefix (Ol n) cell = sym (append_assoc (decimal n) (ascii ".") (32 ∷ []))

number_marks : (ds : Bytes) → every digit ds ≡ true → 1 ≤ length ds → is_ordered_list_marker (ds ++ ascii ".") ≡ true
unfolding is_ordered_list_marker same
number_marks ds h k = rw (ends_by (ascii ".") ds (ascii ".") refl, without_last_lem ds 46, h) (some ds k)
  where
    some : (ds : Bytes) → 1 ≤ length ds → (not (null ds) && true) ≡ true
    some [] e = absurd (omega arith)
    some (b ∷ ds) e = unfold null in refl

-- it is a word that a marker is
mark_is : (kind : ListKind) (cell : Bool)
    → (same (mark_of kind cell) (ascii "-") || (same (mark_of kind cell) (ascii "+") || is_ordered_list_marker (mark_of kind cell))) ≡ true
unfolding mark_of
mark_is Ul true = unfold same in refl
mark_is Ul false = unfold same in refl
mark_is (Ol n) cell =
    rw (number_marks (decimal n) (decimal_digits n) (length_least n), or-true (same (decimal n ++ ascii ".") (ascii "+")))
    (or-true (same (decimal n ++ ascii ".") (ascii "-")))

-- and has neither blank nor line end
mark_bytes : (kind : ListKind) (cell : Bool) → every (λ b. not (isin b (ascii " \n"))) (mark_of kind cell) ≡ true
unfolding mark_of
mark_bytes Ul true = unfold every isin in refl
mark_bytes Ul false = unfold every isin in refl
mark_bytes (Ol n) cell =
    every_app (λ b. not (isin b (ascii " \n"))) (decimal n) (ascii ".")
    (every_imp digit (λ b. not (isin b (ascii " \n"))) (decimal n) (λ b e. ap not (isin_no digit b (ascii " \n") e (unfold every digit in refl))) (decimal_digits n))
    (unfold every isin in refl)

-- u is where a line begins, with its blanks
trim_mark : (u m : Bytes) → (null u || not (last_is (λ b. not (isin b (ascii " \n"))) u)) ≡ true → every (λ b. not (isin b (ascii " \n"))) m ≡ true
    → trim_end_matches (one (λ b. not (isin b (ascii " \n")))) (u ++ m) ≡ u
trim_mark [] m h k = trim_none (λ b. not (isin b (ascii " \n"))) m k
trim_mark (b ∷ u) m h k = trim_cut (λ b. not (isin b (ascii " \n"))) (b ∷ u) m (not-true _ (unfold null in h)) k

mark_before : (u m : Bytes) → (null u || not (last_is (λ b. not (isin b (ascii " \n"))) u)) ≡ true → every (λ b. not (isin b (ascii " \n"))) m ≡ true
    → (same m (ascii "-") || (same m (ascii "+") || is_ordered_list_marker m)) ≡ true
    → before_marker ((u ++ m) ++ (32 ∷ [])) ≡ u
unfolding before_marker same
mark_before u m h k w =
    rw (without_last_lem (u ++ m) 32, trim_mark u m h k, drop-append_seam u m, w, ends_by (ascii " ") (u ++ m) (ascii " ") refl)

line_blanks : (x : Bytes) (n : ℕ) → at_line x ≡ true → (null (x ++ replicate n 32) || not (last_is (λ b. not (isin b (ascii " \n"))) (x ++ replicate n 32))) ≡ true
unfolding at_line null
line_blanks [] zero h = refl
line_blanks [] (suc n) h = ap not (last_replicate (λ b. not (isin b (ascii " \n"))) n 32 (unfold isin in refl))
line_blanks (b ∷ x) n h = ap not (line_last (λ b. not (isin b (ascii " \n"))) (b ∷ x) n h (unfold isin in refl) (unfold isin in refl))

blanks_at : (x : Bytes) (n : ℕ) → at_line x ≡ true → at_indent (x ++ replicate n 32) ≡ true
unfolding at_indent at_line null
blanks_at [] n h = rw (trim_none blank (replicate n 32) (every_replicate blank n 32 (unfold blank in refl)))
blanks_at (b ∷ x) n h =
    rw (trim_cut blank (b ∷ x) (replicate n 32) (line_end blank (b ∷ x) h (unfold blank in refl)) (every_replicate blank n 32 (unfold blank in refl))) h

mark_marks : (u m ds : Bytes) → before_marker ((u ++ m) ++ (32 ∷ [])) ≡ u → at_indent u ≡ true → every digit ds ≡ true → null ds ≡ false
    → ends_with_marker_digits (((u ++ m) ++ (32 ∷ [])) ++ ds) ≡ leb (length ds) 9
unfolding ends_with_marker_digits
mark_marks u m ds b a h k =
    let v : Bytes = (u ++ m) ++ (32 ∷ []) in
    let n : length (v ++ ds) - length v ≡ length ds = rw (length-append v ds) (omega arith) in
    rw (trim_cut digit v ds (last_keep digit (u ++ m) (32 ∷ []) (unfold last_is null digit in refl)) h, n, b, a, le-leb 1 (length ds) (some_length ds k))
    (and-true (leb (length ds) 9))

-- in an item, a line of texts begins behind the marker, too
pub opens_marker : (opts : FormatOpts) (ctx : ListContext) (x : Bytes) → opts.list_item ≡ true → at_line x ≡ true
    → Opens opts ((x ++ replicate ctx.list_indent 32) ++ prefix ctx)
unfolding prefix same
opens_marker opts ctx x i h =
    let u : Bytes = x ++ replicate ctx.list_indent 32 in
    let m : Bytes = mark_of ctx.kind ctx.opts.table_cell in
    rw (mark_prefix ctx.kind ctx.opts.table_cell, ← append_assoc u m (32 ∷ []))
    (record {
      follows = rw (ends_by (ascii " ") (u ++ m) (ascii " ") refl, or-true (ends_with (ascii "\n") ((u ++ m) ++ (32 ∷ []))));
      begins = rw i (or-true (null ((u ++ m) ++ (32 ∷ [])) || ends_with (ascii "\n") ((u ++ m) ++ (32 ∷ []))));
      none = no_marker_digits (u ++ m) 32 (unfold digit in refl);
      marks = λ ds d k.
          mark_marks u m ds
          (mark_before u m (line_blanks x ctx.list_indent h) (mark_bytes ctx.kind ctx.opts.table_cell) (mark_is ctx.kind ctx.opts.table_cell))
          (blanks_at x ctx.list_indent h) d k;
    })
