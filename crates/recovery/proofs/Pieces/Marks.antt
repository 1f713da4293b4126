-- Rules, list markers and hard line breaks as the writer writes them.
use Rattle.std.specs.Prelude.{ℕ, suc, ◌+◌, ◌≤◌, min, ◌≡◌, Bool, cond, not, ◌&&◌, ◌||◌, eqb, ltb, length, drop}
use Rattle.std.proofs.Common.{arith, sym, ap, ◌∙◌, true≢false}
use Rattle.std.proofs.Math.Path.{refl}
use Rattle.std.proofs.Math.Bool.{true, false, and-false}
use mathlib.Core.List.{List, [], ◌∷◌, ◌++◌, append_assoc}
use Rattle.std.proofs.Math.Option.{Option, none, some}
use borrow.Author.Tests.{le-leb, leb-true}
use Rattle.spec.specs.Bytes.{Bytes, ascii, null, same, isin, every, starts_with, ends_with, white, blank, digit, one, trim_end_matches, trim_start_matches, trim_ascii_end, take_while, decimal}
use Rattle.spec.specs.Decimal.{length_nine}
use Rattle.spec.specs.ListNumber.{largest_number}
use Rattle.spec.specs.Names as tag
use Rattle.spec.specs.Out.{cut, keep, push, and_then}
use Rattle.spec.specs.Md.Ctx.{prefix_of, prefix, with_kind, advanced, advance_ol_number}
use Rattle.spec.specs.Md.Elements.Blocks.{is_md_block, is_list}
use Rattle.spec.specs.Md.Elements.List.{Item, Progress, going, rule_block, clamped, parse_list_number, number_of, number_or, start_of, renumbered, kind_of}
use Rattle.spec.specs.Md.Heading.{md_prefix}
use Rattle.spec.specs.Md.Serializer.{is_tight, open_break, opened, close_line}
use Rattle.spec.specs.Md.TextUtils.{trim_blanks, trim_trailing_space, breaks_until, add_linebreaks}
use Rattle.spec.specs.Pieces.Lines.{continues, hard_break}
use Rattle.spec.specs.Reading.Lines.{space_or_tab, blank_line, drop_run}
use Rattle.spec.specs.Reading.Starts.{rule_start, underline_start, item_start, thematic_break, ends, underline, bullet_by, bullet, rule_or, lead, start_by, start, underline_or, start_in}
use Rattle.spec.specs.Tree.{Attr, Forest, attr}
use Rattle.spec.specs.declared.ctx.FormatOpts.{FormatOpts}
use Rattle.spec.specs.declared.ctx.ListContext.{ListContext}
use Rattle.spec.specs.declared.ctx.ListKind.{ListKind}
use Rattle.spec.specs.declared.ctx.ListKind.TheVariants.{Ul, Ol}
use Rattle.spec.proofs.ListNumbers.{clamped_most}
use Rattle.recovery.proofs.Markers.{marker_width, small_number, start_number}
use Rattle.recovery.proofs.Pieces.Trims.{Tail, tail_of, trim_some}
use Rattle.recovery.proofs.Pieces.Closing.{blank_line_lem}
use Rattle.recovery.proofs.Written.Breaks.{sep, broken, ends_two}
use Rattle.recovery.proofs.Written.Ends.{ends_by}

-- ---- rules

-- where no paragraph is open, as behind a blank line, it is a thematic break; straight behind a paragraph's line it would underline that
pub rule_read : (start_in false (md_prefix tag.hr) ≡ rule_start) × (start_in true (md_prefix tag.hr) ≡ underline_start)
unfolding md_prefix start_in start start_by lead rule_or thematic_break underline_or underline drop_run blank_line every space_or_tab
rule_read = (refl, refl)

-- what is written before a block ends with a blank line
pub broken_ends : (t : Bytes) → ends_with (ascii "\n\n") (broken false t) ≡ true
unfolding broken sep add_linebreaks trim_trailing_space breaks_until and_then push keep cut
broken_ends t = go (ends_with (ascii "\n\n") (trim_blanks t)) refl
  where
    two : (u : Bytes) (b : Bool) → ends_with (ascii "\n\n") (u ++ ascii "\n") ≡ b
        → ends_with (ascii "\n\n") (cond b (keep (u ++ ascii "\n")) (and_then (push (ascii "\n") (u ++ ascii "\n")) (breaks_until 0 (ascii "\n") (ascii "\n\n")))).text ≡ true
    two u true e = e
    two u false e = ap (ends_with (ascii "\n\n")) (append_assoc u (ascii "\n") (ascii "\n")) ∙ ends_two u

    go : (b : Bool) → ends_with (ascii "\n\n") (trim_blanks t) ≡ b
        → ends_with (ascii "\n\n") (cond b (keep (trim_blanks t)) (and_then (push (ascii "\n") (trim_blanks t)) (breaks_until 1 (ascii "\n") (ascii "\n\n")))).text ≡ true
    go true e = e
    go false e = two (trim_blanks t) (ends_with (ascii "\n\n") (trim_blanks t ++ ascii "\n")) refl

-- and so does what is written before a rule, but in a cell or a link's text
pub rule_written : (opts : FormatOpts) (attrs : List Attr) (kids : Forest) (t : Bytes) → opts.skip_md ≡ false → opts.link_body ≡ false → opts.table_cell ≡ false
    → (opened opts tag.hr attrs kids t).text ≡ broken false t ++ ascii "---"
unfolding opened open_break is_tight is_md_block is_list isin broken sep and_then push md_prefix
rule_written opts attrs kids t s l c = rw (s, l, c, and-false opts.list_item)

-- in an item that holds something before it, too
pub rule_in_item : (item : Item) (p : Progress) → item.ctx.opts.table_cell ≡ false
    → ltb item.start (length (trim_ascii_end p.out.text)) ≡ true
    → (rule_block item p).out.text ≡ trim_ascii_end p.out.text ++ (ascii "\n\n" ++ (item.indent ++ ascii "---\n"))
unfolding rule_block going and_then push cut
rule_in_item item p c h = rw (c, h)

-- ---- list markers

-- the number of a list item has at most nine digits, and is that of the marker
pub marker_number : (n : ℕ) (bullet t : Bytes) → n ≤ 999999999
    → (length (decimal n) ≤ 9) × (start (prefix_of (Ol n) bullet ++ t) ≡ item_start (some n) (suc (length (decimal n))) (32 ∷ t))
unfolding prefix_of
marker_number n bullet t h = (length_nine n h, ap start (append_assoc (decimal n) (46 ∷ 32 ∷ []) t) ∙ start_number n t h)

-- a bullet, but where the line is a thematic break
pub marker_dash : (t : Bytes) → start (prefix_of Ul (ascii "- ") ++ t) ≡ rule_or (thematic_break 45 1 (32 ∷ t)) (item_start none 1 (32 ∷ t))
unfolding prefix_of start start_by lead bullet bullet_by ends space_or_tab
marker_dash t = refl

-- in a cell
pub marker_plus : (t : Bytes) → start (prefix_of Ul (ascii "+ ") ++ t) ≡ item_start none 1 (32 ∷ t)
unfolding prefix_of start start_by lead bullet bullet_by ends space_or_tab
marker_plus t = refl

-- ---- the numbers of items

-- a number that a marker can have
unfoldable pub small_kind : ListKind → Bool
small_kind Ul = true
small_kind (Ol n) = small_number (some n)

most_small : (n : ℕ) → n ≤ 999999999 → small_number (some n) ≡ true
unfolding small_number largest_number
most_small n h = le-leb n 999999999 h

parsed_small : (value : Option Bytes) → small_number (number_of value) ≡ true
unfolding number_of parse_list_number
parsed_small none = unfold small_number in refl
parsed_small (some s) =
    let begun : Bytes = trim_start_matches white s in
    let digits : Bytes = take_while digit (cond (starts_with (ascii "-") begun || starts_with (ascii "+") begun) (drop 1 begun) begun) in
    go (null digits) (starts_with (ascii "-") begun) (trim_start_matches (λ b. eqb b 48) digits)
  where
    go : (t u : Bool) (ds : Bytes) → small_number (cond t none (some (cond u 0 (clamped ds)))) ≡ true
    go true u ds = unfold small_number in refl
    go false true ds = most_small 0 (omega arith)
    go false false ds = most_small (clamped ds) (clamped_most ds)

numbered_small : (number : Option ℕ) → small_number number ≡ true → small_number (some (number_or number 1)) ≡ true
unfolding number_or
numbered_small none h = most_small 1 (omega arith)
numbered_small (some n) h = h

-- the first item's, an item's with a value of its own, and the next item's
pub small_first : (name : ℕ) (attrs : List Attr) → small_kind (kind_of name attrs) ≡ true
unfolding kind_of start_of
small_first name attrs = go (eqb name tag.ol)
  where
    go : (t : Bool) → small_kind (cond t (Ol (number_or (number_of (attr (ascii "start") attrs)) 1)) Ul) ≡ true
    go true = unfold small_kind in numbered_small (number_of (attr (ascii "start") attrs)) (parsed_small (attr (ascii "start") attrs))
    go false = unfold small_kind in refl

pub small_value : (kind : ListKind) (value : Option Bytes) (ctx : ListContext) → small_kind ctx.kind ≡ true → small_kind (renumbered kind (number_of value) ctx).kind ≡ true
unfolding renumbered
small_value Ul value ctx h = h
small_value (Ol m) value ctx h = go (number_of value) (parsed_small value)
  where
    go : (number : Option ℕ) → small_number number ≡ true → small_kind (renumbered (Ol m) number ctx).kind ≡ true
    go none e = h
    go (some n) e = unfold with_kind small_kind in e

pub small_next : (ctx : ListContext) → small_kind ctx.kind ≡ true → small_kind (advance_ol_number ctx).kind ≡ true
unfolding advance_ol_number
small_next ctx h = go ctx.kind
  where
    go : (kind : ListKind) → small_kind (advanced kind ctx).kind ≡ true
    go Ul = unfold advanced in h
    go (Ol n) = unfold advanced small_kind in most_small (min (n + 1) 999999999) (omega arith)

-- the number in a marker
unfoldable pub number_in : ListKind → Option ℕ
number_in Ul = none
number_in (Ol n) = some n

-- what an item begins with is a marker with its number, but where the line is a thematic break
pub marker_read : (ctx : ListContext) (t : Bytes) → small_kind ctx.kind ≡ true → thematic_break 45 1 (32 ∷ t) ≡ false
    → start (prefix ctx ++ t) ≡ item_start (number_in ctx.kind) (marker_width (number_in ctx.kind)) (32 ∷ t)
unfolding prefix
marker_read ctx t s h = go ctx.kind ctx.opts.table_cell s
  where
    go : (kind : ListKind) (cell : Bool) → small_kind kind ≡ true
        → start (prefix_of kind (cond cell (ascii "+ ") (ascii "- ")) ++ t) ≡ item_start (number_in kind) (marker_width (number_in kind)) (32 ∷ t)
    go Ul true e = unfold number_in marker_width in marker_plus t
    go Ul false e = unfold number_in marker_width rule_or in marker_dash t ∙ rw h
    go (Ol n) cell e =
        unfold number_in marker_width in (marker_number n (cond cell (ascii "+ ") (ascii "- ")) t (unfold small_kind small_number largest_number in leb-true n 999999999 e)).1

-- ---- hard line breaks

-- what is left of a line that is more than blanks
trim_line : (x l : Bytes) → null (trim_blanks l) ≡ false → trim_blanks (x ++ l) ≡ x ++ trim_blanks l
unfolding trim_blanks
trim_line x l h = trim_some blank x l h

trim_blank : (l z : Bytes) → every blank z ≡ true → blank_line (trim_blanks l ++ z) ≡ blank_line l
unfolding trim_blanks
trim_blank l z h =
    let t : Tail blank l (trim_end_matches (one blank) l) = tail_of blank l in
    let r : Bytes = trim_end_matches (one blank) l in
    blank_line_lem r z h ∙ (sym (blank_line_lem r t.tail t.all) ∙ ap blank_line (sym t.is))

line_some : (l : Bytes) → blank_line l ≡ false → null (trim_blanks l) ≡ false
line_some l h = go (trim_blanks l) (trim_blank l [] (unfold every in refl) ∙ h)
  where
    go : (r : Bytes) → blank_line (r ++ []) ≡ false → null r ≡ false
    go [] e = unfold blank_line every in absurd (true≢false e)
    go (b ∷ r) e = unfold null in refl

-- the text of a line break behind the text x and the line l: l ends with two blanks
pub break_written : (opts : FormatOpts) (x l : Bytes) → opts.link_body ≡ false → opts.table_cell ≡ false → blank_line l ≡ false
    → (close_line opts (x ++ l)).text ≡ x ++ ((trim_blanks l ++ ascii "  ") ++ ascii "\n")
unfolding close_line and_then trim_trailing_space cut push
break_written opts x l b c h =
    rw (b, c, trim_line x l (line_some l h)) (append_assoc x (trim_blanks l) (ascii "  \n") ∙ ap (λ (r : Bytes). x ++ r) (sym (append_assoc (trim_blanks l) (ascii "  ") (ascii "\n"))))

-- it is a hard line break just where the line holds more than blanks and the paragraph goes on in the next
pub break_read : (l next : Bytes) → hard_break (trim_blanks l ++ ascii "  ") next ≡ (not (blank_line l) && continues next)
unfolding hard_break same
break_read l next = rw (trim_blank l (ascii "  ") two, ends_by (ascii "  ") (trim_blanks l) (ascii "  ") refl)
  where
    two : every blank (ascii "  ") ≡ true
    two = unfold every blank in refl
