-- A paragraph of texts in an item: a line at the indent that begins no block and is read as its words.
use Rattle.std.specs.Prelude.{ℕ, suc, ◌≡◌, refl, Bool, true, false, List, [], ◌∷◌, ◌++◌, map, replicate}
use Rattle.std.proofs.Common.{append-nil}
use Rattle.spec.specs.Bytes.{Bytes, ascii, every, words, white, trim_ascii_start, trim_ascii_end}
use Rattle.spec.specs.Entries.{word}
use Rattle.spec.specs.Names.{tag_of}
use Rattle.spec.specs.Out.{Out, cut, and_then}
use Rattle.spec.specs.Tree.{Attr, Forest, nothing, element, attrs_of, kids_of}
use Rattle.spec.specs.Md.Ctx.{list_item, prefix}
use Rattle.spec.specs.Md.Elements.List.{Progress, name_of, block_child, item_from}
use Rattle.spec.specs.Md.Heading.{is_heading}
use Rattle.spec.specs.Md.MDSerializer.{Ancestors, write_kids}
use Rattle.spec.specs.Md.Serializer.{write_at, serializer}
use Rattle.spec.specs.Md.TextUtils.{trim_space}
use Rattle.spec.specs.Pieces.Lines.{is_text_start}
use Rattle.spec.specs.Reading.Inline.{inline}
use Rattle.spec.specs.Reading.Starts.{start_in}
use Rattle.spec.specs.declared.ctx.FormatOpts.{FormatOpts}
use Rattle.spec.specs.declared.ctx.ListContext.{ListContext}
use Rattle.recovery.proofs.Words.{all_of, kept}
use Rattle.recovery.proofs.Written.Ends.{last_is, first_is, last_some_lem, last_keep, first_app, trim_fix, start_cut}
use Rattle.recovery.proofs.Pieces.TextStarts.{Line, bare, line_start_lem, line_solid}
use Rattle.recovery.proofs.Pieces.Texts.{Opens, appended, clear, texts_line, texts_start}
use Rattle.recovery.proofs.Pieces.TextWords.{said, texts_read, only_texts, texts_of, texts_written}
use Rattle.recovery.proofs.Pieces.ItemColumns.{behind_marker, indent_blanks}
use Rattle.recovery.proofs.Pieces.ItemTexts.{opens_indent, opens_marker}
use Rattle.recovery.proofs.Pieces.Headings.{at_line}
use Rattle.recovery.proofs.Pieces.ItemBlocks.{begun_line, begun_line_lem, InItem, Flow, paragraph_in_item}

-- the trim of the whole text changes nothing where the text begins and the last text ends with a byte that is not white
texts_kids : (skips : List Bytes) (n : ℕ) (anc : Ancestors) (opts : FormatOpts) (name : Bytes) (attrs : List Attr) (kids : Forest) (t : Bytes)
    → only_texts kids ≡ true → first_is white t ≡ false → last_is white (appended opts t (texts_of kids)) ≡ false
    → (write_kids (serializer skips (suc n)) anc opts (element name attrs kids nothing) t).text ≡ t ++ appended opts t (texts_of kids)
unfolding write_kids serializer write_at kids_of attrs_of and_then trim_space cut trim_ascii_start trim_ascii_end
texts_kids skips n anc opts name attrs kids t h f l =
    let a : Bytes = appended opts t (texts_of kids) in
    rw (texts_written (serializer skips n) (attrs ∷ anc) opts kids t h, trim_fix white (t ++ a) (last_keep white t a l))
    (start_cut white [] (t ++ a) (unfold every in refl) (first_app white t a f))

-- the line of the block, what it begins and what it is read as
pub record TextsInItem (ctx : ListContext) (begun : Out) (text before c : Bytes) (ws : List Bytes) : Type 0 where
  pub inside : InItem ctx begun text before c (ascii "\n\n")
  pub begins : (par : Bool) → is_text_start (start_in par c) ≡ true
  pub read : inline c ≡ map word ws

-- A block that is no heading, with texts alone, behind other content of the item; the text begins with a byte that is not white, and so does
-- what is written of the texts end. Without NUL, VT and `&`; `clear` names the exceptions
pub texts_in_item : (skips : List Bytes) (n : ℕ) (anc : Ancestors) (name : Bytes) (attrs : List Attr) (kids : Forest) (ctx : ListContext) (begun : Out) (p : Progress)
    → Flow (element name attrs kids nothing) (item_from ctx begun) p
    → is_heading (tag_of name) ≡ false
    → (item_from ctx begun).ctx.opts.skip_escape ≡ false
    → (item_from ctx begun).ctx.opts.inline ≡ false
    → only_texts kids ≡ true
    → all_of kept (texts_of kids) ≡ true
    → clear (list_item (item_from ctx begun).ctx.opts) (begun_line p.out.text ++ (item_from ctx begun).indent) [] (texts_of kids) ≡ true
    → first_is white p.out.text ≡ false
    → last_is white (appended (list_item (item_from ctx begun).ctx.opts) (begun_line p.out.text ++ (item_from ctx begun).indent) (texts_of kids)) ≡ false
    → TextsInItem ctx begun (block_child (serializer skips (suc n)) anc (element name attrs kids nothing) (item_from ctx begun) p).out.text (begun_line p.out.text)
    (appended (list_item (item_from ctx begun).ctx.opts) (begun_line p.out.text ++ (item_from ctx begun).indent) (texts_of kids))
    (words (said (list_item (item_from ctx begun).ctx.opts) (begun_line p.out.text ++ (item_from ctx begun).indent) (texts_of kids)))
unfolding name_of
texts_in_item skips n anc name attrs kids ctx begun p f h e i only plain c first last =
    let opts : FormatOpts = list_item (item_from ctx begun).ctx.opts in
    let indent : Bytes = (item_from ctx begun).indent in
    let u : Bytes = begun_line p.out.text ++ indent in
    let o : Opens opts u =
    rw (indent_blanks ctx begun) (opens_indent opts (begun_line p.out.text) (behind_marker ctx) refl (begun_line_lem p.out.text)) in
    let l : Line (appended opts u (texts_of kids)) = rw (append-nil u) at (texts_line opts u (texts_of kids) e i o plain c bare) in
    record {
      inside =
          paragraph_in_item (serializer skips (suc n)) anc (element name attrs kids nothing) ctx begun p (appended opts u (texts_of kids)) f h
          (line_solid l (last_some_lem white (appended opts u (texts_of kids)) last))
          (texts_kids skips n anc opts name attrs kids u only
          (first_app white (begun_line p.out.text) indent (unfold begun_line in first_app white p.out.text _ first)) last);
      begins = λ par. line_start_lem l par;
      read = texts_read opts u (texts_of kids) e plain;
    }

-- Texts behind the marker of an item, whether it has blocks or not: the line that `item_opens` reads in the item begins no block there
pub marker_texts : (opts : FormatOpts) (ctx : ListContext) (x : Bytes) (ss : List Bytes) (par : Bool) → opts.list_item ≡ true → opts.skip_escape ≡ false
    → opts.inline ≡ false → at_line x ≡ true → all_of kept ss ≡ true → clear opts ((x ++ replicate ctx.list_indent 32) ++ prefix ctx) [] ss ≡ true
    → is_text_start (start_in par (appended opts ((x ++ replicate ctx.list_indent 32) ++ prefix ctx) ss)) ≡ true
marker_texts opts ctx x ss par i e o h k c = texts_start opts ((x ++ replicate ctx.list_indent 32) ++ prefix ctx) ss par e o (opens_marker opts ctx x i h) k c
