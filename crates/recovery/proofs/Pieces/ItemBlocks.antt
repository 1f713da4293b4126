-- Paragraphs and headings of an item stand at its indent, on lines of their own, and are read inside it.
use Rattle.std.specs.Prelude.{ℕ, suc, ◌<◌, ◌≡◌, refl, Bool, true, false, cond, not, ◌||◌, eqb, ltb, length, replicate}
use Rattle.std.proofs.Common.{sym, ap, ◌∙◌}
use mathlib.Core.List.{List, [], ◌∷◌, ◌++◌, append-nil, append_assoc}
use Rattle.spec.specs.Bytes.{Bytes, ascii, null, same, ends_with, trim_ascii_start, trim_end}
use Rattle.spec.specs.Entries.{Entry}
use Rattle.spec.specs.Names as tag
use Rattle.spec.specs.Out.{Out, cut, push, and_then}
use Rattle.spec.specs.Tree.{Forest}
use Rattle.spec.specs.Md.Ctx.{list_item, prefix}
use Rattle.spec.specs.Md.Elements.List.{Item, Progress, going, name_of, begin_item, block_lead, flow_block, block_child, item_from}
use Rattle.spec.specs.Md.Heading.{is_heading, md_prefix, escape_closing_hashes}
use Rattle.spec.specs.Md.MDSerializer.{Ancestors, MDSerializer, write_kids}
use Rattle.spec.specs.Md.TextUtils.{trim_blanks}
use Rattle.spec.specs.Reading.Held.{state, Leaf, is_raw, is_paragraph}
use Rattle.spec.specs.Reading.Lines.{space_or_tab}
use Rattle.spec.specs.Reading.Starts.{start_in}
use Rattle.spec.specs.Reading.Step.{all_kept, line_by, line, step}
use Rattle.spec.specs.declared.ctx.ListContext.{ListContext}
use Rattle.recovery.proofs.Markers.{solid}
use Rattle.recovery.proofs.Written.Ends.{ends_by}
use Rattle.recovery.proofs.Pieces.Closing.{closes_by}
use Rattle.recovery.proofs.Pieces.Headings.{ReadHeading, heading_recovered}
use Rattle.recovery.proofs.Pieces.ItemColumns.{line_in_item}

-- ---- the line of a block

-- the text up to the beginning of a line
unfoldable pub begun_line : Bytes → Bytes
begun_line t = t ++ cond (ends_with (ascii "\n") t) [] (ascii "\n")

pub begun_line_lem : (t : Bytes) → ends_with (ascii "\n") (begun_line t) ≡ true
unfolding begun_line same
begun_line_lem t = go (ends_with (ascii "\n") t) refl
  where
    go : (u : Bool) → ends_with (ascii "\n") t ≡ u → ends_with (ascii "\n") (t ++ cond u [] (ascii "\n")) ≡ true
    go true e = rw append-nil e
    go false e = ends_by (ascii "\n") t (ascii "\n") refl

-- behind other content, a block begins a line at the indent
block_led : (item : Item) (first : Bool) (t : Bytes) → item.ctx.opts.table_cell ≡ false → (not first || ltb item.start (length t)) ≡ true
    → t ++ block_lead item first false t ≡ begun_line t ++ item.indent
unfolding block_lead begun_line
block_led item true t c h = rw (c, h) (sym (append_assoc t _ item.indent))
block_led item false t c h = rw c (sym (append_assoc t _ item.indent))

-- ---- what is written

module _ (self : MDSerializer) (anc : Ancestors) (node : Forest) (item : Item) (p : Progress)
    (no_cell : item.ctx.opts.table_cell ≡ false) (no_pre : eqb (name_of node) tag.pre ≡ false) (no_rule : eqb (name_of node) tag.hr ≡ false)
    (behind : (not p.is_first_block || ltb item.start (length p.out.text)) ≡ true) where
  -- a paragraph, or another block that is no heading, with the content c
  pub paragraph_written : (c : Bytes) → is_heading (name_of node) ≡ false
      → (write_kids self anc (list_item item.ctx.opts) node (begun_line p.out.text ++ item.indent)).text
      ≡ (begun_line p.out.text ++ item.indent) ++ c
      → (block_child self anc node item p).out.text ≡ begun_line p.out.text ++ (item.indent ++ (c ++ ascii "\n\n"))
  unfolding block_child going flow_block and_then push
  paragraph_written c h w =
      rw (no_pre, no_rule, h, block_led item p.is_first_block p.out.text no_cell behind, append-nil (begun_line p.out.text ++ item.indent), w, no_cell)
      (simp append_assoc)

  -- a heading with the content c
  pub heading_line_lem : (c : Bytes) (l : ℕ) → is_heading (name_of node) ≡ true → md_prefix (name_of node) ≡ replicate (suc l) 35 ++ (32 ∷ [])
      → (write_kids self anc (list_item item.ctx.opts) node ((begun_line p.out.text ++ item.indent) ++ (replicate (suc l) 35 ++ (32 ∷ [])))).text
      ≡ (begun_line p.out.text ++ item.indent) ++ (replicate (suc l) 35 ++ (32 ∷ c))
      → (block_child self anc node item p).out.text
      ≡ (escape_closing_hashes ((begun_line p.out.text ++ item.indent) ++ (replicate (suc l) 35 ++ (32 ∷ c)))).text ++ ascii "\n"
  unfolding block_child going flow_block and_then push
  heading_line_lem c l h m w = rw (no_pre, no_rule, h, m, block_led item p.is_first_block p.out.text no_cell behind, w, no_cell)

-- ---- the first block

-- an item begins with its blanks and its marker, behind the text without the blanks at its end
pub item_begun : (ctx : ListContext) (t : Bytes)
    → (begin_item true ctx t).text ≡ trim_ascii_start (trim_blanks t) ++ (replicate ctx.list_indent 32 ++ prefix ctx)
unfolding begin_item and_then cut push
item_begun ctx t = refl

-- and a first block that is no heading, code block or rule stands straight behind the marker: its line is the one of `item_opens`
pub first_written : (self : MDSerializer) (anc : Ancestors) (node : Forest) (item : Item) (p : Progress) (c : Bytes)
    → item.ctx.opts.table_cell ≡ false → eqb (name_of node) tag.pre ≡ false → eqb (name_of node) tag.hr ≡ false → is_heading (name_of node) ≡ false
    → p.is_first_block ≡ true → ltb item.start (length p.out.text) ≡ false
    → (write_kids self anc (list_item item.ctx.opts) node p.out.text).text ≡ p.out.text ++ c
    → (block_child self anc node item p).out.text ≡ p.out.text ++ (c ++ ascii "\n\n")
unfolding block_child going flow_block and_then push block_lead
first_written self anc node item p c no_cell no_pre no_rule h first alone w =
    rw (no_pre, no_rule, h, first, alone, append-nil p.out.text, append-nil p.out.text, w, no_cell) (simp append_assoc)

-- a first heading: behind the marker stands an ATX heading of its level
pub heading_first : (self : MDSerializer) (anc : Ancestors) (node : Forest) (item : Item) (p : Progress) (c : Bytes) (l : ℕ)
    → item.ctx.opts.table_cell ≡ false → eqb (name_of node) tag.pre ≡ false → eqb (name_of node) tag.hr ≡ false → is_heading (name_of node) ≡ true
    → md_prefix (name_of node) ≡ replicate (suc l) 35 ++ (32 ∷ []) → l < 6 → null (trim_end c) ≡ false → closes_by 9 c ≡ false
    → p.is_first_block ≡ true → ltb item.start (length p.out.text) ≡ false
    → (write_kids self anc (list_item item.ctx.opts) node (p.out.text ++ (replicate (suc l) 35 ++ (32 ∷ [])))).text
    ≡ p.out.text ++ (replicate (suc l) 35 ++ (32 ∷ c))
    → ((block_child self anc node item p).out.text ≡ (escape_closing_hashes (p.out.text ++ (replicate (suc l) 35 ++ (32 ∷ c)))).text ++ ascii "\n")
    × ReadHeading (suc l) (escape_closing_hashes (p.out.text ++ (replicate (suc l) 35 ++ (32 ∷ c)))).text p.out.text c
unfolding block_child going flow_block and_then push block_lead
heading_first self anc node item p c l no_cell no_pre no_rule h m k n t first alone w = (
  rw (no_pre, no_rule, h, m, first, alone, append-nil p.out.text, w, no_cell),
  heading_recovered p.out.text c l k (rw n) t,
)

-- ---- and read

-- The block stands behind a line end, at the indent, and its first line is l. In every state of the reading in which the item is open, and
-- no fence or HTML block is, the line belongs to the item and to those around it, and what it begins is what l begins
pub record InItem (ctx : ListContext) (begun : Out) (text before l after : Bytes) : Type 0 where
  pub written : text ≡ before ++ ((item_from ctx begun).indent ++ (l ++ after))
  pub own_line : ends_with (ascii "\n") before ≡ true
  pub read : (o : List Entry) (ks : List ℕ) (lf : Leaf) → is_raw lf ≡ false → all_kept ctx.list_indent ks ≡ true
      → step (state o (ks ++ (length (item_from ctx begun).indent ∷ [])) lf) ((item_from ctx begun).indent ++ l)
      ≡ line_by (line (length ((item_from ctx begun).indent ++ l))) (start_in (is_paragraph lf) l) true
      (ks ++ (length (item_from ctx begun).indent ∷ [])) (length (item_from ctx begun).indent) l o
      (ks ++ (length (item_from ctx begun).indent ∷ [])) lf

-- the block is neither a code block nor a rule, stands in no cell, and has other content of the item before it
pub record Flow (node : Forest) (item : Item) (p : Progress) : Type 0 where
  pub no_cell : item.ctx.opts.table_cell ≡ false
  pub no_pre : eqb (name_of node) tag.pre ≡ false
  pub no_rule : eqb (name_of node) tag.hr ≡ false
  pub behind : (not p.is_first_block || ltb item.start (length p.out.text)) ≡ true

-- a paragraph with the content c, which begins with a byte that is no blank
pub paragraph_in_item : (self : MDSerializer) (anc : Ancestors) (node : Forest) (ctx : ListContext) (begun : Out) (p : Progress) (c : Bytes)
    → Flow node (item_from ctx begun) p
    → is_heading (name_of node) ≡ false
    → solid c ≡ true
    → (write_kids self anc (list_item (item_from ctx begun).ctx.opts) node (begun_line p.out.text ++ (item_from ctx begun).indent)).text
    ≡ (begun_line p.out.text ++ (item_from ctx begun).indent) ++ c
    → InItem ctx begun (block_child self anc node (item_from ctx begun) p).out.text (begun_line p.out.text) c (ascii "\n\n")
paragraph_in_item self anc node ctx begun p c f h s w =
    record {
      written = paragraph_written self anc node (item_from ctx begun) p f.no_cell f.no_pre f.no_rule f.behind c h w;
      own_line = begun_line_lem p.out.text;
      read = λ o ks lf raw goes. line_in_item ctx begun c o ks lf raw s goes;
    }

-- a heading whose content c is more than White_Space, but for a run of # at its end behind a tab: the line is an ATX heading of its level
pub record HeadingInItem (ctx : ListContext) (begun : Out) (text before c : Bytes) (level : ℕ) : Type 0 where
  pub heading : Bytes
  pub recovered : ReadHeading level heading (before ++ (item_from ctx begun).indent) c
  pub inside : InItem ctx begun text before (replicate level 35 ++ recovered.content) (ascii "\n")

pub heading_in_item : (self : MDSerializer) (anc : Ancestors) (node : Forest) (ctx : ListContext) (begun : Out) (p : Progress) (c : Bytes) (l : ℕ)
    → Flow node (item_from ctx begun) p
    → is_heading (name_of node) ≡ true
    → md_prefix (name_of node) ≡ replicate (suc l) 35 ++ (32 ∷ [])
    → l < 6
    → null (trim_end c) ≡ false
    → closes_by 9 c ≡ false
    → (write_kids self anc (list_item (item_from ctx begun).ctx.opts) node
    ((begun_line p.out.text ++ (item_from ctx begun).indent) ++ (replicate (suc l) 35 ++ (32 ∷ [])))).text
    ≡ (begun_line p.out.text ++ (item_from ctx begun).indent) ++ (replicate (suc l) 35 ++ (32 ∷ c))
    → HeadingInItem ctx begun (block_child self anc node (item_from ctx begun) p).out.text (begun_line p.out.text) c (suc l)
heading_in_item self anc node ctx begun p c l f h m k n t w =
    let indent : Bytes = (item_from ctx begun).indent in
    let x : Bytes = begun_line p.out.text ++ indent in
    let r : ReadHeading (suc l) (escape_closing_hashes (x ++ (replicate (suc l) 35 ++ (32 ∷ c)))).text x c =
    heading_recovered x c l k (rw n) t in
    let marks : Bytes = replicate (suc l) 35 ++ r.content in
    record {
      heading = (escape_closing_hashes (x ++ (replicate (suc l) 35 ++ (32 ∷ c)))).text;
      recovered = r;
      inside = record {
        written =
            heading_line_lem self anc node (item_from ctx begun) p f.no_cell f.no_pre f.no_rule f.behind c l h m w
            ∙ (ap (λ (u : Bytes). u ++ ascii "\n") r.written
            ∙ (append_assoc x marks (ascii "\n") ∙ append_assoc (begun_line p.out.text) indent (marks ++ ascii "\n")));
        own_line = begun_line_lem p.out.text;
        read = λ o ks lf raw goes. line_in_item ctx begun marks o ks lf raw (unfold solid space_or_tab in refl) goes;
      };
    }
