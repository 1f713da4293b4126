-- `elements/list.rs`.
use Rattle.std.specs.Prelude.{ℕ, zero, suc, ◌+◌, ◌-◌, max, min, Bool, true, false, cond, not, ◌&&◌, ◌||◌, List, [], ◌∷◌, ◌++◌, length, get_or, take, drop, replicate, eqb, leb, ltb}
use Rattle.std.proofs.Math.Option.{Option, none, some}
use Rattle.spec.specs.Bytes.{
  Bytes,
  ascii,
  null,
  isin,
  among,
  starts_with,
  ends_with,
  white,
  digit,
  one,
  trim_end_matches,
  trim_start_matches,
  trim_ascii_end,
  trim_ascii_start,
  trim_end,
  is_blank,
  take_while,
  split,
  value_from,
}
use Rattle.spec.specs.Names as tag
use Rattle.spec.specs.Names.{tag_of}
use Rattle.spec.specs.Tree.{Attr, Forest, nothing, text, comment, element, attr, text_of}
use Rattle.spec.specs.Out.{Out, Step, cut, keep, push, and_then, beside, nested}
use Rattle.spec.specs.Md.Constants.{MAX_LIST_NUMBER}
use Rattle.spec.specs.Md.Ctx.{
  fresh,
  include_node,
  list_item,
  list_context,
  break_of,
  prefix,
  with_kind,
  advance_ol_number,
}
use Rattle.spec.specs.Md.TextUtils.{add_linebreaks, trim_blanks}
use Rattle.spec.specs.Md.Heading.{is_heading, md_prefix, escape_closing_hashes}
use Rattle.spec.specs.Md.MDSerializer.{Ancestors, MDSerializer, write_kids, write}
use Rattle.spec.specs.Md.Elements.Blocks.{is_md_block, is_list}
use Rattle.spec.specs.declared.ctx.FormatOpts.{FormatOpts}
use Rattle.spec.specs.declared.ctx.ListKind.{ListKind}
use Rattle.spec.specs.declared.ctx.ListKind.TheVariants.{Ul, Ol}
use Rattle.spec.specs.declared.ctx.ListContext.{ListContext}

-- ---- list numbers

-- the number of a run of digits without leading zeros
unfoldable pub clamped : Bytes → ℕ
clamped digits = cond (ltb 9 (length digits)) MAX_LIST_NUMBER (min (value_from 0 digits) MAX_LIST_NUMBER)

-- HTML Standard, "rules for parsing integers": ASCII whitespace is skipped, one sign may stand, then digits; anything else
-- there is an error, and what follows the digits is not looked at
unfoldable pub parse_list_number : Bytes → Option ℕ
parse_list_number value =
    let begun = trim_start_matches white value in
    let negative = starts_with (ascii "-") begun in
    let unsigned = cond (negative || starts_with (ascii "+") begun) (drop 1 begun) begun in
    let digits = take_while digit unsigned in
    let number = cond negative 0 (clamped (trim_start_matches (λ b. eqb b 48) digits)) in
    cond (null digits) none (some number)

unfoldable pub number_of : Option Bytes → Option ℕ
number_of none = none
number_of (some s) = parse_list_number s

unfoldable pub number_or : Option ℕ → ℕ → ℕ
number_or none n = n
number_or (some m) n = m

unfoldable pub start_of : List Attr → ℕ
start_of attrs = number_or (number_of (attr (ascii "start") attrs)) 1

-- ---- tests on nodes

-- the name of the first node, 0 where it is no element
unfoldable pub name_of : Forest → ℕ
name_of nothing = 0
name_of (text s rest) = 0
name_of (comment s rest) = 0
name_of (element name attrs kids rest) = tag_of name

unfoldable pub node_is_list_item_block : ℕ → Bool
node_is_list_item_block name = not (is_list name) && (is_md_block name || eqb name tag.pre)

-- some child is a block of its own
unfoldable pub has_blocks : Forest → Bool
has_blocks nothing = false
has_blocks (text s rest) = has_blocks rest
has_blocks (comment s rest) = has_blocks rest
has_blocks (element name attrs kids rest) = node_is_list_item_block (tag_of name) || has_blocks rest

-- every child is a list, a block but a table or a rule, a comment or a blank text
unfoldable pub only_blocks : Forest → Bool
only_blocks nothing = true
only_blocks (text s rest) = is_blank s && only_blocks rest
only_blocks (comment s rest) = only_blocks rest
only_blocks (element name attrs kids rest) =
    let n = tag_of name in
    (is_list n || (node_is_list_item_block n && (not (eqb n tag.table) && not (eqb n tag.hr)))) && only_blocks rest

unfoldable pub is_block_wrapper : ℕ → Bool
is_block_wrapper name = isin name (tag.div ∷ tag.section ∷ tag.article ∷ [])

unfoldable pub node_is_block_wrapper : ℕ → Forest → Bool
node_is_block_wrapper name kids = is_block_wrapper name && (has_blocks kids && only_blocks kids)

-- before the first list some node holds more than White_Space
unfoldable pub has_text_before_list : Forest → Bool
has_text_before_list nothing = false
has_text_before_list (text s rest) = not (null (trim_end s)) || has_text_before_list rest
has_text_before_list (comment s rest) = has_text_before_list rest
has_text_before_list (element name attrs kids rest) =
    not (is_list (tag_of name)) && (not (null (trim_end (text_of kids))) || has_text_before_list rest)

-- the first element child is an `li` with a text, and an ordered list begins with 1. CommonMark 5.2: "When the
-- first list item in a list interrupts a paragraph", "if the list item is ordered, the start number must be 1."
unfoldable pub can_interrupt_paragraph : ℕ → List Attr → Forest → Bool
can_interrupt_paragraph list list_attrs nothing = false
can_interrupt_paragraph list list_attrs (text s rest) = can_interrupt_paragraph list list_attrs rest
can_interrupt_paragraph list list_attrs (comment s rest) = can_interrupt_paragraph list list_attrs rest
can_interrupt_paragraph list list_attrs (element name attrs kids rest) =
    let number = number_or (number_of (attr (ascii "value") attrs)) (start_of list_attrs) in
    eqb (tag_of name) tag.li && (has_text_before_list kids && (not (eqb list tag.ol) || eqb number 1))

-- ---- items

-- how an item begins: `blocks` says that it has blocks
unfoldable pub begin_item : Bool → ListContext → Step
begin_item blocks ctx t =
    and_then (cut (λ u. let v = trim_blanks u in cond blocks (trim_ascii_start v) v) t)
    (push (replicate ctx.list_indent 32 ++ prefix ctx))

unfoldable pub write_list_item : MDSerializer → Ancestors → Forest → ListContext → Step
write_list_item self anc node ctx t =
    let next = advance_ol_number ctx in
    and_then (and_then (begin_item false ctx t) (write_kids self anc (list_item next.opts) node)) (push (break_of next))

-- what the loop over an item's children knows: the context after its number is written, the blanks before its blocks, the
-- place where its content begins
pub record Item : Type 0 where
  pub ctx : ListContext
  pub indent : Bytes
  pub start : ℕ

-- and what changes from child to child
pub record Progress : Type 0 where
  pub is_first_block : Bool
  pub blank_line_due : Bool
  pub out : Out

unfoldable pub going : Bool → Bool → Progress → Step → Progress
going is_first_block blank_line_due p f =
    record { is_first_block = is_first_block; blank_line_due = blank_line_due; out = and_then p.out f }

unfoldable pub continuation : ℕ → Bool
continuation b = leb 0x80 b && leb b 0xBF

-- where a character begins, at n or before it
unfoldable pub boundary : ℕ → Bytes → ℕ
boundary zero t = 0
boundary (suc n) t = let earlier = boundary n t in cond (continuation (get_or t (suc n) 0)) earlier (suc n)

-- document 01: "here the cut goes before that character"
unfoldable pub truncate : ℕ → Bytes → Bytes
truncate n t = take (boundary n t) t

unfoldable pub at_line_start : Item → Bytes → Bool
at_line_start item t =
    eqb (length t) item.start
    || (ends_with item.indent t && ends_with (ascii "\n") (take (length t - length item.indent) t))

-- the lines behind the first, each on a line of its own
unfoldable pub more_lines : Item → List Bytes → Bytes
more_lines item [] = []
more_lines item (line ∷ more) =
    break_of item.ctx ++ (cond (null line) [] item.indent ++ (line ++ more_lines item more))

unfoldable pub block_lines : Item → List Bytes → Bytes
block_lines item [] = []
block_lines item (line ∷ more) = line ++ more_lines item more

unfoldable pub is_line_end : ℕ → Bool
is_line_end b = eqb b 10

-- behind other content the block goes to a line of its own
unfoldable pub own_line : Item → Step
own_line item t =
    cond (at_line_start item t) (keep t)
    (and_then (cut (λ u. truncate (max (length (trim_end u)) item.start) u) t)
    (push (break_of item.ctx ++ item.indent)))

-- a code block is written from column zero and then indented. It counts whole until its last line is appended
unfoldable pub write_list_item_indented : MDSerializer → Ancestors → Forest → Item → Step
write_list_item_indented self anc node item =
    let written = write self anc (include_node item.ctx.opts) node [] in
    let block = trim_end_matches (one is_line_end) (trim_start_matches is_line_end written.text) in
    nested written
    (λ t. beside (length written.text) (and_then (own_line item t) (push (block_lines item (split is_line_end block)))))

-- a rule stands on a line of its own; a cell has no line for one
unfoldable pub rule_block : Item → Progress → Progress
rule_block item p =
    let t = p.out.text in
    let short = trim_ascii_end t in
    let lb = break_of item.ctx in
    let rule = lb ++ (cond (ltb item.start (length short)) lb [] ++ (item.indent ++ (ascii "---" ++ lb))) in
    cond item.ctx.opts.table_cell
    (going p.is_first_block (p.blank_line_due || ltb item.start (length t)) p keep)
    (going false p.blank_line_due p (λ u. and_then (cut trim_ascii_end u) (push rule)))

-- what stands before a block: nothing before the first where nothing stands in the item yet, and before a first code block
unfoldable pub block_lead : Item → Bool → Bool → Bytes → Bytes
block_lead item is_first_block indented t =
    let lb = cond (ends_with (ascii "\n") t) [] (break_of item.ctx) in
    cond is_first_block (cond (not indented && ltb item.start (length t)) (lb ++ item.indent) [])
    (cond indented item.indent (lb ++ item.indent))

-- any other block, without its own node; a heading ends at its line end
unfoldable pub flow_block : MDSerializer → Ancestors → Forest → Item → Step
flow_block self anc node item t =
    let name = name_of node in
    let lb = break_of item.ctx in
    and_then (push (cond (is_heading name) (md_prefix name) []) t) λ t₁.
    and_then (write_kids self anc (list_item item.ctx.opts) node t₁) λ t₂.
    cond (is_heading name) (escape_closing_hashes t₂) (push lb t₂)

unfoldable pub block_child : MDSerializer → Ancestors → Forest → Item → Progress → Progress
block_child self anc node item p =
    let indented = eqb (name_of node) tag.pre in
    let body = cond indented (write_list_item_indented self anc node item) (flow_block self anc node item) in
    cond (eqb (name_of node) tag.hr) (rule_block item p)
    (going false (indented || p.blank_line_due) p
    (λ t.
    and_then (and_then (push (block_lead item p.is_first_block indented t) t) body) (push (break_of item.ctx))))

unfoldable pub inline_child : MDSerializer → Ancestors → Forest → Bool → Item → Progress → Progress
inline_child self anc node isBlankText item p =
    let opts = item.ctx.opts in
    let child_opts = cond (is_list (name_of node)) opts (list_item opts) in
    going p.is_first_block p.blank_line_due p
    (λ t.
    and_then
    (push (cond ((ltb item.start (length t) && ends_with (ascii "\n") t) && not isBlankText) item.indent []) t)
    (write self anc (include_node child_opts) node))

-- a blank line that is due is put before anything but a code block and a blank text
unfoldable pub due_line : Bool → Item → Progress → Progress
due_line exempt item p =
    cond (p.blank_line_due && not exempt) (going p.is_first_block false p (push (break_of item.ctx))) p

-- a child that is neither a comment nor skipped nor a wrapper, alone
unfoldable pub item_child : MDSerializer → Ancestors → Forest → Bool → Item → Progress → Progress
item_child self anc node isBlankText item p =
    let q = due_line (eqb (name_of node) tag.pre || isBlankText) item p in
    cond (node_is_list_item_block (name_of node)) (block_child self anc node item q)
    (inline_child self anc node isBlankText item q)

-- the children of the item; those of a wrapper take its place
unfoldable pub item_children : MDSerializer → Ancestors → Forest → Item → Progress → Progress
item_children self anc nothing item p = p
item_children self anc (text s rest) item p =
    item_children self anc rest item (item_child self anc (text s nothing) (is_blank s) item p)
item_children self anc (comment s rest) item p = item_children self anc rest item p
item_children self anc (element name attrs kids rest) item p =
    let unwrapped = item_children self (attrs ∷ anc) kids item p in
    let alone = item_child self anc (element name attrs kids nothing) false item p in
    item_children self anc rest item
    (cond (among name self.skip_tags) p (cond (node_is_block_wrapper (tag_of name) kids) unwrapped alone))

unfoldable pub item_from : ListContext → Out → Item
item_from ctx begun =
    record {
      ctx = advance_ol_number ctx;
      indent = replicate (ctx.list_indent + length (prefix ctx)) 32;
      start = length begun.text;
    }

unfoldable pub begun_with : Out → Progress
begun_with begun = record { is_first_block = true; blank_line_due = false; out = begun }

unfoldable pub write_list_item_blocks : MDSerializer → Ancestors → List Attr → Forest → ListContext → Step
write_list_item_blocks self anc attrs kids ctx t =
    let begun = begin_item true ctx t in
    let item = item_from ctx begun in
    let ended = item_children self (attrs ∷ anc) kids item (begun_with begun) in
    and_then ended.out (λ u. cond (ends_with (ascii "\n") u) (keep u) (push (break_of item.ctx) u))

-- ---- the list

-- "`<li value>` renumbers this item and the ones after it"
unfoldable pub renumbered : ListKind → Option ℕ → ListContext → ListContext
renumbered Ul n ctx = ctx
renumbered (Ol m) none ctx = ctx
renumbered (Ol m) (some n) ctx = with_kind (Ol n) ctx

unfoldable pub list_item_text : MDSerializer → Ancestors → Bytes → List Attr → Forest → ListContext → Step
list_item_text self anc name attrs kids ctx =
    cond (has_blocks kids) (write_list_item_blocks self anc attrs kids ctx)
    (write_list_item self anc (element name attrs kids nothing) ctx)

unfoldable pub list_children : MDSerializer → Ancestors → Forest → ListContext → Step
list_children self anc nothing ctx t = keep t
list_children self anc (text s rest) ctx t =
    and_then (write self anc (include_node (fresh ctx.opts)) (text s nothing) t) (list_children self anc rest ctx)
list_children self anc (comment s rest) ctx t = list_children self anc rest ctx t
list_children self anc (element name attrs kids rest) ctx t =
    let is_li = eqb (tag_of name) tag.li in
    let numbered = renumbered ctx.kind (number_of (attr (ascii "value") attrs)) ctx in
    let child = element name attrs kids nothing in
    and_then
    (cond is_li (list_item_text self anc name attrs kids numbered t) (write self anc (include_node (fresh ctx.opts)) child t))
    (list_children self anc rest (cond is_li (advance_ol_number numbered) ctx))

unfoldable pub kind_of : ℕ → List Attr → ListKind
kind_of name attrs = cond (eqb name tag.ol) (Ol (start_of attrs)) Ul

unfoldable pub write_list : MDSerializer → Ancestors → FormatOpts → ℕ → List Attr → Forest → Step
write_list self anc opts name attrs kids t =
    and_then (list_children self (attrs ∷ anc) kids (list_context opts (kind_of name attrs)) t)
    (λ u. cond opts.table_cell (keep u) (add_linebreaks (ascii "\n") (ascii "\n\n") u))
