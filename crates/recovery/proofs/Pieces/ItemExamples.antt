-- Items with blocks, evaluated: what is written of a code block alone, and the exceptions.
use Rattle.std.specs.Prelude.{ℕ, suc, ◌≡◌, true, false, eqb}
use Rattle.std.proofs.Math.Path.{refl}
use Rattle.std.proofs.Common.{◌∙◌}
use mathlib.Core.List.{List, [], ◌++◌}
use borrow.Author.Tests.{eqb-true}
use Rattle.spec.specs.Bytes.{Bytes, ascii, same, isin, among, ends_with, or_nothing}
use Rattle.spec.specs.Everything.{everything}
use Rattle.spec.specs.Names as tag
use Rattle.spec.specs.Names.{tag_of}
use Rattle.spec.specs.Out.{keep, push, and_then}
use Rattle.spec.specs.Tree.{Attr, Forest, nothing, text, element, text_of}
use Rattle.spec.specs.Md.Ctx.{include_node}
use Rattle.spec.specs.Md.Elements.Blocks.{is_md_block, is_list}
use Rattle.spec.specs.Md.Elements.Code.{find_code_language, fenced_block}
use Rattle.spec.specs.Md.Heading.{md_prefix}
use Rattle.spec.specs.Md.MDSerializer.{Ancestors, write}
use Rattle.spec.specs.Md.Serializer.{open_break, opened, has_writer, write_element, in_element, write_element_node, write_nodes, write_at, serializer, serialize}
use Rattle.spec.specs.declared.ctx.FormatOpts.{FormatOpts}
use Rattle.recovery.proofs.Pieces.Pre.{line_begun, pre_block}

-- ---- a code block alone

pub pre_alone : (skips : List Bytes) (n : ℕ) (anc : Ancestors) (opts : FormatOpts) (name : Bytes) (attrs : List Attr) (kids : Forest)
    → eqb (tag_of name) tag.pre ≡ true → among name skips ≡ false → opts.skip_md ≡ false → opts.link_body ≡ false
    → (write (serializer skips (suc n)) anc (include_node opts) (element name attrs kids nothing) []).text
    ≡ ascii "\n" ++ fenced_block (or_nothing (find_code_language anc attrs kids)) (text_of kids)
unfolding write serializer write_at write_nodes write_element_node opened open_break in_element has_writer write_element is_md_block is_list md_prefix isin and_then push keep
pre_alone skips n anc opts name attrs kids h k s l =
    let begun : line_begun [] ++ fenced_block (or_nothing (find_code_language anc attrs kids)) (text_of kids)
    ≡ ascii "\n" ++ fenced_block (or_nothing (find_code_language anc attrs kids)) (text_of kids) = unfold line_begun ends_with same in refl in
    rw (k, eqb-true (tag_of name) tag.pre h, s, l) (pre_block anc _ attrs kids [] refl ∙ begun)

-- ---- examples and exceptions

unfoldable pub written_of : Forest → Bytes
written_of f = (serialize (serializer [] 8) f 0 false).text

unfoldable pub bullet_item : Forest → Forest
bullet_item kids = element (ascii "ul") [] (element (ascii "li") [] kids nothing) nothing

unfoldable pub holding : Bytes → Bytes → Forest → Forest
holding name s rest = element name [] (text s nothing) rest

-- blocks at the content column, as the theorems have them
pub blocks_stand :
    written_of
    (bullet_item
    (holding (ascii "p") (ascii "a")
    (element (ascii "p") [] (text (ascii "1") (text (ascii ". b") nothing)) (holding (ascii "pre") (ascii "c\n\n d") (holding (ascii "h2") (ascii "e") nothing)))))
    ≡ ascii "- a\n\n  1\\. b\n\n  ```\n  c\n\n   d\n  ```\n\n  ## e"
unfolding everything written_of bullet_item holding
blocks_stand = refl

-- a table in an item is no table: the texts of its cells are lines
pub table_lost :
    written_of
    (bullet_item
    (element (ascii "table") []
    (element (ascii "tr") [] (holding (ascii "th") (ascii "A") (holding (ascii "th") (ascii "B") nothing))
    (element (ascii "tr") [] (holding (ascii "td") (ascii "1") (holding (ascii "td") (ascii "2") nothing)) nothing)) nothing))
    ≡ ascii "- AB  \n12"
unfolding everything written_of bullet_item holding
table_lost = refl

-- a table in a `div` of an item stands at the beginning of its lines, behind the item
pub table_behind :
    written_of
    (bullet_item
    (text (ascii "a")
    (element (ascii "div") []
    (element (ascii "table") []
    (element (ascii "tr") [] (holding (ascii "th") (ascii "A") nothing) (element (ascii "tr") [] (holding (ascii "td") (ascii "1") nothing) nothing)) nothing)
    nothing)))
    ≡ ascii "- a\n\n\n| A |\n| - |\n| 1 |"
unfolding everything written_of bullet_item holding
table_behind = refl

-- behind an empty paragraph the blank line ends the item
pub item_ended : written_of (bullet_item (element (ascii "p") [] nothing (holding (ascii "p") (ascii "b") nothing))) ≡ ascii "-\n\n  b"
unfolding everything written_of bullet_item holding
item_ended = refl

-- a text before a paragraph is one paragraph with it
pub text_joined : written_of (bullet_item (text (ascii "a") (holding (ascii "p") (ascii "b") nothing))) ≡ ascii "- a\n  b"
unfolding everything written_of bullet_item holding
text_joined = refl

-- a line break in a paragraph is followed by a line at column 0, which goes on with the paragraph only as a lazy line
pub break_lazy :
    written_of (bullet_item (element (ascii "p") [] (text (ascii "a") (element (ascii "br") [] nothing (text (ascii "b") nothing))) nothing))
    ≡ ascii "- a  \nb"
unfolding everything written_of bullet_item holding
break_lazy = refl

-- CR in a code block ends a line for a reader, and the next line stands at column 0, behind the item
pub cr_leaves : written_of (bullet_item (holding (ascii "pre") (ascii "a\rb") nothing)) ≡ ascii "- ```\n  a\rb\n  ```"
unfolding everything written_of bullet_item holding
cr_leaves = refl
