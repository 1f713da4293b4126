-- `serializer.rs`.
use Rattle.std.specs.Prelude.{ℕ, zero, suc, ◌-◌, Bool, cond, not, ◌&&◌, ◌||◌, List, [], ◌∷◌, ◌++◌, eqb}
use Rattle.spec.specs.Bytes.{Bytes, ascii, isin, among, ends_with}
use Rattle.spec.specs.Names as tag
use Rattle.spec.specs.Names.{tag_of}
use Rattle.spec.specs.Tree.{Attr, Forest, nothing, text, comment, element, Found, node_at}
use Rattle.spec.specs.Out.{Out, Step, keep, push, and_then}
use Rattle.spec.specs.Md.Ctx.{new, set_node}
use Rattle.spec.specs.Md.LineBreak.{linebreak, double_linebreak}
use Rattle.spec.specs.Md.TextUtils.{
  push_normalized_text,
  add_linebreaks,
  push_block_space,
  trim_trailing_space,
  trim_space,
}
use Rattle.spec.specs.Md.Heading.{is_heading, md_prefix, escape_closing_hashes}
use Rattle.spec.specs.Md.MDSerializer.{Ancestors, Writer, MDSerializer, write}
use Rattle.spec.specs.Md.Elements.Blocks.{is_md_block, is_link_block, is_list}
use Rattle.spec.specs.Md.Elements.Image.{write_img}
use Rattle.spec.specs.Md.Elements.Code.{write_pre, write_code, blank_for_br}
use Rattle.spec.specs.Md.Elements.Emphasis.{write_emphasis}
use Rattle.spec.specs.Md.Elements.Link.{write_link}
use Rattle.spec.specs.Md.Elements.Table.{write_table, add_cell_block_break}
use Rattle.spec.specs.Md.Elements.List.{write_list, can_interrupt_paragraph}
use Rattle.spec.specs.declared.ctx.FormatOpts.{FormatOpts}

-- ---- an element's opening

unfoldable pub is_tight : FormatOpts → ℕ → List Attr → Forest → Bool
is_tight opts name attrs kids = opts.list_item && (is_list name && can_interrupt_paragraph name attrs kids)

-- the break before a block
unfoldable pub open_break : FormatOpts → ℕ → List Attr → Forest → Step
open_break opts name attrs kids t =
    let lb = linebreak opts.table_cell in
    let end = cond (is_tight opts name attrs kids) lb (double_linebreak opts.table_cell) in
    cond opts.link_body (cond (is_link_block name) (push_block_space t) (keep t))
    (cond (not (is_md_block name)) (keep t)
    (cond opts.table_cell (add_cell_block_break lb t) (add_linebreaks lb end t)))

-- `SerializeOp::Open` of an element, before its writer or its children
unfoldable pub opened : FormatOpts → ℕ → List Attr → Forest → Step
opened opts name attrs kids t =
    cond opts.skip_md (keep t)
    (and_then (open_break opts name attrs kids t) (push (cond opts.link_body [] (md_prefix name))))

-- ---- an element's close

unfoldable pub close_block : FormatOpts → Step
close_block opts t =
    let lb = linebreak opts.table_cell in
    cond opts.table_cell (add_cell_block_break lb t) (add_linebreaks lb (double_linebreak opts.table_cell) t)

-- a `br`, and an `li` or `tr` where no list or table writes it
unfoldable pub close_line : FormatOpts → Step
close_line opts t =
    let lb = linebreak opts.table_cell in
    and_then (trim_trailing_space t) (push (cond opts.link_body (ascii "<br>") (ascii "  " ++ lb)))

unfoldable pub close_md : FormatOpts → ℕ → Step
close_md opts name t =
    and_then (cond (is_heading name) (escape_closing_hashes t) (keep t))
    (λ u.
    cond (is_md_block name) (close_block opts u)
    (cond (isin name (tag.br ∷ tag.li ∷ tag.tr ∷ [])) (close_line opts u) (keep u)))

-- `SerializeOp::Close`
unfoldable pub closed : FormatOpts → ℕ → Step
closed opts name t =
    cond (ends_with (double_linebreak opts.table_cell) t) (keep t)
    (cond (opts.link_body && is_link_block name) (push_block_space t)
    (cond (not opts.skip_md) (close_md opts name t) (blank_for_br name t)))

-- ---- elements

-- the elements that a writer of their own takes up; in a link's text lists and tables are plain blocks
unfoldable pub has_writer : FormatOpts → ℕ → Bool
has_writer opts name =
    isin name (tag.a ∷ tag.img ∷ tag.pre ∷ tag.code ∷ tag.strong ∷ tag.b ∷ tag.em ∷ tag.i ∷ [])
    || (isin name (tag.ol ∷ tag.ul ∷ tag.table ∷ []) && not opts.link_body)

unfoldable pub write_element : MDSerializer → Ancestors → FormatOpts → Bytes → List Attr → Forest → Step
write_element self anc opts name attrs kids =
    let n = tag_of name in
    cond (is_list n) (write_list self anc opts n attrs kids)
    (cond (eqb n tag.a) (write_link self anc opts name attrs kids)
    (cond (eqb n tag.img) (write_img attrs)
    (cond (eqb n tag.pre) (write_pre anc opts attrs kids)
    (cond (eqb n tag.table) (write_table self anc opts name attrs kids)
    (cond (eqb n tag.code) (write_code self anc opts name attrs kids)
    (write_emphasis self anc opts n attrs kids))))))

unfoldable pub in_element : MDSerializer → Ancestors → FormatOpts → Bytes → List Attr → Forest → Step
in_element self anc opts name attrs kids t =
    let n = tag_of name in
    cond (not opts.skip_md && has_writer opts n) (write_element self anc opts name attrs kids t)
    (and_then (self.below (attrs ∷ anc) opts kids t) (closed opts n))

unfoldable pub write_element_node : MDSerializer → Ancestors → FormatOpts → Bytes → List Attr → Forest → Step
write_element_node self anc opts name attrs kids t =
    cond (among name self.skip_tags) (keep t)
    (and_then (opened opts (tag_of name) attrs kids t) (in_element self anc opts name attrs kids))

-- the nodes of a forest, each with itself
unfoldable pub write_nodes : MDSerializer → Writer
write_nodes self anc opts nothing t = keep t
write_nodes self anc opts (text s rest) t =
    and_then (push_normalized_text s opts t) (write_nodes self anc opts rest)
write_nodes self anc opts (comment s rest) t = write_nodes self anc opts rest t
write_nodes self anc opts (element name attrs kids rest) t =
    and_then (write_element_node self anc opts name attrs kids t) (write_nodes self anc opts rest)

-- ---- levels

-- n levels (document 01, "the levels left in the tree"): forests in which fewer than n elements stand within one another are written whole
unfoldable pub write_at : List Bytes → ℕ → Writer
write_at skips zero anc opts f t = keep t
write_at skips (suc n) anc opts f t =
    write_nodes (record { skip_tags = skips; below = write_at skips n }) anc opts f t

unfoldable pub serializer : List Bytes → ℕ → MDSerializer
serializer skips n = record { skip_tags = skips; below = write_at skips n }

-- enough for the 100 open elements of question 5
unfoldable pub levels : ℕ
levels = 101

-- ---- the start node

unfoldable pub write_found : MDSerializer → FormatOpts → Found → Step
write_found self opts found t = write self found.ancestors opts found.node t

-- node 0, the fragment: `write` knows no such node and writes nothing where it is not left out
unfoldable pub write_fragment : MDSerializer → FormatOpts → Forest → Step
write_fragment self opts f t =
    cond opts.include_node (keep t) (and_then (self.below [] opts f t) trim_space)

unfoldable pub serialize : MDSerializer → Forest → ℕ → Bool → Out
serialize self f start include_node =
    let opts = set_node include_node new in
    cond (eqb start 0) (write_fragment self opts f []) (write_found self opts (node_at (start - 1) [] f) [])
