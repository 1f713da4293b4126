-- Two serializers whose writers do the same on what stands below an element do the same on the element.
use Rattle.std.specs.Prelude.{ℕ, zero, suc, ◌≤◌, ◌<◌, ◌≡◌, Bool}
use native.Mathlib.Omega.{arith}
use Rattle.std.proofs.Math.Path.{refl, ap₂, fun_ext}
use Rattle.std.proofs.Common.{ap}
use Rattle.std.proofs.Math.Bool.{true, false, cond}
use mathlib.Core.List.{List, [], ◌∷◌, ◌++◌}
use Rattle.std.proofs.Math.Dec.{eqb}
use Rattle.spec.specs.Bytes.{Bytes, ascii, is_blank}
use Rattle.spec.specs.Names.{tag_of}
use Rattle.spec.specs.Names as tag
use Rattle.spec.specs.Tree.{Attr, Forest, nothing, text, comment, element, attr, kids_of, attrs_of, height}
use Rattle.spec.specs.Out.{Step}
use Rattle.spec.specs.Md.Ctx.{include_node, fresh, advance_ol_number}
use Rattle.spec.specs.Md.MDSerializer.{Ancestors, Writer, MDSerializer, write_kids, write}
use Rattle.spec.specs.Md.Elements.Code.{inline_code, write_code}
use Rattle.spec.specs.Md.Elements.Emphasis.{write_emphasis}
use Rattle.spec.specs.Md.Elements.Link.{body_link, link_to, href_or, write_link}
use Rattle.spec.specs.Md.Elements.Table.{Cell, cells_of, rows_of, from_cells, is_table_cell, table_header_row, data_rows, all_th, cell_text, row_texts, table_texts, write_table}
use Rattle.spec.specs.Md.Elements.List.{write_list_item, Item, Progress, write_list_item_indented, flow_block, block_child, inline_child, item_child, item_children, write_list_item_blocks, renumbered, number_of, list_item_text, list_children, write_list}
use Rattle.spec.specs.Md.Serializer.{write_element, in_element, write_element_node, write_nodes, write_at}
use Rattle.spec.specs.declared.ctx.FormatOpts.{FormatOpts}
use Rattle.spec.specs.declared.ctx.ListContext.{ListContext}

-- two writers do the same on forests of fewer than k levels
abbrev pub Agree : ℕ → Writer → Writer → Type 0
Agree k v w = (anc : Ancestors) (opts : FormatOpts) (f : Forest) (t : Bytes) → height f < k → v anc opts f t ≡ w anc opts f t

abbrev over : List Bytes → Writer → MDSerializer
over skips w = record { skip_tags = skips; below = w }

module _ (skips : List Bytes) (v w : Writer) (k : ℕ) (agree : Agree k v w) where
  kids_same : (anc : Ancestors) (opts : FormatOpts) (node : Forest) → height (kids_of node) < k
      → write_kids (over skips v) anc opts node ≡ write_kids (over skips w) anc opts node
  unfolding write_kids
  kids_same anc opts node low = fun_ext (λ t. rw (agree (attrs_of node ∷ anc) opts (kids_of node) t low))

  emphasis_same : (anc : Ancestors) (opts : FormatOpts) (n : ℕ) (attrs : List Attr) (kids : Forest) → height kids < k
      → write_emphasis (over skips v) anc opts n attrs kids ≡ write_emphasis (over skips w) anc opts n attrs kids
  unfolding write_emphasis
  emphasis_same anc opts n attrs kids low = rw (agree (attrs ∷ anc) _ kids [] low)

  body_same : (anc : Ancestors) (opts : FormatOpts) (href name : Bytes) (attrs : List Attr) (kids : Forest) → height kids < k
      → body_link (over skips v) anc opts href name attrs kids ≡ body_link (over skips w) anc opts href name attrs kids
  unfolding body_link kids_of
  body_same anc opts href name attrs kids low = rw (kids_same anc _ (element name attrs kids nothing) low)

  link_to_same : (anc : Ancestors) (opts : FormatOpts) (href name : Bytes) (attrs : List Attr) (kids : Forest) → height kids < k
      → link_to (over skips v) anc opts href name attrs kids ≡ link_to (over skips w) anc opts href name attrs kids
  unfolding link_to
  link_to_same anc opts href name attrs kids low = fun_ext (λ t. rw (body_same anc opts href name attrs kids low))

  link_same : (anc : Ancestors) (opts : FormatOpts) (name : Bytes) (attrs : List Attr) (kids : Forest) → height kids < k
      → write_link (over skips v) anc opts name attrs kids ≡ write_link (over skips w) anc opts name attrs kids
  unfolding write_link kids_of
  link_same anc opts name attrs kids low =
      ap₂ (href_or (attr (ascii "href") attrs)) (fun_ext (λ href. link_to_same anc opts href name attrs kids low))
      (kids_same anc (fresh opts) (element name attrs kids nothing) low)

  -- ---- tables

  abbrev Low : List Cell → Type 0
  Low [] = Unit {0}
  Low (c ∷ row) = (height (kids_of c.node) < k) × Low row

  abbrev LowRows : List (List Cell) → Type 0
  LowRows [] = Unit {0}
  LowRows (row ∷ rows) = Low row × LowRows rows

  low_append : (xs ys : List (List Cell)) → LowRows xs → LowRows ys → LowRows (xs ++ ys)
  low_append [] ys p q = q
  low_append (x ∷ xs) ys p q = (p.0, low_append xs ys p.1 q)

  low_cells : (anc : Ancestors) (f : Forest) → height f ≤ k → Low (cells_of anc f)
  unfolding cells_of height kids_of
  low_cells anc nothing h = tt
  low_cells anc (text s rest) h = low_cells anc rest h
  low_cells anc (comment s rest) h = low_cells anc rest h
  low_cells anc (element name attrs kids rest) h =
      go (is_table_cell (tag_of name)) (low_cells anc rest (omega arith))
    where
      go : (b : Bool) → Low (cells_of anc rest)
          → Low (cond b (record { ancestors = anc; is_th = eqb (tag_of name) tag.th; node = element name attrs kids nothing } ∷ cells_of anc rest) (cells_of anc rest))
      go true p = (omega arith, p)
      go false p = p

  low_rows : (anc : Ancestors) (f : Forest) → height f ≤ k → LowRows (rows_of anc f)
  unfolding rows_of height
  low_rows anc nothing h = tt
  low_rows anc (text s rest) h = low_rows anc rest h
  low_rows anc (comment s rest) h = low_rows anc rest h
  low_rows anc (element name attrs kids rest) h =
      low_append (cond (eqb (tag_of name) tag.tr) (cells_of (attrs ∷ anc) kids ∷ []) []) _
      (own (eqb (tag_of name) tag.tr))
      (low_append (rows_of (attrs ∷ anc) kids) _ (low_rows (attrs ∷ anc) kids (omega arith)) (low_rows anc rest (omega arith)))
    where
      own : (b : Bool) → LowRows (cond b (cells_of (attrs ∷ anc) kids ∷ []) [])
      own true = (low_cells (attrs ∷ anc) kids (omega arith), tt)
      own false = tt

  low_from : (rows : List (List Cell)) → LowRows rows → LowRows (from_cells rows)
  unfolding from_cells
  low_from [] p = tt
  low_from ([] ∷ rows) p = low_from rows p.1
  low_from ((c ∷ row) ∷ rows) p = p

  low_header : (rows : List (List Cell)) → LowRows rows → Low (table_header_row rows)
  unfolding table_header_row
  low_header [] p = tt
  low_header (row ∷ rows) p = go (all_th row)
    where
      go : (b : Bool) → Low (cond b row [])
      go true = p.0
      go false = tt

  low_data : (rows : List (List Cell)) → LowRows rows → LowRows (data_rows rows)
  unfolding data_rows
  low_data [] p = tt
  low_data (row ∷ rows) p = go (all_th row)
    where
      go : (b : Bool) → LowRows (cond b rows (row ∷ rows))
      go true = p.1
      go false = p

  row_same : (opts : FormatOpts) (row : List Cell) → Low row → row_texts (over skips v) opts row ≡ row_texts (over skips w) opts row
  unfolding row_texts cell_text
  row_same opts [] p = refl
  row_same opts (c ∷ row) p = rw (kids_same c.ancestors _ c.node p.0, row_same opts row p.1)

  rows_same : (opts : FormatOpts) (rows : List (List Cell)) → LowRows rows
      → table_texts (over skips v) opts rows ≡ table_texts (over skips w) opts rows
  unfolding table_texts
  rows_same opts [] p = refl
  rows_same opts (row ∷ rows) p = rw (row_same opts row p.0, rows_same opts rows p.1)

  table_same : (anc : Ancestors) (opts : FormatOpts) (name : Bytes) (attrs : List Attr) (kids : Forest) → height kids < k
      → write_table (over skips v) anc opts name attrs kids ≡ write_table (over skips w) anc opts name attrs kids
  unfolding write_table kids_of
  table_same anc opts name attrs kids low =
      let p : LowRows (from_cells (rows_of (attrs ∷ anc) kids)) = low_from _ (low_rows (attrs ∷ anc) kids (omega arith)) in
      fun_ext
      (λ t.
      rw (
        row_same opts (table_header_row (from_cells (rows_of (attrs ∷ anc) kids))) (low_header _ p),
        rows_same opts (data_rows (from_cells (rows_of (attrs ∷ anc) kids))) (low_data _ p),
        kids_same anc (fresh opts) (element name attrs kids nothing) low,
      ))

  -- ---- lists

  item_same : (anc : Ancestors) (node : Forest) (ctx : ListContext) → height (kids_of node) < k
      → write_list_item (over skips v) anc node ctx ≡ write_list_item (over skips w) anc node ctx
  unfolding write_list_item
  item_same anc node ctx low = fun_ext (λ t. rw (kids_same anc _ node low))

  indented_same : (anc : Ancestors) (node : Forest) (item : Item) → height node < k
      → write_list_item_indented (over skips v) anc node item ≡ write_list_item_indented (over skips w) anc node item
  unfolding write_list_item_indented write
  indented_same anc node item low = rw (agree anc _ node [] low)

  flow_same : (anc : Ancestors) (node : Forest) (item : Item) → height (kids_of node) < k
      → flow_block (over skips v) anc node item ≡ flow_block (over skips w) anc node item
  unfolding flow_block
  flow_same anc node item low = fun_ext (λ t. rw (kids_same anc _ node low))

  -- a node alone has fewer levels than k, and so has what stands in it
  abbrev LowNode : Forest → Type 0
  LowNode node = (height node < k) × (height (kids_of node) < k)

  block_same : (anc : Ancestors) (node : Forest) (item : Item) (p : Progress) → LowNode node
      → block_child (over skips v) anc node item p ≡ block_child (over skips w) anc node item p
  unfolding block_child
  block_same anc node item p low = rw (indented_same anc node item low.0, flow_same anc node item low.1)

  write_same : (anc : Ancestors) (opts : FormatOpts) (node : Forest) → height node < k
      → write (over skips v) anc (include_node opts) node ≡ write (over skips w) anc (include_node opts) node
  unfolding write
  write_same anc opts node low = fun_ext (λ t. agree anc (include_node opts) node t low)

  inline_same : (anc : Ancestors) (node : Forest) (b : Bool) (item : Item) (p : Progress) → LowNode node
      → inline_child (over skips v) anc node b item p ≡ inline_child (over skips w) anc node b item p
  unfolding inline_child
  inline_same anc node b item p low = rw (write_same anc _ node low.0)

  child_same : (anc : Ancestors) (node : Forest) (b : Bool) (item : Item) (p : Progress) → LowNode node
      → item_child (over skips v) anc node b item p ≡ item_child (over skips w) anc node b item p
  unfolding item_child
  child_same anc node b item p low = rw (block_same anc node item _ low, inline_same anc node b item _ low)

  children_same : (anc : Ancestors) (f : Forest) (item : Item) (p : Progress) → height f < k
      → item_children (over skips v) anc f item p ≡ item_children (over skips w) anc f item p
  unfolding item_children height kids_of
  children_same anc nothing item p low = refl
  children_same anc (text s rest) item p low =
      rw (child_same anc (text s nothing) (is_blank s) item p (omega arith, omega arith)) (children_same anc rest item _ low)
  children_same anc (comment s rest) item p low = children_same anc rest item p low
  children_same anc (element name attrs kids rest) item p low =
      rw (
        children_same (attrs ∷ anc) kids item p (omega arith),
        child_same anc (element name attrs kids nothing) false item p (omega arith, omega arith),
      )
      (children_same anc rest item _ (omega arith))

  blocks_same : (anc : Ancestors) (attrs : List Attr) (kids : Forest) (ctx : ListContext) → height kids < k
      → write_list_item_blocks (over skips v) anc attrs kids ctx ≡ write_list_item_blocks (over skips w) anc attrs kids ctx
  unfolding write_list_item_blocks
  blocks_same anc attrs kids ctx low = fun_ext (λ t. rw (children_same (attrs ∷ anc) kids _ _ low))

  list_item_same : (anc : Ancestors) (name : Bytes) (attrs : List Attr) (kids : Forest) (ctx : ListContext) → height kids < k
      → list_item_text (over skips v) anc name attrs kids ctx ≡ list_item_text (over skips w) anc name attrs kids ctx
  unfolding list_item_text kids_of
  list_item_same anc name attrs kids ctx low =
      rw (blocks_same anc attrs kids ctx low, item_same anc (element name attrs kids nothing) ctx low)

  list_children_same : (anc : Ancestors) (f : Forest) (ctx : ListContext) → height f < k
      → list_children (over skips v) anc f ctx ≡ list_children (over skips w) anc f ctx
  unfolding list_children height
  list_children_same anc nothing ctx low = refl
  list_children_same anc (text s rest) ctx low =
      fun_ext (λ t. rw (write_same anc _ (text s nothing) (omega arith), list_children_same anc rest ctx low))
  list_children_same anc (comment s rest) ctx low = fun_ext (λ t. rw (list_children_same anc rest ctx low))
  list_children_same anc (element name attrs kids rest) ctx low =
      let numbered : ListContext = renumbered ctx.kind (number_of (attr (ascii "value") attrs)) ctx in
      let next : ListContext = cond (eqb (tag_of name) tag.li) (advance_ol_number numbered) ctx in
      fun_ext
      (λ t.
      rw (
        list_item_same anc name attrs kids numbered (omega arith),
        write_same anc (fresh ctx.opts) (element name attrs kids nothing) (omega arith),
        list_children_same anc rest next (omega arith),
      ))

  list_same : (anc : Ancestors) (opts : FormatOpts) (n : ℕ) (attrs : List Attr) (kids : Forest) → height kids < k
      → write_list (over skips v) anc opts n attrs kids ≡ write_list (over skips w) anc opts n attrs kids
  unfolding write_list
  list_same anc opts n attrs kids low = fun_ext (λ t. rw (list_children_same (attrs ∷ anc) kids _ low))

  -- ---- nodes

  code_same : (anc : Ancestors) (opts : FormatOpts) (name : Bytes) (attrs : List Attr) (kids : Forest)
      → write_code (over skips v) anc opts name attrs kids ≡ write_code (over skips w) anc opts name attrs kids
  unfolding write_code inline_code
  code_same anc opts name attrs kids = refl

  element_same : (anc : Ancestors) (opts : FormatOpts) (name : Bytes) (attrs : List Attr) (kids : Forest) → height kids < k
      → write_element (over skips v) anc opts name attrs kids ≡ write_element (over skips w) anc opts name attrs kids
  unfolding write_element
  element_same anc opts name attrs kids low =
      rw (
        list_same anc opts (tag_of name) attrs kids low,
        link_same anc opts name attrs kids low,
        table_same anc opts name attrs kids low,
        code_same anc opts name attrs kids,
        emphasis_same anc opts (tag_of name) attrs kids low,
      )

  in_element_same : (anc : Ancestors) (opts : FormatOpts) (name : Bytes) (attrs : List Attr) (kids : Forest) → height kids < k
      → in_element (over skips v) anc opts name attrs kids ≡ in_element (over skips w) anc opts name attrs kids
  unfolding in_element
  in_element_same anc opts name attrs kids low =
      fun_ext (λ t. rw (element_same anc opts name attrs kids low, agree (attrs ∷ anc) opts kids t low))

  nodes_same : (anc : Ancestors) (opts : FormatOpts) (f : Forest) → height f ≤ k
      → write_nodes (over skips v) anc opts f ≡ write_nodes (over skips w) anc opts f
  unfolding write_nodes write_element_node height
  nodes_same anc opts nothing low = refl
  nodes_same anc opts (text s rest) low = fun_ext (λ t. rw (nodes_same anc opts rest low))
  nodes_same anc opts (comment s rest) low = fun_ext (λ t. rw (nodes_same anc opts rest low))
  nodes_same anc opts (element name attrs kids rest) low =
      fun_ext (λ t. rw (in_element_same anc opts name attrs kids (omega arith), nodes_same anc opts rest (omega arith)))

pub levels_agree : (skips : List Bytes) (k n m : ℕ) → k ≤ n → k ≤ m → Agree k (write_at skips n) (write_at skips m)
unfolding write_at
levels_agree skips zero n m p q anc opts f t low = absurd (omega arith)
levels_agree skips (suc k) zero m p q anc opts f t low = absurd (omega arith)
levels_agree skips (suc k) (suc n) zero p q anc opts f t low = absurd (omega arith)
levels_agree skips (suc k) (suc n) (suc m) p q anc opts f t low =
    ap (λ (g : Step). g t)
    (nodes_same skips (write_at skips n) (write_at skips m) k (levels_agree skips k n m (omega arith) (omega arith)) anc opts f (omega arith))
