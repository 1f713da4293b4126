-- The content column of an item: what is written at the indent of its blocks is read inside the item (CommonMark 5.2).
use Prim.Native.Nat.{ℕ, suc, ◌+◌, ◌<◌}
use Rattle.std.proofs.Common.{arith, ◌∙◌, length-append}
use Rattle.std.proofs.Math.Nat.{zero-add}
use Rattle.std.specs.Prelude.{◌≡◌, Bool, true, false, cond, ◌&&◌, List, [], ◌∷◌, ◌++◌}
use Rattle.std.proofs.Math.Path.{refl, sym, ap}
use Rattle.std.proofs.Math.Option.{some}
use Rattle.std.proofs.Math.ListN.{length, replicate}
use Rattle.std.proofs.lemmas.List.{length-replicate}
use borrow.Author.Tests.{lt-leb}
use Rattle.spec.specs.Bytes.{Bytes, ascii, decimal}
use Rattle.spec.specs.Entries.{Entry}
use Rattle.spec.specs.Out.{Out}
use Rattle.spec.specs.Md.Ctx.{prefix_of, prefix}
use Rattle.spec.specs.Md.Elements.List.{item_from}
use Rattle.spec.specs.Reading.Lines.{space_or_tab}
use Rattle.spec.specs.Reading.Starts.{start_in, thematic_break}
use Rattle.spec.specs.Reading.Held.{state, Leaf, text_leaf, item_role, closed, is_raw, is_paragraph}
use Rattle.spec.specs.Reading.Step.{kept, all_kept, base, content_column, opened, item_line, line_by, line_in, line, leaf_step, step_by, step}
use Rattle.spec.specs.declared.ctx.ListContext.{ListContext}
use Rattle.spec.specs.declared.ctx.ListKind.{ListKind}
use Rattle.spec.specs.declared.ctx.ListKind.TheVariants.{Ul, Ol}
use Rattle.recovery.proofs.Items.{base_last, behind_column, behind_strip, behind_blank, content_next, all_kept_lem, all_kept_more}
use Rattle.recovery.specs.Closed.{marker}
use Rattle.recovery.proofs.Markers.{solid, indented_blank, indented_column, indented_strip, marker_width, marker_solid}
use Rattle.recovery.proofs.Pieces.Marks.{small_kind, number_in, marker_read}

-- ---- the indent

-- a marker and its blank
prefix_width : (kind : ListKind) (cell : Bool)
    → length (prefix_of kind (cond cell (ascii "+ ") (ascii "- "))) ≡ suc (marker_width (number_in kind))
unfolding prefix_of marker_width number_in
prefix_width Ul true = refl
prefix_width Ul false = refl
prefix_width (Ol n) cell = rw (length-append (decimal n) (ascii ". ")) (omega arith)

-- the column behind the marker of an item
unfoldable pub behind_marker : ListContext → ℕ
behind_marker ctx = ctx.list_indent + marker_width (number_in ctx.kind)

-- 5.2: the blocks of an item stand at the content column of its marker, behind which stands one blank
pub item_column : (ctx : ListContext) (begun : Out)
    → content_column (behind_marker ctx) (suc (behind_marker ctx)) ≡ length (item_from ctx begun).indent
unfolding item_from prefix behind_marker
item_column ctx begun =
    content_next (ctx.list_indent + marker_width (number_in ctx.kind))
    ∙ rw (length-replicate, prefix_width ctx.kind ctx.opts.table_cell) (omega arith)

-- the indent is as many blanks
pub indent_blanks : (ctx : ListContext) (begun : Out) → (item_from ctx begun).indent ≡ replicate (suc (behind_marker ctx)) 32
unfolding item_from prefix behind_marker
indent_blanks ctx begun =
    let e : ctx.list_indent + length (prefix ctx) ≡ suc (ctx.list_indent + marker_width (number_in ctx.kind)) =
    unfold prefix in rw (prefix_width ctx.kind ctx.opts.table_cell) (omega arith) in
    ap (λ (n : ℕ). replicate n 32) e

-- ---- the line that begins an item

prefix_solid : (kind : ListKind) (cell : Bool) (t : Bytes) → solid (prefix_of kind (cond cell (ascii "+ ") (ascii "- ")) ++ t) ≡ true
unfolding prefix_of
prefix_solid Ul true t = unfold solid space_or_tab in refl
prefix_solid Ul false t = unfold solid space_or_tab in refl
prefix_solid (Ol n) cell t = unfold marker in marker_solid (some n) t

-- What stands behind the marker is a line of the item, at its content column: that of the indent. The marker stands at most three columns
-- behind the content of the items that go on, no paragraph is open there, and the line is no thematic break
pub item_opens : (ctx : ListContext) (begun : Out) (t : Bytes) (o : List Entry) (op : List ℕ) (lf : Leaf)
    → is_raw lf ≡ false
    → ctx.list_indent < base 0 (kept ctx.list_indent op) + 4
    → small_kind ctx.kind ≡ true
    → solid t ≡ true
    → thematic_break 45 1 (32 ∷ t) ≡ false
    → (all_kept ctx.list_indent op && is_paragraph lf) ≡ false
    → step (state o op lf) (replicate ctx.list_indent 32 ++ (prefix ctx ++ t))
    ≡ line (length (replicate ctx.list_indent 32 ++ (prefix ctx ++ t))) true
    (kept ctx.list_indent op ++ (length (item_from ctx begun).indent ∷ [])) (length (item_from ctx begun).indent) t
    (o ++ closed lf) (kept ctx.list_indent op ++ (length (item_from ctx begun).indent ∷ []))
    (text_leaf (item_role (suc (length (kept ctx.list_indent op))) (number_in ctx.kind)) [])
unfolding step step_by leaf_step line line_in start_in line_by item_line opened
item_opens ctx begun t o op lf raw near small s rule par =
    let i : ℕ = ctx.list_indent in
    let r : Bytes = prefix ctx ++ t in
    let first : solid r ≡ true = unfold prefix in prefix_solid ctx.kind ctx.opts.table_cell t in
    let m : ℕ = i + marker_width (number_in ctx.kind) in
    let c : suc m ≡ length (item_from ctx begun).indent = sym (content_next m) ∙ (unfold behind_marker in item_column ctx begun) in
    rw (
      raw,
      indented_blank i r first,
      indented_column 0 i r first,
      indented_strip i r first,
      zero-add i,
      lt-leb (base 0 (kept i op) + 4) i near,
      par,
      marker_read ctx t small rule,
      behind_blank t s,
      behind_column m t s,
      behind_strip t s,
      content_next m,
      c,
    )

-- ---- a line at the indent

-- It belongs to the item and to those around it, and is read there as what stands behind the indent: ks are the columns of the items
-- around it
pub line_in_item : (ctx : ListContext) (begun : Out) (l : Bytes) (o : List Entry) (ks : List ℕ) (lf : Leaf)
    → is_raw lf ≡ false
    → solid l ≡ true
    → all_kept ctx.list_indent ks ≡ true
    → step (state o (ks ++ (length (item_from ctx begun).indent ∷ [])) lf) ((item_from ctx begun).indent ++ l)
    ≡ line_by (line (length ((item_from ctx begun).indent ++ l))) (start_in (is_paragraph lf) l) true
    (ks ++ (length (item_from ctx begun).indent ∷ [])) (length (item_from ctx begun).indent) l o
    (ks ++ (length (item_from ctx begun).indent ∷ [])) lf
unfolding step step_by leaf_step line line_in
line_in_item ctx begun l o ks lf raw s goes =
    let c : ℕ = suc (behind_marker ctx) in
    let n : length (replicate {A = ℕ} c 32) ≡ c = length-replicate c 32 in
    let k : all_kept c (ks ++ (c ∷ [])) ≡ true =
    all_kept_more ctx.list_indent c c ks goes (unfold behind_marker in omega arith) (omega arith) in
    rw (
      indent_blanks ctx begun,
      n,
      raw,
      indented_blank c l s,
      indented_column 0 c l s,
      indented_strip c l s,
      zero-add c,
      k,
      all_kept_lem c (ks ++ (c ∷ [])) k,
      base_last 0 c ks,
      lt-leb (c + 4) c (omega arith),
    )
