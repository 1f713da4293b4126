-- The contexts of a list, and its children one after the other.
use Prim.Native.Nat.{ℕ, zero, suc, ◌+◌, ◌-◌, ◌*◌, ◌≤◌, ◌<◌, ◌^◌, min}
use native.Mathlib.Omega.{arith}
use mathlib.Core.Path.{◌≡◌, refl, ap, ap₂, sym, subst, ◌∙◌}
use mathlib.Core.Bool.{Bool, true, false, cond, ◌||◌}
use mathlib.Core.List.{List, ◌∷◌}
use mathlib.Core.Option.{Option, none, some}
use lib.Dec.{eqb}
use lib.ListN.{drop, get_or}
use borrow.Author.Tests.{eqb-true, eq-eqb}
use Rattle.spec.specs.Bytes.{Bytes, ascii, null, starts_with, white, digit, take_while, trim_start_matches}
use Rattle.spec.specs.Decimal.{length_nine}
use Rattle.spec.specs.Names as tag
use Rattle.spec.specs.Names.{tag_of}
use Rattle.spec.specs.Tree.{Attr, Forest, nothing, text, comment, element, attr, kids_of}
use Rattle.spec.specs.Out.{Out, keep, push, and_then}
use Rattle.spec.specs.Md.Ctx.{offset_of, list_context, with_kind, advanced, advance_ol_number, list_item, include_node, fresh, break_of}
use Rattle.spec.specs.Md.MDSerializer.{Ancestors, MDSerializer, write, write_kids}
use Rattle.spec.specs.Md.Serializer.{write_at, write_nodes, serializer}
use Rattle.spec.specs.Md.Elements.List.{clamped, parse_list_number, number_of, number_or, start_of, kind_of, renumbered, begin_item, write_list_item, name_of, has_blocks, list_item_text, list_children, write_list, write_list_item_blocks, Item, Progress, item_from, begun_with, item_children}
use Rattle.spec.specs.declared.ctx.FormatOpts.{FormatOpts}
use Rattle.spec.specs.declared.ctx.ListContext.{ListContext}
use Rattle.spec.specs.declared.ctx.ListKind.{ListKind}
use Rattle.spec.specs.declared.ctx.ListKind.TheVariants.{Ul, Ol}
use Rattle.spec.proofs.ListNumbers.{either_most, clamped_most}
use Rattle.text.proofs.Writing.{alike, keep_then, then_assoc}
use Rattle.tree.specs.Memory.{place_at, end_at}
use Rattle.tree.specs.Nodes.{body_at, name_at}
use Rattle.tree.specs.Represents.{Rep, Around, attrs_behind, head_of, rest_of}
use Rattle.tree.proofs.Firsts.{first, ended}
use Rattle.tree.proofs.Kin.{first_name}
use Rattle.lists_links.specs.Items.{item_of, ended_item}
use Rattle.lists_links.specs.declared.list.Item as text
use Rattle.text.specs.Writes.{Wrote}
use Rattle.elements.specs.ItemStep.{ended_list}
use Rattle.nodes.specs.Stands.{ElementAt, Placed, PlacedNode}
use Rattle.serializer.specs.ListStep.{list_head}
use Rattle.nodes.proofs.Interrupts.{element_name, element_kids}
use Rattle.serializer.proofs.Onward.{onward_children}
use Rattle.serializer.proofs.Placing.{node_placed, node_element}
use Rattle.serializer.specs.Writers.{Fits, FitsIn, WritesForest, WritesElement, progress_at}

-- ---- the step of a list is at most 12

ordered_most : (n : ℕ) → n ≤ 999999999 → offset_of (Ol n) ≤ 12
unfolding offset_of
ordered_most n h = omega (arith, length_nine n h)

told_most : (b : Bool) (n : ℕ) → n ≤ 999999999 → number_or (cond b none (some n)) 1 ≤ 999999999
unfolding number_or
told_most true n h = omega arith
told_most false n h = h

number_most : (o : Option Bytes) → number_or (number_of o) 1 ≤ 999999999
unfolding number_of number_or parse_list_number
number_most none = omega arith
number_most (some s) =
    let begun = trim_start_matches white s in
    let negative = starts_with (ascii "-") begun in
    let unsigned = cond (negative || starts_with (ascii "+") begun) (drop 1 begun) begun in
    let digits = take_while digit unsigned in
    told_most (null digits) (cond negative 0 (clamped (trim_start_matches (λ b. eqb b 48) digits)))
    (either_most negative (omega arith) (clamped_most (trim_start_matches (λ b. eqb b 48) digits)))

kind_most : (name : ℕ) (attrs : List Attr) → offset_of (kind_of name attrs) ≤ 12
unfolding kind_of start_of offset_of
kind_most name attrs = go (eqb name tag.ol)
  where
    go : (b : Bool) → offset_of (cond b (Ol (number_or (number_of (attr (ascii "start") attrs)) 1)) Ul) ≤ 12
    go true = ordered_most (number_or (number_of (attr (ascii "start") attrs)) 1) (number_most (attr (ascii "start") attrs))
    go false = omega arith

-- ---- the offsets fit

module _ (levels : ℕ) where
  fits_list : (opts : FormatOpts) (name : ℕ) (attrs : List Attr) → Fits opts (levels + 1) → FitsIn (list_context opts (kind_of name attrs)) levels
  unfolding list_context
  fits_list opts name attrs h = (omega (arith, h, kind_most name attrs), omega (arith, h))

  fits_with : (kind : ListKind) (ctx : ListContext) → FitsIn ctx levels → FitsIn (advanced kind ctx) levels
  unfolding advanced
  fits_with Ul ctx h = h
  fits_with (Ol n) ctx h = (omega (arith, h.1, ordered_most (min (n + 1) 999999999) (omega arith)), h.1)

  fits_next : (ctx : ListContext) → FitsIn ctx levels → FitsIn (advance_ol_number ctx) levels
  unfolding advance_ol_number
  fits_next ctx h = fits_with ctx.kind ctx h

  fits_numbered : (kind : ListKind) (o : Option ℕ) (ctx : ListContext) → FitsIn ctx levels → FitsIn (renumbered kind o ctx) levels
  unfolding renumbered with_kind
  fits_numbered Ul o ctx h = h
  fits_numbered (Ol m) none ctx h = h
  fits_numbered (Ol m) (some n) ctx h = h

  fits_either : (li : Bool) (a b : ListContext) → FitsIn a levels → FitsIn b levels → FitsIn (cond li a b) levels
  fits_either true a b p q = p
  fits_either false a b p q = q

  -- the contexts of a child and of what follows it
  pub fits_child : (li : Bool) (o : Option ℕ) (ctx numbered : ListContext) → numbered ≡ cond li (renumbered ctx.kind o ctx) ctx → FitsIn ctx levels → FitsIn numbered levels
  fits_child li o ctx numbered q h =
      subst (λ (x : ListContext). FitsIn x levels) (sym q) (fits_either li (renumbered ctx.kind o ctx) ctx (fits_numbered ctx.kind o ctx h) h)

  pub fits_behind : (li : Bool) (numbered next : ListContext) → next ≡ cond li (advance_ol_number numbered) numbered → FitsIn numbered levels → FitsIn next levels
  fits_behind li numbered next q h =
      subst (λ (x : ListContext). FitsIn x levels) (sym q) (fits_either li (advance_ol_number numbered) numbered (fits_next numbered h) h)

  -- the options of the content of an item without blocks
  pub fits_item : (ctx next : ListContext) (inner : FormatOpts) → next ≡ advance_ol_number ctx → inner ≡ list_item next.opts → FitsIn ctx levels → Fits inner levels
  fits_item ctx next inner q o h =
      subst (λ (x : FormatOpts). Fits x levels) (sym o) (subst (λ (x : ListContext). FitsIn x levels) (sym q) (fits_next ctx h)).0

-- ---- an item without blocks

pub item_parts : (self : MDSerializer) (anc : Ancestors) (node : Forest) (ctx next : ListContext) (inner : FormatOpts) (t : Bytes) → next ≡ advance_ol_number ctx → inner ≡ list_item next.opts
    → write_list_item self anc node ctx t ≡ and_then (begin_item false ctx t) (λ u. and_then (write_kids self anc inner node u) (push (break_of next)))
unfolding write_list_item
item_parts self anc node ctx next inner t q o =
    let whole : ListContext → FormatOpts → Out = λ x y. and_then (begin_item false ctx t) (λ u. and_then (write_kids self anc y node u) (push (break_of x))) in
    then_assoc (begin_item false ctx t) (write_kids self anc (list_item (advance_ol_number ctx).opts) node) (push (break_of (advance_ol_number ctx)))
    ∙ ap (λ (x : ListContext). whole x (list_item x.opts)) (sym q) ∙ ap (whole next) (sym o)

-- ---- an item with blocks

-- the falling number of its children
pub falls_children : {t to : ℕ} (n from : ℕ) → n * 147573952589676412928 + 73786976294838206464 ≡ t → to < 2 ^ 64 → n * 147573952589676412928 + 11 + (to - from) * 2 < t
falls_children n from q l = omega (arith, q, l)

pub fits_blocks : (levels : ℕ) (ctx : ListContext) (item : text.Item) (begun : Out) → item_of item ≡ item_from ctx begun → FitsIn ctx levels → FitsIn item.ctx levels
unfolding item_from
fits_blocks levels ctx item begun e h = subst (λ (x : ListContext). FitsIn x levels) (sym (ap (λ (i : Item). i.ctx) e)) (fits_next levels ctx h)

pub blocks_parts : (self : MDSerializer) (anc : Ancestors) (attrs : List Attr) (kids : Forest) (ctx : ListContext) (item : Item) (t : Bytes) → item ≡ item_from ctx (begin_item true ctx t)
    → write_list_item_blocks self anc attrs kids ctx t
    ≡ and_then (begin_item true ctx t) (λ u. and_then (item_children self (attrs ∷ anc) kids item (progress_at true false u)).out (ended_item item))
unfolding write_list_item_blocks begun_with and_then
blocks_parts self anc attrs kids ctx item t e =
    let begun = begin_item true ctx t in
    let whole : Item → Out = λ i. and_then begun (λ u. and_then (item_children self (attrs ∷ anc) kids i (progress_at true false u)).out (ended_item i)) in
    let its = item_from ctx begun in
    ap (λ (p : Progress). and_then p.out (ended_item its)) (onward_children self its (attrs ∷ anc) kids (begun_with begun))
    ∙ then_assoc begun (λ u. (item_children self (attrs ∷ anc) kids its (progress_at true false begun.text)).out) (ended_item its)
    ∙ ap whole (sym e)

-- ---- a list

module _ (sh : Bytes) (place name : ℕ) (opts : FormatOpts) {kind : ListKind} {ctx : ListContext}
    (c : ctx ≡ list_context opts kind) (k : kind ≡ kind_of name (attrs_behind sh place)) where
  pub fits_begun : (levels : ℕ) → Fits opts (levels + 1) → FitsIn ctx levels
  fits_begun levels h =
      subst (λ (x : ListContext). FitsIn x levels) (sym (c ∙ ap (list_context opts) k)) (fits_list levels opts name (attrs_behind sh place) h)

  pub list_parts : (self : MDSerializer) (anc : Ancestors) {ns : Bytes} {i : ℕ} {nm : Bytes} {attrs : List Attr} {kids : Forest} (t : Bytes) → place ≡ place_at ns i → name ≡ name_at sh (place_at ns i)
      → ElementAt sh ns i nm attrs kids → write_list self anc opts (tag_of nm) attrs kids t ≡ and_then (list_children self (attrs ∷ anc) kids ctx t) (ended_list opts)
  unfolding write_list
  list_parts self anc {nm = nm} {attrs} {kids} t p n x =
      let q : ctx ≡ list_context opts (kind_of (tag_of nm) attrs) = c ∙ ap (list_context opts) (k ∙ ap₂ kind_of (n ∙ element_name x) (ap (attrs_behind sh) p ∙ sym x.attrs_are)) in
      ap (λ (y : ListContext). and_then (list_children self (attrs ∷ anc) kids y t) (ended_list opts)) (sym q)

-- ---- a child of a list

-- a node that has a name is an element
pub named_element : (sh : Bytes) (p : ℕ) → 0 < name_at sh p → get_or sh p 0 ≡ 1
unfolding name_at
named_element sh p l = go (eqb (get_or sh p 0) 1) refl l
  where
    go : (b : Bool) → eqb (get_or sh p 0) 1 ≡ b → 0 < cond b (tag_of (body_at sh p)) 0 → get_or sh p 0 ≡ 1
    go true e l = eqb-true (get_or sh p 0) 1 e
    go false e l = absurd (omega (arith, l))

module _ (skips : List Bytes) (levels : ℕ) (anc : Ancestors) (ctx : ListContext) (t : Bytes) where
  abbrev plain : FormatOpts
  plain = include_node (fresh ctx.opts)

  write_nothing : write_at skips levels anc plain nothing t ≡ keep t
  unfolding write_at write_nodes
  write_nothing = go levels
    where
      go : (n : ℕ) → write_at skips n anc plain nothing t ≡ keep t
      go zero = refl
      go (suc n) = refl

  write_comment : (s : Bytes) → write_at skips levels anc plain (comment s nothing) t ≡ keep t
  unfolding write_at write_nodes
  write_comment s = go levels
    where
      go : (n : ℕ) → write_at skips n anc plain (comment s nothing) t ≡ keep t
      go zero = refl
      go (suc n) = refl

  other : (f : Forest) → rest_of f ≡ nothing → eqb (name_of f) 16 ≡ false → list_head (serializer skips levels) anc f ctx t ≡ write_at skips levels anc plain f t
  unfolding list_head rest_of name_of write serializer
  other nothing r n = sym write_nothing
  other (text s rest) r n = ap (λ (g : Forest). write_at skips levels anc plain (text s g) t) (sym r)
  other (comment s rest) r n = sym (ap (λ (g : Forest). write_at skips levels anc plain (comment s g) t) r ∙ write_comment s)
  other (element name attrs kids rest) r n = rw n (ap (λ (g : Forest). write_at skips levels anc plain (element name attrs kids g) t) (sym r))

  -- one that is no item is written by the serializer
  pub head_other : (sh ns : Bytes) (parent i : ℕ) (f : Forest) → Rep sh ns parent i (end_at ns i) f → i < end_at ns i → eqb (name_at sh (place_at ns i)) 16 ≡ false
      → list_head (serializer skips levels) anc f ctx t ≡ write_at skips levels anc (include_node (fresh ctx.opts)) f t
  head_other sh ns parent i f h l n =
      other f (ended sh ns parent (end_at ns i) (end_at ns i) (rest_of f) (first sh ns parent i (end_at ns i) f h l).after (omega arith))
      (ap (λ (k : ℕ). eqb k 16) (sym (first_name sh ns parent i (end_at ns i) f h l)) ∙ n)

-- an item
head_li : (self : MDSerializer) (anc : Ancestors) (name : Bytes) (attrs : List Attr) (kids rest : Forest) (ctx : ListContext) (t : Bytes) (blocks : Bool) → tag_of name ≡ 16 → blocks ≡ has_blocks kids
    → list_head self anc (element name attrs kids rest) ctx t ≡ cond blocks (write_list_item_blocks self anc attrs kids ctx) (write_list_item self anc (element name attrs kids nothing) ctx) t
unfolding list_head list_item_text
head_li self anc name attrs kids rest ctx t blocks n b = rw (eq-eqb (tag_of name) 16 n) (ap (λ (x : Bool). cond x (write_list_item_blocks self anc attrs kids ctx) (write_list_item self anc (element name attrs kids nothing) ctx) t) (sym b))

module _ {sh ns : Bytes} {i : ℕ} (p : PlacedNode sh ns i) (n : name_at sh (place_at ns i) ≡ 16) where
  its_element : get_or sh (place_at ns i) 0 ≡ 1
  its_element = named_element sh (place_at ns i) (omega (arith, n))

  pub item_placed : Placed sh ns i
  item_placed = node_placed p its_element

  pub head_item : (self : MDSerializer) (ctx : ListContext) (blocks : Bool) {d room : ℕ} {t after : Bytes} {r : Wrote} → d ≡ end_at ns i
      → ((parent : ℕ) (f : Forest) → Rep sh ns parent (i + 1) d f → blocks ≡ has_blocks f)
      → WritesElement sh ns i (λ anc name attrs kids. cond blocks (write_list_item_blocks self anc attrs kids ctx) (write_list_item self anc (element name attrs kids nothing) ctx)) t room after r
      → WritesForest sh ns i (end_at ns i) (λ anc f. list_head self anc f ctx) t room after r
  head_item self ctx blocks {d} {room} {t} {after} {r} q b w =
      record {
        for = λ parent f anc h a.
            let k = first sh ns parent i (end_at ns i) f h p.later in
            let name = body_at sh (place_at ns i) in
            let attrs = attrs_behind sh (place_at ns i) in
            let x = node_element sh ns parent i (end_at ns i) f h p.later p.alone.positive its_element in
            alike
            (ap (λ (g : Forest). list_head self anc g ctx t) (k.element_is its_element)
            ∙ head_li self anc name attrs (kids_of f) (rest_of f) ctx t blocks (sym (element_name x) ∙ n) (b i (kids_of f) (element_kids x q)))
            (w.for name attrs (kids_of f) anc x (subst (λ (y : ℕ). Around sh ns y anc) (sym k.parent_is) a));
      }

-- ---- the children of a list one after the other

module _ (self : MDSerializer) (anc : Ancestors) where
  pub list_none : (ctx : ListContext) (t : Bytes) → list_children self anc nothing ctx t ≡ keep t
  unfolding list_children
  list_none ctx t = refl

  module _ (ctx : ListContext) (t : Bytes) where
    other_first : (g : Forest) → eqb (name_of g) 16 ≡ false → list_children self anc g ctx t ≡ and_then (list_head self anc (head_of g) ctx t) (list_children self anc (rest_of g) ctx)
    unfolding list_children list_head head_of rest_of name_of
    other_first nothing n = sym (keep_then t (list_children self anc nothing ctx))
    other_first (text s rest) n = refl
    other_first (comment s rest) n = sym (keep_then t (list_children self anc rest ctx))
    other_first (element name attrs kids rest) n = rw n

    item_first : (name : Bytes) (attrs : List Attr) (kids rest : Forest) → eqb (name_of (element name attrs kids rest)) 16 ≡ true →
        let numbered = renumbered ctx.kind (number_of (attr (ascii "value") attrs)) ctx in
        list_children self anc (element name attrs kids rest) ctx t
        ≡ and_then (list_head self anc (head_of (element name attrs kids rest)) numbered t) (list_children self anc (rest_of (element name attrs kids rest)) (advance_ol_number numbered))
    unfolding list_children list_head head_of rest_of name_of
    item_first name attrs kids rest n = rw n

    -- the first has the context `numbered`, what follows it `next`
    pub list_first : (sh ns : Bytes) (parent i e : ℕ) (g : Forest) → Rep sh ns parent i e g → i < e → (place : ℕ) (li : Bool) (numbered next : ListContext)
        → place ≡ place_at ns i → li ≡ eqb (name_at sh (place_at ns i)) 16
        → numbered ≡ cond li (renumbered ctx.kind (number_of (attr (ascii "value") (attrs_behind sh place))) ctx) ctx
        → next ≡ cond li (advance_ol_number numbered) numbered
        → list_children self anc g ctx t ≡ and_then (list_head self anc (head_of g) numbered t) (list_children self anc (rest_of g) next)
    list_first sh ns parent i e g h l place li numbered next p n a b = go li n a b
      where
        go : (li : Bool) → li ≡ eqb (name_at sh (place_at ns i)) 16
            → numbered ≡ cond li (renumbered ctx.kind (number_of (attr (ascii "value") (attrs_behind sh place))) ctx) ctx
            → next ≡ cond li (advance_ol_number numbered) numbered
            → list_children self anc g ctx t ≡ and_then (list_head self anc (head_of g) numbered t) (list_children self anc (rest_of g) next)
        go true n a b =
            let k = eqb-true (name_at sh (place_at ns i)) 16 (sym n) in
            let q : get_or sh (place_at ns i) 0 ≡ 1 = named_element sh (place_at ns i) (omega (arith, k)) in
            let attrs = attrs_behind sh (place_at ns i) in
            let f = element (body_at sh (place_at ns i)) attrs (kids_of g) (rest_of g) in
            let w : g ≡ f = (first sh ns parent i e g h l).element_is q in
            let x : numbered ≡ renumbered ctx.kind (number_of (attr (ascii "value") attrs)) ctx = a ∙ ap (λ (y : ℕ). renumbered ctx.kind (number_of (attr (ascii "value") (attrs_behind sh y))) ctx) p in
            subst (λ (y : Forest). list_children self anc y ctx t ≡ and_then (list_head self anc (head_of y) numbered t) (list_children self anc (rest_of y) next)) (sym w)
            (item_first (body_at sh (place_at ns i)) attrs (kids_of g) (rest_of g) (ap (λ (j : ℕ). eqb j 16) (sym (first_name sh ns parent i e g h l ∙ ap name_of w)) ∙ sym n)
            ∙ ap₂ (λ (y z : ListContext). and_then (list_head self anc (head_of f) y t) (list_children self anc (rest_of f) z)) (sym x) (sym (b ∙ ap advance_ol_number x)))
        go false n a b =
            let x : next ≡ ctx = b ∙ a in
            other_first g (ap (λ (k : ℕ). eqb k 16) (sym (first_name sh ns parent i e g h l)) ∙ sym n)
            ∙ ap₂ (λ (y z : ListContext). and_then (list_head self anc (head_of g) y t) (list_children self anc (rest_of g) z)) (sym a) (sym x)
