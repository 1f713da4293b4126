-- A child of an item, from what the functions behind it answer.
use Prim.Native.Nat.{ℕ, ◌+◌, ◌-◌, ◌*◌, ◌≤◌, ◌<◌}
use native.Mathlib.Omega.{arith}
use mathlib.Core.Path.{◌≡◌, refl, ap, sym, subst, ◌∙◌}
use mathlib.Core.Bool.{Bool, true, false, cond, not, ◌&&◌, ◌||◌}
use mathlib.Core.List.{List, ◌∷◌}
use mathlib.Core.Logic.{◌⊎◌, inl, inr}
use lib.Dec.{eqb}
use lib.ListN.{length, take, get_or}
use borrow.Author.Tests.{eq-eqb, ne_eqb, eqb-true}
use Rattle.spec.specs.Bytes.{Bytes, among, isin, is_blank}
use Rattle.spec.specs.Names.{tag_of}
use Rattle.spec.specs.Tree.{Attr, Forest, nothing, text, comment, element, kids_of, attrs_of}
use Rattle.spec.specs.Out.{Out, push}
use Rattle.spec.specs.Md.Ctx.{break_of}
use Rattle.spec.specs.Md.MDSerializer.{Ancestors, MDSerializer}
use Rattle.spec.specs.Md.Serializer.{serializer}
use Rattle.spec.specs.Md.Elements.Blocks.{is_list, is_md_block}
use Rattle.spec.specs.Md.Elements.List.{
  Item,
  Progress,
  going,
  name_of,
  due_line,
  block_child,
  inline_child,
  item_child,
  item_children,
  node_is_list_item_block,
  is_block_wrapper,
  node_is_block_wrapper,
}
use Rattle.tree.specs.Memory.{place_at, end_at, Kept}
use Rattle.tree.specs.Nodes.{body_at, name_at, skipped_at}
use Rattle.tree.specs.Represents.{attrs_behind, Rep, Around, head_of}
use Rattle.tree.proofs.Ancestry.{around_in}
use Rattle.tree.proofs.Firsts.{first, ended, its_tag, its_body}
use Rattle.tree.proofs.Frames.{rep_kept, around_kept, end_kept}
use Rattle.tree.proofs.Kin.{first_name, first_skipped}
use Rattle.text.specs.Writes.{Writes}
use Rattle.text.specs.Writes.{Wrote, no_room}
use Rattle.std.specs.Prelude.{Ok, Err}
use Rattle.text.proofs.Writing.{keeps, keep_then, done, full, yes, no}
use Rattle.elements.specs.ItemStep.{line_if}
use Rattle.serializer.specs.ListStep.{inline_step}
use Rattle.nodes.specs.Stands.{Placeds, PlacedNode}
use Rattle.serializer.specs.Writers.{progress_at, going_of, Went, Goes, GoesForest, GoesElement, WritesForest}
use Rattle.serializer.proofs.Goings.{goes_alike, goes_going, goes_from, goes_none}
use Rattle.serializer.proofs.Onward.{inline_is, onward_block, onward_inline}
use Rattle.serializer.proofs.Placing.{node_element}

-- ---- a node alone

-- nothing follows a node whose range it is
single : (sh ns : Bytes) (parent c : ℕ) (f : Forest) → Rep sh ns parent c (end_at ns c) f → f ≡ head_of f
unfolding Rep head_of
single sh ns parent c nothing h = refl
single sh ns parent c (text s r) h = ap (text s) (ended sh ns parent (c + 1) (end_at ns c) r h.4 (omega (arith, h.2)))
single sh ns parent c (comment s r) h = ap (comment s) (ended sh ns parent (c + 1) (end_at ns c) r h.4 (omega (arith, h.2)))
single sh ns parent c (element name attrs kids r) h = ap (element name attrs kids) (ended sh ns parent (end_at ns c) (end_at ns c) r h.5 (omega arith))

no_way : {A : Type 0} → true ≡ false → A
no_way e = absurd (subst (λ (b : Bool). cond b (◌≡◌ {A = ℕ} 0 0) ⊥) e refl)

-- a block is an element
pub block_tag_lem : (sh : Bytes) (p : ℕ) {name : ℕ} {b : Bool} → name ≡ name_at sh p → b ≡ node_is_list_item_block name → b ≡ true → get_or sh p 0 ≡ 1
unfolding name_at node_is_list_item_block is_list is_md_block isin
block_tag_lem sh p {name} {b} q u e = go (eqb (get_or sh p 0) 1) refl (sym (ap node_is_list_item_block q) ∙ (sym u ∙ e))
  where
    go : (t : Bool) → eqb (get_or sh p 0) 1 ≡ t → node_is_list_item_block (cond t (tag_of (body_at sh p)) 0) ≡ true → get_or sh p 0 ≡ 1
    go true k h = eqb-true (get_or sh p 0) 1 k
    go false k h = no_way (sym h)

head_element : (sh ns : Bytes) (parent c : ℕ) (f : Forest) (h : Rep sh ns parent c (end_at ns c) f) → c < end_at ns c → get_or sh (place_at ns c) 0 ≡ 1
    → head_of f ≡ element (body_at sh (place_at ns c)) (attrs_behind sh (place_at ns c)) (kids_of f) nothing
unfolding head_of
head_element sh ns parent c f h p t = ap head_of ((first sh ns parent c (end_at ns c) f h p).element_is t)

-- ---- a child that is no wrapper

-- before it: the blank line that is due, where `line` says so
due_is : (item : Item) (isFirst due exempt : Bool) (t : Bytes)
    → due_line exempt item (progress_at isFirst due t)
    ≡ record { is_first_block = isFirst; blank_line_due = due && not (due && not exempt); out = line_if (due && not exempt) item.ctx t }
unfolding due_line going
due_is item isFirst true true t = refl
due_is item isFirst true false t =
    ap (λ (o : Out). record { is_first_block = isFirst; blank_line_due = false; out = o }) (keep_then t (push (break_of item.ctx)))
due_is item isFirst false exempt t = refl

module _ (sh ns : Bytes) (c : ℕ) {name : ℕ} (q : name ≡ name_at sh (place_at ns c)) (p : c < end_at ns c) (self : MDSerializer) (item : Item) (isFirst due blank : Bool)
    (xs : Bytes) (len : ℕ) {ys : Bytes} {r : Wrote} (w : Writes (length xs) ys r (line_if (due && not (eqb name 23 || blank)) item.ctx (take len xs))) where
  -- what is known before the child, and the child
  abbrev before : Progress
  before =
      record {
        is_first_block = isFirst;
        blank_line_due = due && not (due && not (eqb name 23 || blank));
        out = line_if (due && not (eqb name 23 || blank)) item.ctx (take len xs);
      }

  abbrev wanted : Ancestors → Forest → Progress
  wanted anc f = item_child self anc f blank item (progress_at isFirst due (take len xs))

  child_block : (anc : Ancestors) (f : Forest) → name_of f ≡ name → node_is_list_item_block name ≡ true → wanted anc f ≡ block_child self anc f item before
  unfolding item_child
  child_block anc f e b =
      yes _ _ (ap node_is_list_item_block e ∙ b)
      ∙ ap (block_child self anc f item) (ap (λ (k : ℕ). due_line (eqb k 23 || blank) item (progress_at isFirst due (take len xs))) e ∙ due_is item isFirst due (eqb name 23 || blank) (take len xs))

  child_inline : (anc : Ancestors) (f : Forest) → name_of f ≡ name → node_is_list_item_block name ≡ false → wanted anc f ≡ inline_child self anc f blank item before
  unfolding item_child
  child_inline anc f e b =
      no _ _ (ap node_is_list_item_block e ∙ b)
      ∙ ap (inline_child self anc f blank item) (ap (λ (k : ℕ). due_line (eqb k 23 || blank) item (progress_at isFirst due (take len xs))) e ∙ due_is item isFirst due (eqb name 23 || blank) (take len xs))

  name_is : (parent : ℕ) (f : Forest) → Rep sh ns parent c (end_at ns c) f → name_of f ≡ name
  name_is parent f h = sym (q ∙ first_name sh ns parent c (end_at ns c) f h p)

  pub alone_none : {z : Bytes} → r ≡ no_room → GoesForest sh ns c (end_at ns c) wanted (length xs) z (Err (record {}))
  alone_none {z} u =
      record {
        for = λ parent f anc h a. go parent f anc h (either (node_is_list_item_block name));
      }
    where
      either : (b : Bool) → (b ≡ true) ⊎ (b ≡ false)
      either true = inl refl
      either false = inr refl

      go : (parent : ℕ) (f : Forest) (anc : Ancestors) → Rep sh ns parent c (end_at ns c) f → (node_is_list_item_block name ≡ true) ⊎ (node_is_list_item_block name ≡ false)
          → Goes (length xs) z (Err (record {})) (wanted anc f)
      go parent f anc h (inl b) = goes_alike (child_block anc f (name_is parent f h) b) (goes_none (block_child self anc f item) (onward_block self item anc f) before (full u w))
      go parent f anc h (inr b) = goes_alike (child_inline anc f (name_is parent f h) b) (goes_none (inline_child self anc f blank item) (onward_inline self item anc f blank) before (full u w))

  module _ {n : ℕ} (u : r ≡ Ok n) {final : Bytes} {z : Went} where
    -- the room is that of the text before the line
    there : {x : Progress} → Goes (length ys) final z x → Goes (length xs) final z x
    there {x} y = subst (λ (k : ℕ). Goes k final z x) (done u w).long y

    pub alone_inline : {b : Bool} → b ≡ node_is_list_item_block name → b ≡ false → {s : Wrote} → z ≡ going_of s isFirst (due && not (due && not (eqb name 23 || blank)))
        → WritesForest sh ns c (end_at ns c) (λ anc f. inline_step self anc f blank item) (take n ys) (length ys) final s → GoesForest sh ns c (end_at ns c) wanted (length xs) final z
    alone_inline k b {s} e v =
        record {
          for = λ parent f anc h a.
              let due' = due && not (due && not (eqb name 23 || blank)) in
              goes_alike (child_inline anc f (name_is parent f h) (sym k ∙ b))
              (goes_from (inline_child self anc f blank item) (onward_inline self item anc f blank) before (done u w, refl, refl)
              (goes_alike (inline_is self item anc f blank (progress_at isFirst due' (take n ys)))
              (there (goes_going isFirst due' isFirst due' (take n ys) (inline_step self anc f blank item) {w = s} e (v.for parent f anc h a)))));
        }

    pub alone_block : {b : Bool} → b ≡ node_is_list_item_block name → b ≡ true → 0 < c
        → GoesElement sh ns c (λ anc nm attrs kids. block_child self anc (element nm attrs kids nothing) item (progress_at isFirst (due && not (due && not (eqb name 23 || blank))) (take n ys))) (length ys) final z
        → GoesForest sh ns c (end_at ns c) wanted (length xs) final z
    alone_block k b o v =
        record {
          for = λ parent f anc h a.
              let due' = due && not (due && not (eqb name 23 || blank)) in
              let t = block_tag_lem sh (place_at ns c) q k b in
              let g = element (body_at sh (place_at ns c)) (attrs_behind sh (place_at ns c)) (kids_of f) nothing in
              let is : f ≡ g = single sh ns parent c f h ∙ head_element sh ns parent c f h p t in
              let y = v.for (body_at sh (place_at ns c)) (attrs_behind sh (place_at ns c)) (kids_of f) anc (node_element sh ns parent c (end_at ns c) f h p o t)
              (subst (λ (k : ℕ). Around sh ns k anc) (sym (first sh ns parent c (end_at ns c) f h p).parent_is) a) in
              goes_alike (child_block anc f (name_is parent f h) (sym k ∙ b))
              (goes_from (block_child self anc f item) (onward_block self item anc f) before (done u w, refl, refl)
              (goes_alike (ap (λ (x : Forest). block_child self anc x item (progress_at isFirst due' (take n ys))) is) (there y)));
        }

-- ---- any child

module _ (sh ns : Bytes) (parent c : ℕ) (self : MDSerializer) (anc : Ancestors) (item : Item) (p : Progress) where
  abbrev place : ℕ
  place = place_at ns c

  abbrev of : Forest → Progress
  of f = item_children self anc f item p

  of_comment : (f : Forest) → Rep sh ns parent c (end_at ns c) f → (not (eqb (get_or sh place 0) 4) && not (eqb (get_or sh place 0) 1)) ≡ true → of (head_of f) ≡ p
  unfolding Rep head_of item_children
  of_comment nothing h e = refl
  of_comment (text s r) h e = no_way (sym e ∙ rw (eq-eqb (get_or sh place 0) 4 (its_tag h.1)))
  of_comment (comment s r) h e = refl
  of_comment (element name attrs kids r) h e = no_way (sym e ∙ rw (eq-eqb (get_or sh place 0) 1 (its_tag h.1), ne_eqb (get_or sh place 0) 4 (λ t. omega (arith, its_tag h.1))))

  of_skipped : (f : Forest) → Rep sh ns parent c (end_at ns c) f → skipped_at self.skip_tags sh place ≡ true → of (head_of f) ≡ p
  unfolding Rep head_of item_children skipped_at
  of_skipped nothing h e = refl
  of_skipped (text s r) h e = no_way (sym e ∙ rw (ne_eqb (get_or sh place 0) 1 (λ t. omega (arith, its_tag h.1))))
  of_skipped (comment s r) h e = refl
  of_skipped (element name attrs kids r) h e =
      yes _ _ (ap (λ (x : Bytes). among x self.skip_tags) (its_body h.1) ∙ (sym (first_skipped sh place self.skip_tags (its_tag h.1)) ∙ e))

  -- an element that the skip list leaves in
  kept_in_list : (name : Bytes) (attrs : List Attr) (kids r : Forest) → Rep sh ns parent c (end_at ns c) (element name attrs kids r) → skipped_at self.skip_tags sh place ≡ false
      → among name self.skip_tags ≡ false
  unfolding Rep
  kept_in_list name attrs kids r h e = ap (λ (x : Bytes). among x self.skip_tags) (its_body h.1) ∙ (sym (first_skipped sh place self.skip_tags (its_tag h.1)) ∙ e)

  of_wrapper : (f : Forest) → Rep sh ns parent c (end_at ns c) f → skipped_at self.skip_tags sh place ≡ false → node_is_block_wrapper (name_of f) (kids_of f) ≡ true
      → of (head_of f) ≡ item_children self (attrs_of f ∷ anc) (kids_of f) item p
  unfolding head_of item_children name_of kids_of attrs_of node_is_block_wrapper is_block_wrapper isin
  of_wrapper nothing h e b = no_way (sym b)
  of_wrapper (text s r) h e b = no_way (sym b)
  of_wrapper (comment s r) h e b = no_way (sym b)
  of_wrapper (element name attrs kids r) h e b = no _ _ (kept_in_list name attrs kids r h e) ∙ yes _ _ b

  of_other : (f : Forest) → Rep sh ns parent c (end_at ns c) f → (not (eqb (get_or sh place 0) 4) && not (eqb (get_or sh place 0) 1)) ≡ false
      → skipped_at self.skip_tags sh place ≡ false → node_is_block_wrapper (name_of f) (kids_of f) ≡ false → c < end_at ns c
      → of (head_of f) ≡ item_child self anc (head_of f) (eqb (get_or sh place 0) 4 && is_blank (body_at sh place)) item p
  unfolding Rep head_of item_children name_of kids_of
  of_other nothing h d e b l = absurd (omega (arith, h))
  of_other (text s r) h d e b l =
      ap (λ (x : Bool). item_child self anc (text s nothing) x item p)
      (ap is_blank (its_body h.1) ∙ ap (λ (x : Bool). x && is_blank (body_at sh place)) (sym (eq-eqb (get_or sh place 0) 4 (its_tag h.1))))
  of_other (comment s r) h d e b l = no_way (sym (rw (ne_eqb (get_or sh place 0) 4 (λ t. omega (arith, its_tag h.1)), ne_eqb (get_or sh place 0) 1 (λ t. omega (arith, its_tag h.1)))) ∙ d)
  of_other (element name attrs kids r) h d e b l =
      no _ _ (kept_in_list name attrs kids r h e) ∙ no _ _ b
      ∙ ap (λ (x : Bool). item_child self anc (element name attrs kids nothing) (x && is_blank (body_at sh place)) item p) (sym (ne_eqb (get_or sh place 0) 4 (λ t. omega (arith, its_tag h.1))))

-- the elements around a wrapper's children
wrapper_around : (sh ns : Bytes) (parent c : ℕ) (f : Forest) (anc : Ancestors) → Rep sh ns parent c (end_at ns c) f → Around sh ns parent anc → 0 < c → node_is_block_wrapper (name_of f) (kids_of f) ≡ true
    → Around sh ns c (attrs_of f ∷ anc)
unfolding Rep name_of kids_of attrs_of node_is_block_wrapper is_block_wrapper isin
wrapper_around sh ns parent c nothing anc h a o b = no_way (sym b)
wrapper_around sh ns parent c (text s r) anc h a o b = no_way (sym b)
wrapper_around sh ns parent c (comment s r) anc h a o b = no_way (sym b)
wrapper_around sh ns parent c (element name attrs kids r) anc h a o b =
    around_in sh ns c attrs anc o h.0 h.1.head h.2 (subst (λ (k : ℕ). Around sh ns k anc) (sym h.3) a)

-- the node whose field stands at `place`, by the answers of the tests on it
module _ (sh ns : Bytes) (c : ℕ) {place : ℕ} (at : place ≡ place_at ns c) where
  module _ (skips : List Bytes) (levels : ℕ) (item : Item) (isFirst due : Bool) (xs : Bytes) (len : ℕ) where
    abbrev start : Progress
    start = progress_at isFirst due (take len xs)

    abbrev children : Ancestors → Forest → Progress
    children anc f = item_children (serializer skips levels) anc f item start

    -- a forest of one node
    one_is : (parent : ℕ) (f : Forest) (anc : Ancestors) → Rep sh ns parent c (end_at ns c) f → children anc f ≡ children anc (head_of f)
    one_is parent f anc h = ap (children anc) (single sh ns parent c f h)

    stays : len ≤ length xs → Goes (length xs) xs (going_of (Ok len) isFirst due) start
    stays l = record { says = (keeps xs len l, refl, refl) }

    pub child_comment : {tag : ℕ} → len ≤ length xs → tag ≡ get_or sh place 0 → (not (eqb tag 4) && not (eqb tag 1)) ≡ true → GoesForest sh ns c (end_at ns c) children (length xs) xs (going_of (Ok len) isFirst due)
    child_comment {tag} l t b =
        let e : tag ≡ get_or sh (place_at ns c) 0 = t ∙ ap (λ (k : ℕ). get_or sh k 0) at in
        let d = subst (λ (k : ℕ). (not (eqb k 4) && not (eqb k 1)) ≡ true) e b in
        record { for = λ parent f anc h a. goes_alike (one_is parent f anc h ∙ of_comment sh ns parent c (serializer skips levels) anc item start f h d) (stays l) }

    pub child_skipped : {b : Bool} → len ≤ length xs → b ≡ skipped_at skips sh (place_at ns c) → b ≡ true → GoesForest sh ns c (end_at ns c) children (length xs) xs (going_of (Ok len) isFirst due)
    unfolding serializer
    child_skipped l k b =
        record { for = λ parent f anc h a. goes_alike (one_is parent f anc h ∙ of_skipped sh ns parent c (serializer skips levels) anc item start f h (sym k ∙ b)) (stays l) }

    module _ {b : Bool} (k : b ≡ skipped_at skips sh (place_at ns c)) (b-no : b ≡ false) (p : c < end_at ns c) {w : Bool}
        (wraps : (parent e : ℕ) (f : Forest) → Rep sh ns parent c e f → c < e → w ≡ node_is_block_wrapper (name_of f) (kids_of f)) where
      left_in : skipped_at skips sh (place_at ns c) ≡ false
      left_in = sym k ∙ b-no

      pub child_wrapper : {end : ℕ} {final : Bytes} {r : Went} → end ≡ end_at ns c → w ≡ true → 0 < c → GoesForest sh ns (c + 1) end children (length xs) final r → GoesForest sh ns c (end_at ns c) children (length xs) final r
      unfolding serializer
      child_wrapper {end} q t o v =
          record {
            for = λ parent f anc h a.
                let d = sym (wraps parent (end_at ns c) f h p) ∙ t in
                let in_it = (first sh ns parent c (end_at ns c) f h p).in_it in
                goes_alike (one_is parent f anc h ∙ of_wrapper sh ns parent c (serializer skips levels) anc item start f h left_in d)
                (v.for c (kids_of f) (attrs_of f ∷ anc) (subst (λ (j : ℕ). Rep sh ns c (c + 1) j (kids_of f)) (sym q) in_it) (wrapper_around sh ns parent c f anc h a o d));
          }

      pub child_alone : {tag : ℕ} {final : Bytes} {r : Went} → tag ≡ get_or sh place 0 → (not (eqb tag 4) && not (eqb tag 1)) ≡ false → w ≡ false → {blank : Bool} → blank ≡ (eqb (get_or sh place 0) 4 && is_blank (body_at sh place))
          → GoesForest sh ns c (end_at ns c) (λ anc f. item_child (serializer skips levels) anc f blank item start) (length xs) final r → GoesForest sh ns c (end_at ns c) children (length xs) final r
      unfolding serializer
      child_alone {tag} t n u {blank} z v =
          let e : tag ≡ get_or sh (place_at ns c) 0 = t ∙ ap (λ (k : ℕ). get_or sh k 0) at in
          let d = subst (λ (k : ℕ). (not (eqb k 4) && not (eqb k 1)) ≡ false) e n in
          let y : blank ≡ (eqb (get_or sh (place_at ns c) 0) 4 && is_blank (body_at sh (place_at ns c))) = z ∙ ap (λ (j : ℕ). eqb (get_or sh j 0) 4 && is_blank (body_at sh j)) at in
          record {
            for = λ parent f anc h a.
                goes_alike
                (one_is parent f anc h
                ∙ of_other sh ns parent c (serializer skips levels) anc item start f h d left_in (sym (wraps parent (end_at ns c) f h p) ∙ u) p
                ∙ ap (λ (x : Bool). item_child (serializer skips levels) anc (head_of f) x item start) (sym y)
                ∙ ap (λ (g : Forest). item_child (serializer skips levels) anc g blank item start) (sym (single sh ns parent c f h)))
                (v.for parent f anc h a);
          }

-- the children of a wrapper, where it ends at `end`
pub wrapper_kids : {sh ns : Bytes} {c end : ℕ} {w : Bool} (p : PlacedNode sh ns c) → end ≡ end_at ns c
    → ((parent e : ℕ) (f : Forest) → Rep sh ns parent c e f → c < e → w ≡ node_is_block_wrapper (name_of f) (kids_of f)) → w ≡ true → Placeds sh ns (c + 1) end
wrapper_kids {sh} {ns} {c} p q wraps t =
    let a = p.alone in
    record {
      parent = c;
      forest = kids_of a.forest;
      anc = attrs_of a.forest ∷ a.anc;
      positive = omega arith;
      rep = subst (λ (j : ℕ). Rep sh ns c (c + 1) j (kids_of a.forest)) (sym q) (first sh ns a.parent c (end_at ns c) a.forest a.rep p.later).in_it;
      around = wrapper_around sh ns a.parent c a.forest a.anc a.rep a.around a.positive (sym (wraps a.parent (end_at ns c) a.forest a.rep p.later) ∙ t);
    }

-- the falling number of a child, at a wrapper's children and at a node alone
module _ {t : ℕ} (n c to : ℕ) (q : n * 147573952589676412928 + 10 + (to - c) * 2 ≡ t) where
  pub kids_fall : {end e : ℕ} → end ≡ e → e ≤ to → c < e → n * 147573952589676412928 + 11 + (end - (c + 1)) * 2 < t
  kids_fall d l p = omega (arith, q, d, l, p)

-- that of the children, at one of them
pub child_falls : {t from to c : ℕ} (n : ℕ) → n * 147573952589676412928 + 11 + (to - from) * 2 ≡ t → from ≤ c → c < to → n * 147573952589676412928 + 10 + (to - c) * 2 < t
child_falls n q l p = omega (arith, q, l, p)

-- how it goes with the nodes as they stand now is how it goes with the nodes as they were
pub goes_before : {from to : ℕ} {a b : Bytes} → Kept from to a b → {sh : Bytes} {i : ℕ} {step : Ancestors → Forest → Progress} {room : ℕ} {after : Bytes} {r : Went}
    → GoesForest sh b i (end_at b i) step room after r → GoesForest sh a i (end_at a i) step room after r
goes_before {from} {to} {a} {b} k {sh} {i} w =
    record {
      for = λ parent f anc h q. w.for parent f anc (subst (λ (e : ℕ). Rep sh b parent i e f) (sym (end_kept k i)) (rep_kept k sh parent i (end_at a i) f h)) (around_kept k sh parent anc q);
    }
