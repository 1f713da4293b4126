-- The steps of an item's children, from what the functions behind them answer.
use Prim.Native.Nat.{ℕ, ◌+◌, ◌≤◌, ◌<◌}
use native.Mathlib.Omega.{arith}
use mathlib.Core.Path.{◌≡◌, refl, ap, sym, subst, ◌∙◌}
use mathlib.Core.Bool.{Bool, false, ◌||◌}
use mathlib.Core.List.{List, []}
use lib.Dec.{eqb}
use lib.ListN.{length, take, drop}
use borrow.Author.Tests.{eq-eqb, ne_eqb}
use Rattle.spec.specs.Bytes.{Bytes}
use Rattle.spec.specs.Tree.{Attr, Forest, nothing, element}
use Rattle.spec.specs.Out.{Out, Step, push, and_then, nested}
use Rattle.spec.specs.Md.Ctx.{include_node, list_item, break_of}
use Rattle.spec.specs.Md.LineBreak.{linebreak}
use Rattle.spec.specs.Md.MDSerializer.{Ancestors, MDSerializer, write, write_kids}
use Rattle.spec.specs.Md.Serializer.{write_at, serializer}
use Rattle.spec.specs.Md.Elements.List.{Item, going, name_of, block_lead, flow_block, block_child, rule_block, write_list_item_indented}
use Rattle.spec.specs.declared.ctx.FormatOpts.{FormatOpts}
use Rattle.tree.specs.Memory.{place_at, end_at, parent_at}
use Rattle.tree.specs.Nodes.{name_at}
use Rattle.tree.specs.Represents.{Rep, Around}
use Rattle.tree.proofs.Kin.{first_name}
use Rattle.lists_links.specs.Items.{indented_block, inline_lead}
use Rattle.text.specs.Writes.{Writes}
use Rattle.text.specs.Writes.{Wrote, no_room}
use Rattle.std.specs.Prelude.{Ok}
use Rattle.text.proofs.Temporary.{lent, back, temp_full, temp_fits}
use Rattle.text.proofs.Writing.{Owes, owes_all, owes_step, owes_stop, owes_last, alike, done, full, then_assoc, yes, no}
use Rattle.elements.specs.ItemStep.{child_opts, flow_prefix, ended_flow}
use Rattle.serializer.specs.ListStep.{inline_step, body_step, led_step}
use Rattle.nodes.specs.Stands.{ElementAt, Placed, Placeds, PlacedNode}
use Rattle.serializer.specs.Writers.{Fits, WritesForest, WritesElement, progress_at, going_of, Went, Goes, GoesElement}
use Rattle.serializer.proofs.Goings.{goes_alike, goes_going}
use Rattle.nodes.proofs.Interrupts.{element_name}
use Rattle.elements.proofs.Nesting.{nest_writes}
use Rattle.serializer.proofs.Onward.{block_is}
use Rattle.serializer.proofs.Placing.{element_alone}

-- ---- what is given

-- options with the same offset fit alike
pub fits_alike : (o p : FormatOpts) (levels : ℕ) → o.offset ≡ p.offset → Fits p levels → Fits o levels
fits_alike o p levels q l = omega (arith, q, l)

-- the node itself, where it ends at `to`
pub node_range : {sh ns : Bytes} {i to : ℕ} → to ≡ end_at ns i → PlacedNode sh ns i → Placeds sh ns i to
node_range {sh} {ns} {i} q p = subst (λ (e : ℕ). Placeds sh ns i e) (sym q) p.alone

-- the name that code has of an element
pub named : {sh ns : Bytes} {i name : ℕ} → name ≡ name_at sh (place_at ns i) → {nm : Bytes} {attrs : List Attr} {kids : Forest} → ElementAt sh ns i nm attrs kids → name_of (element nm attrs kids nothing) ≡ name
unfolding name_of
named q x = sym (q ∙ element_name x)

-- ---- a code block

module _ (skips : List Bytes) (levels : ℕ) (item : Item) where
  abbrev itself : Ancestors → Forest → Out
  itself anc f = write_at skips levels anc (include_node item.ctx.opts) f []

  indented_is : (anc : Ancestors) (f : Forest) (t : Bytes)
      → write_list_item_indented (serializer skips levels) anc f item t ≡ nested (itself anc f) (indented_block item (itself anc f).text) t
  unfolding write_list_item_indented write serializer
  indented_is anc f t = refl

  module _ {sh ns : Bytes} {c to : ℕ} {opts : FormatOpts} (e : to ≡ end_at ns c) (o : opts ≡ include_node item.ctx.opts) (xs : Bytes) (len : ℕ) (l : len ≤ length xs)
      {ys : Bytes} {r : Wrote} (w : WritesForest sh ns c to (λ anc f. write_at skips levels anc opts f) [] (length (lent xs len)) ys r) where
    itself_writes : {name : Bytes} {attrs : List Attr} {kids : Forest} (anc : Ancestors) → ElementAt sh ns c name attrs kids → Around sh ns (parent_at ns c) anc
        → Writes (length (lent xs len)) ys r (itself anc (element name attrs kids nothing))
    itself_writes {name} {attrs} {kids} anc x a =
        let f = element name attrs kids nothing in
        subst (λ (p : FormatOpts). Writes (length (lent xs len)) ys r (write_at skips levels anc p f [])) o
        (w.for (parent_at ns c) f anc (subst (λ (k : ℕ). Rep sh ns (parent_at ns c) c k f) (sym e) (element_alone x)) a)

    pub indented_fits : {n : ℕ} → Placed sh ns c → r ≡ Ok n → len + n ≤ length (back xs len ys)
    indented_fits p q = temp_fits xs len l (itself p.1.0 (element p.0.0 p.0.1 p.0.2 nothing)) (done q (itself_writes p.1.0 p.0.3 p.1.1))

    pub indented_done : {n : ℕ} {final : Bytes} {z : Wrote} → r ≡ Ok n → Writes (length (back xs len ys)) final z (indented_block item (take n (drop len (back xs len ys))) (take len (back xs len ys)))
        → WritesElement sh ns c (λ anc name attrs kids. write_list_item_indented (serializer skips levels) anc (element name attrs kids nothing) item) (take len xs) (length xs) final z
    indented_done q v =
        record {
          for = λ name attrs kids anc x a.
              let f = element name attrs kids nothing in
              alike (indented_is anc f (take len xs)) (nest_writes xs len l (itself anc f) (done q (itself_writes anc x a)) (indented_block item) v);
        }

    pub indented_full : {z : Bytes} → r ≡ no_room
        → WritesElement sh ns c (λ anc name attrs kids. write_list_item_indented (serializer skips levels) anc (element name attrs kids nothing) item) (take len xs) (length xs) z no_room
    indented_full q =
        record {
          for = λ name attrs kids anc x a.
              let f = element name attrs kids nothing in
              alike (indented_is anc f (take len xs)) (record { says = temp_full xs len l (itself anc f) (indented_block item (itself anc f).text) (full q (itself_writes anc x a)) });
        }

-- ---- a block

module _ (sh ns : Bytes) (c : ℕ) {name : ℕ} (q : name ≡ name_at sh (place_at ns c)) (self : MDSerializer) (item : Item) where
  pub body_pre : {t : Bytes} {room : ℕ} {after : Bytes} {r : Wrote} → name ≡ 23
      → WritesElement sh ns c (λ anc nm attrs kids. write_list_item_indented self anc (element nm attrs kids nothing) item) t room after r
      → WritesElement sh ns c (λ anc nm attrs kids. body_step self anc (element nm attrs kids nothing) item) t room after r
  unfolding body_step
  body_pre {t} e w =
      record {
        for = λ nm attrs kids anc x a.
            alike (ap (λ (s : Step). s t) (yes _ _ (eq-eqb _ _ (named q x ∙ e)))) (w.for nm attrs kids anc x a);
      }

  -- the steps of a block that is no code block
  body_flow : (anc : Ancestors) (node : Forest) (t : Bytes) → (name ≡ 23 → ⊥) → name_of node ≡ name
      → body_step self anc node item t ≡ and_then (push (flow_prefix name) t) (λ u. and_then (write_kids self anc (list_item item.ctx.opts) node u) (ended_flow name item.ctx))
  unfolding body_step flow_block
  body_flow anc node t d e =
      ap (λ (s : Step). s t) (no _ _ (ne_eqb (name_of node) 23 (λ p. d (sym e ∙ p))))
      ∙ ap (λ (k : ℕ). and_then (push (flow_prefix k) t) (λ u. and_then (write_kids self anc (list_item item.ctx.opts) node u) (ended_flow k item.ctx))) e

  module _ (d : name ≡ 23 → ⊥) (xs : Bytes) (len : ℕ) (l : len ≤ length xs) {ys : Bytes} {r : Wrote} (w : Writes (length xs) ys r (push (flow_prefix name) (take len xs))) where
    flow_owes : (anc : Ancestors) (node : Forest) → name_of node ≡ name → {n : ℕ} → r ≡ Ok n
        → Owes (length xs) ys n (λ u. and_then (write_kids self anc (list_item item.ctx.opts) node u) (ended_flow name item.ctx)) (body_step self anc node item (take len xs))
    flow_owes anc node e u =
        owes_step (owes_all xs len (body_step self anc node item) l refl) (push (flow_prefix name)) (λ u. and_then (write_kids self anc (list_item item.ctx.opts) node u) (ended_flow name item.ctx))
        (body_flow anc node (take len xs) d e) u w

    pub flow_none : {z : Bytes} → r ≡ no_room → WritesElement sh ns c (λ anc nm attrs kids. body_step self anc (element nm attrs kids nothing) item) (take len xs) (length xs) z no_room
    flow_none u =
        record {
          for = λ nm attrs kids anc x a.
              let f = element nm attrs kids nothing in
              owes_stop (owes_all xs len (body_step self anc f item) l refl) (push (flow_prefix name)) (λ u. and_then (write_kids self anc (list_item item.ctx.opts) f u) (ended_flow name item.ctx))
              (body_flow anc f (take len xs) d (named q x)) u w;
        }

    module _ {n : ℕ} (u : r ≡ Ok n) {opts : FormatOpts} (o : opts ≡ list_item item.ctx.opts) {zs : Bytes} {s : Wrote}
        (v : WritesElement sh ns c (λ anc nm attrs kids. write_kids self anc opts (element nm attrs kids nothing)) (take n ys) (length ys) zs s) where
      kids_written : {nm : Bytes} {attrs : List Attr} {kids : Forest} (anc : Ancestors) → ElementAt sh ns c nm attrs kids → Around sh ns (parent_at ns c) anc
          → Writes (length ys) zs s (write_kids self anc (list_item item.ctx.opts) (element nm attrs kids nothing) (take n ys))
      kids_written {nm} {attrs} {kids} anc x a =
          subst (λ (p : FormatOpts). Writes (length ys) zs s (write_kids self anc p (element nm attrs kids nothing) (take n ys))) o (v.for nm attrs kids anc x a)

      pub flow_full : {z : Bytes} → s ≡ no_room → WritesElement sh ns c (λ anc nm attrs kids. body_step self anc (element nm attrs kids nothing) item) (take len xs) (length xs) z no_room
      flow_full k =
          record {
            for = λ nm attrs kids anc x a.
                let f = element nm attrs kids nothing in
                owes_stop (flow_owes anc f (named q x) u) (write_kids self anc (list_item item.ctx.opts) f) (ended_flow name item.ctx) refl k (kids_written anc x a);
          }

      pub flow_done : {m : ℕ} {final : Bytes} {z : Wrote} → s ≡ Ok m → Writes (length zs) final z (ended_flow name item.ctx (take m zs))
          → WritesElement sh ns c (λ anc nm attrs kids. body_step self anc (element nm attrs kids nothing) item) (take len xs) (length xs) final z
      flow_done k y =
          record {
            for = λ nm attrs kids anc x a.
                let f = element nm attrs kids nothing in
                owes_last (owes_step (flow_owes anc f (named q x) u) (write_kids self anc (list_item item.ctx.opts) f) (ended_flow name item.ctx) refl k (kids_written anc x a)) y;
          }

  -- what stands before and behind a block
  led_is : (isFirst : Bool) (anc : Ancestors) (node : Forest) (t : Bytes) → name_of node ≡ name
      → led_step self anc node item isFirst t
      ≡ and_then (push (block_lead item isFirst (eqb name 23) t) t) (λ u. and_then (body_step self anc node item u) (push (break_of item.ctx)))
  unfolding led_step
  led_is isFirst anc node t e =
      then_assoc (push (block_lead item isFirst (eqb (name_of node) 23) t) t) (body_step self anc node item) (push (break_of item.ctx))
      ∙ ap (λ (k : ℕ). and_then (push (block_lead item isFirst (eqb k 23) t) t) (λ u. and_then (body_step self anc node item u) (push (break_of item.ctx)))) e

  module _ (isFirst : Bool) (xs : Bytes) (len : ℕ) (l : len ≤ length xs) {ys : Bytes} {r : Wrote}
      (w : Writes (length xs) ys r (push (block_lead item isFirst (eqb name 23) (take len xs)) (take len xs))) where
    abbrev lead : Step
    lead t = push (block_lead item isFirst (eqb name 23) t) t

    led_owes : (anc : Ancestors) (node : Forest) → name_of node ≡ name → {n : ℕ} → r ≡ Ok n
        → Owes (length xs) ys n (λ u. and_then (body_step self anc node item u) (push (break_of item.ctx))) (led_step self anc node item isFirst (take len xs))
    led_owes anc node e u =
        owes_step (owes_all xs len (led_step self anc node item isFirst) l refl) lead (λ u. and_then (body_step self anc node item u) (push (break_of item.ctx)))
        (led_is isFirst anc node (take len xs) e) u w

    pub led_none : {z : Bytes} → r ≡ no_room → WritesElement sh ns c (λ anc nm attrs kids. led_step self anc (element nm attrs kids nothing) item isFirst) (take len xs) (length xs) z no_room
    led_none u =
        record {
          for = λ nm attrs kids anc x a.
              let f = element nm attrs kids nothing in
              owes_stop (owes_all xs len (led_step self anc f item isFirst) l refl) lead (λ u. and_then (body_step self anc f item u) (push (break_of item.ctx)))
              (led_is isFirst anc f (take len xs) (named q x)) u w;
        }

    module _ {n : ℕ} (u : r ≡ Ok n) {zs : Bytes} {s : Wrote} (v : WritesElement sh ns c (λ anc nm attrs kids. body_step self anc (element nm attrs kids nothing) item) (take n ys) (length ys) zs s) where
      pub led_full : {z : Bytes} → s ≡ no_room → WritesElement sh ns c (λ anc nm attrs kids. led_step self anc (element nm attrs kids nothing) item isFirst) (take len xs) (length xs) z no_room
      led_full k =
          record {
            for = λ nm attrs kids anc x a.
                let f = element nm attrs kids nothing in
                owes_stop (led_owes anc f (named q x) u) (body_step self anc f item) (push (break_of item.ctx)) refl k (v.for nm attrs kids anc x a);
          }

      pub led_done : {m : ℕ} {final : Bytes} {z : Wrote} → s ≡ Ok m → Writes (length zs) final z (push (linebreak item.ctx.opts.table_cell) (take m zs))
          → WritesElement sh ns c (λ anc nm attrs kids. led_step self anc (element nm attrs kids nothing) item isFirst) (take len xs) (length xs) final z
      led_done k y =
          record {
            for = λ nm attrs kids anc x a.
                let f = element nm attrs kids nothing in
                owes_last (owes_step (led_owes anc f (named q x) u) (body_step self anc f item) (push (break_of item.ctx)) refl k (v.for nm attrs kids anc x a)) y;
          }

  -- a rule, or any other block
  module _ (isFirst due : Bool) (t : Bytes) {room : ℕ} {after : Bytes} {r : Went} where
    pub block_rule : name ≡ 15 → Goes room after r (rule_block item (progress_at isFirst due t))
        → GoesElement sh ns c (λ anc nm attrs kids. block_child self anc (element nm attrs kids nothing) item (progress_at isFirst due t)) room after r
    block_rule e w =
        record {
          for = λ nm attrs kids anc x a.
              goes_alike (block_is self item anc (element nm attrs kids nothing) (progress_at isFirst due t) ∙ yes _ _ (eq-eqb _ _ (named q x ∙ e))) w;
        }

    pub block_led : {s : Wrote} → (name ≡ 15 → ⊥) → r ≡ going_of s false (eqb name 23 || due)
        → WritesElement sh ns c (λ anc nm attrs kids. led_step self anc (element nm attrs kids nothing) item isFirst) t room after s
        → GoesElement sh ns c (λ anc nm attrs kids. block_child self anc (element nm attrs kids nothing) item (progress_at isFirst due t)) room after r
    block_led {s} d e w =
        record {
          for = λ nm attrs kids anc x a.
              let f = element nm attrs kids nothing in
              goes_alike
              (block_is self item anc f (progress_at isFirst due t) ∙ no _ _ (ne_eqb (name_of f) 15 (λ p. d (sym (named q x) ∙ p)))
              ∙ ap (λ (k : ℕ). going false (eqb k 23 || due) (progress_at isFirst due t) (led_step self anc f item isFirst)) (named q x))
              (goes_going false (eqb name 23 || due) isFirst due t (led_step self anc f item isFirst) {w = s} e (w.for nm attrs kids anc x a));
        }

-- ---- a child that is no block

module _ (sh ns : Bytes) (c : ℕ) {name : ℕ} (q : name ≡ name_at sh (place_at ns c)) (skips : List Bytes) (levels : ℕ) (item : Item) (blank : Bool) (p : c < end_at ns c)
    (xs : Bytes) (len : ℕ) (l : len ≤ length xs) {ys : Bytes} {r : Wrote} (w : Writes (length xs) ys r (push (inline_lead item blank (take len xs)) (take len xs))) where
  abbrev inlined : Step
  inlined t = push (inline_lead item blank t) t

  abbrev wanted : Ancestors → Forest → Step
  wanted anc f = inline_step (serializer skips levels) anc f blank item

  inline_steps : (parent : ℕ) (f : Forest) (anc : Ancestors) → Rep sh ns parent c (end_at ns c) f
      → wanted anc f (take len xs) ≡ and_then (inlined (take len xs)) (write_at skips levels anc (child_opts name item.ctx.opts) f)
  unfolding inline_step write serializer
  inline_steps parent f anc h =
      ap (λ (k : ℕ). and_then (inlined (take len xs)) (write_at skips levels anc (child_opts k item.ctx.opts) f)) (sym (q ∙ first_name sh ns parent c (end_at ns c) f h p))

  pub inline_none : {z : Bytes} → r ≡ no_room → WritesForest sh ns c (end_at ns c) wanted (take len xs) (length xs) z no_room
  inline_none u =
      record {
        for = λ parent f anc h a.
            owes_stop (owes_all xs len (wanted anc f) l refl) inlined (write_at skips levels anc (child_opts name item.ctx.opts) f) (inline_steps parent f anc h) u w;
      }

  pub inline_done : {n : ℕ} → r ≡ Ok n → {to : ℕ} → to ≡ end_at ns c → {opts : FormatOpts} → opts ≡ child_opts name item.ctx.opts → {final : Bytes} {s : Wrote}
      → WritesForest sh ns c to (λ anc f. write_at skips levels anc opts f) (take n ys) (length ys) final s → WritesForest sh ns c (end_at ns c) wanted (take len xs) (length xs) final s
  inline_done {n} u {to} e {opts} o {final} {s} v =
      record {
        for = λ parent f anc h a.
            owes_last
            (owes_step (owes_all xs len (wanted anc f) l refl) inlined (write_at skips levels anc (child_opts name item.ctx.opts) f) (inline_steps parent f anc h) u w)
            (subst (λ (p : FormatOpts). Writes (length ys) final s (write_at skips levels anc p f (take n ys))) o
            (v.for parent f anc (subst (λ (k : ℕ). Rep sh ns parent c k f) (sym e) h) a));
      }
