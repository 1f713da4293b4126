-- What a writer's answer gives its caller.
use Prim.Native.Nat.{ℕ, ◌+◌, ◌≤◌}
use mathlib.Core.Path.{◌≡◌, refl, ap, sym, subst, ◌∙◌}
use mathlib.Core.Bool.{false≢true}
use mathlib.Core.List.{List, ◌∷◌}
use lib.ListN.{length, take, drop}
use Rattle.spec.specs.Bytes.{Bytes}
use Rattle.spec.specs.Tree.{Attr, Forest}
use Rattle.spec.specs.Out.{Out, Step, and_then, nested}
use Rattle.spec.specs.Call.{tags_to_skip}
use Rattle.spec.specs.Names.{tag_of}
use Rattle.spec.specs.Md.Ctx.{inline, include_node, emphasis_scope, scope_of}
use Rattle.spec.specs.Md.Elements.Emphasis.{md_emphasis}
use Rattle.spec.specs.Md.MDSerializer.{Ancestors}
use Rattle.spec.specs.Md.Serializer.{serializer, write_at}
use Rattle.spec.specs.declared.ctx.FormatOpts.{FormatOpts}
use Rattle.tree.specs.Memory.{place_at, end_at, parent_at}
use Rattle.tree.specs.Nodes.{name_at}
use Rattle.tree.specs.Represents.{Around}
use Rattle.input.specs.Scans.{skip_of}
use Rattle.text.specs.Writes.{Writes}
use Rattle.text.specs.Writes.{Wrote, no_room}
use Rattle.std.specs.Prelude.{Ok, Err, Option}
use Rattle.std.specs.Borrow.{Bor}
use Rattle.std.specs.Result.{IsErr}
use Rattle.text.proofs.Temporary.{lent, back, temp_full, temp_fits}
use Rattle.text.proofs.Writing.{done, full, Owes, owes_all, owes_step, owes_stop, owes_last, stops}
use Rattle.tables.specs.TableSteps.{RowWrites, RowsWrites}
use Rattle.nodes.specs.Stands.{ElementAt}
use Rattle.serializer.specs.Writers.{self_at, WritesForest, WritesElement}
use Rattle.nodes.proofs.Interrupts.{element_kids, element_name}
use Rattle.elements.proofs.Nesting.{nest_writes}
use Rattle.elements.proofs.Languages.{around_it}

-- what stands below an element is written by the serializer's `below`
pub below-wrote : (skip : Option (Bor Bytes)) (levels : ℕ) (opts : FormatOpts) {sh ns : Bytes} {i d room : ℕ} {t after : Bytes} {r : Wrote}
    {name : Bytes} {attrs : List Attr} {kids : Forest} (anc : Ancestors) → ElementAt sh ns i name attrs kids → Around sh ns (parent_at ns i) anc → d ≡ end_at ns i
    → WritesForest sh ns (i + 1) d (λ anc f. write_at (tags_to_skip (skip_of skip)) levels anc opts f) t room after r
    → Writes room after r ((self_at skip levels).below (attrs ∷ anc) opts kids t)
unfolding serializer
below-wrote skip levels opts {sh} {ns} {i} {name = name} {attrs} {kids} anc x a q w = w.for i kids (attrs ∷ anc) (element_kids x q) (around_it anc x a)

-- for emphasis, under the options of its element
pub emphasis_below : (skip : Option (Bor Bytes)) (levels : ℕ) (opts : FormatOpts) {sh ns : Bytes} {i d n room : ℕ} {e o : FormatOpts} {t after : Bytes} {r : Wrote} → n ≡ name_at sh (place_at ns i)
    → e ≡ emphasis_scope (scope_of (md_emphasis n)) (inline (include_node opts)) → o ≡ e → d ≡ end_at ns i
    → WritesForest sh ns (i + 1) d (λ anc f. write_at (tags_to_skip (skip_of skip)) levels anc o f) t room after r
    → (name : Bytes) (attrs : List Attr) (kids : Forest) (anc : Ancestors) → ElementAt sh ns i name attrs kids → Around sh ns (parent_at ns i) anc
    → Writes room after r ((self_at skip levels).below (attrs ∷ anc) (emphasis_scope (scope_of (md_emphasis (tag_of name))) (inline (include_node opts))) kids t)
emphasis_below skip levels opts {room = room} {o = o} {t} {after} {r} k p q e w name attrs kids anc x h =
    subst (λ (g : FormatOpts). Writes room after r ((self_at skip levels).below (attrs ∷ anc) g kids t))
    (q ∙ p ∙ ap (λ (j : ℕ). emphasis_scope (scope_of (md_emphasis j)) (inline (include_node opts))) (k ∙ element_name x)) (below-wrote skip levels o anc x h e w)

-- two steps one after the other
module _ (text : Bytes) (len : ℕ) (h : len ≤ length text) (whole f g : Step) (e : whole (take len text) ≡ and_then (f (take len text)) g)
    {mid : Bytes} {r : Wrote} (w : Writes (length text) mid r (f (take len text))) where
  pub both-on : {n : ℕ} → r ≡ Ok n → Owes (length text) mid n g (whole (take len text))
  both-on q = owes_step (owes_all text len whole h refl) f g e q w

  pub both-done : {n : ℕ} {after : Bytes} {x : Wrote} → r ≡ Ok n → Writes (length mid) after x (g (take n mid)) → Writes (length text) after x (whole (take len text))
  both-done q v = owes_last (both-on q) v

  pub both-full : {z : Bytes} → r ≡ no_room → Writes (length text) z no_room (whole (take len text))
  both-full q = owes_stop (owes_all text len whole h refl) f g e q w

-- ---- a text of its own behind the text

module _ (text : Bytes) (len : ℕ) (h : len ≤ length text) {o : Out} {mid : Bytes} {r : Wrote} (w : Writes (length (lent text len)) mid r o) where
  pub nest-done : {n : ℕ} (g : Bytes → Step) {after : Bytes} {x : Wrote} → r ≡ Ok n
      → Writes (length (back text len mid)) after x (g (take n (drop len (back text len mid))) (take len (back text len mid))) → Writes (length text) after x (nested o (g o.text) (take len text))
  nest-done g q v = nest_writes text len h o (done q w) g v

  pub nest-full : (f : Step) {z : Bytes} → r ≡ no_room → Writes (length text) z no_room (nested o f (take len text))
  nest-full f q = record { says = temp_full text len h o f (full q w) }

  pub nest-fits : {n : ℕ} → r ≡ Ok n → len + n ≤ length (back text len mid)
  nest-fits q = temp_fits text len h o (done q w)

-- where `?` returns early
pub stops_element : {sh ns : Bytes} {i : ℕ} {step : Ancestors → Bytes → List Attr → Forest → Step} {t : Bytes} {room : ℕ} {after : Bytes} {r : Wrote} → IsErr r
    → WritesElement sh ns i step t room after no_room → WritesElement sh ns i step t room after r
stops_element h w = record { for = λ name attrs kids anc x a. stops h (w.for name attrs kids anc x a) }

pub stops_forest : {sh ns : Bytes} {i e : ℕ} {step : Ancestors → Forest → Step} {t : Bytes} {room : ℕ} {after : Bytes} {r : Wrote} → IsErr r
    → WritesForest sh ns i e step t room after no_room → WritesForest sh ns i e step t room after r
stops_forest h w = record { for = λ parent f anc k a. stops h (w.for parent f anc k a) }

no_room_is : {r : Wrote} → IsErr r → r ≡ no_room
no_room_is {r} h = go r h
  where
    go : (r : Wrote) → IsErr r → r ≡ no_room
    go (Ok n) h = absurd (false≢true h)
    go (Err e) h = refl

pub stops_row : {room : ℕ} {after : Bytes} {stored : List ℕ} {r : Wrote} {os : List Out} {t : Bytes} → IsErr r → RowWrites room after stored no_room os t → RowWrites room after stored r os t
stops_row {room} {after} {stored} {r} {os} {t} h w = subst (λ (x : Wrote). RowWrites room after stored x os t) (sym (no_room_is h)) w

pub stops_rows : {room : ℕ} {after : Bytes} {stored : List (List ℕ)} {r : Wrote} {os : List (List Out)} {t : Bytes} → IsErr r → RowsWrites room after stored no_room os t → RowsWrites room after stored r os t
stops_rows {room} {after} {stored} {r} {os} {t} h w = subst (λ (x : Wrote). RowsWrites room after stored x os t) (sym (no_room_is h)) w
