-- What a link shows.
use Prim.Native.Nat.{ℕ, ◌+◌, ◌≤◌}
use native.Mathlib.Omega.{arith}
use mathlib.Core.Path.{◌≡◌, refl, ap, sym, subst, ◌∙◌}
use mathlib.Core.Bool.{Bool, true, false}
use mathlib.Core.List.{List, [], ◌∷◌}
use mathlib.Core.Option.{Option, none, some}
use lib.ListN.{length, length-append}
use Rattle.spec.specs.Bytes.{Bytes, ascii, null}
use Rattle.spec.specs.Tree.{Attr, Forest, nothing, text, comment, element, attr}
use Rattle.spec.specs.Out.{Out, Step, keep, push, and_then, nested}
use Rattle.spec.specs.Md.Ctx.{fresh, include_node, skip_escape, link_body}
use Rattle.spec.specs.Md.TextUtils.{push_normalized_text, normalized}
use Rattle.spec.specs.Md.MDSerializer.{Ancestors, MDSerializer, write_kids}
use Rattle.spec.specs.Md.Elements.Link.{has_element, has_descendant_img, write_text, link_of, link_to, body_link, href_or, write_link}
use Rattle.spec.specs.declared.ctx.FormatOpts.{FormatOpts}
use Rattle.text.specs.Writes.{Refused, Wrote, Writes}
use Rattle.tree.specs.Memory.{end_at}
use Rattle.tree.specs.Represents.{Rep}
use Rattle.nodes.specs.Stands.{ElementAt}
use Rattle.nodes.proofs.Interrupts.{element_kids}
use Rattle.elements.specs.LinkStep.{text_link_step}
use Rattle.elements.proofs.Links.{text_link_is}

-- texts only grow, so that the last append has the greatest total
pub record Grown (t : Bytes) (o : Out) : Type 0 where
  pub longer : length t ≤ length o.text
  pub peak_in : o.peak ≤ length o.text

grown_then : (t : Bytes) (o : Out) (f : Step) → Grown t o → Grown o.text (f o.text) → Grown t (and_then o f)
unfolding and_then
grown_then t o f a b = record { longer = omega (arith, a.longer, b.longer); peak_in = omega (arith, a.peak_in, b.longer, b.peak_in) }

grown_text : (s : Bytes) (opts : FormatOpts) (t : Bytes) → Grown t (push_normalized_text s opts t)
unfolding push_normalized_text push
grown_text s opts t = let e = length-append t (normalized opts t s) in record { longer = omega (arith, e); peak_in = omega (arith, e) }

pub text_grown : (opts : FormatOpts) (f : Forest) (t : Bytes) → Grown t (write_text opts f t)
unfolding write_text keep
text_grown opts nothing t = record { longer = omega arith; peak_in = omega arith }
text_grown opts (text s r) t = grown_then t (push_normalized_text s opts t) (write_text opts r) (grown_text s opts t) (text_grown opts r (next_text s t))
  where
    next_text : Bytes → Bytes → Bytes
    next_text s t = (push_normalized_text s opts t).text
text_grown opts (comment s r) t = text_grown opts r t
text_grown opts (element name attrs k r) t = grown_then t (write_text opts k t) (write_text opts r) (text_grown opts k t) (text_grown opts r (write_text opts k t).text)

-- what has no room is something
pub shown_null : {room : ℕ} (o : Out) → Grown [] o → Refused room o → null o.text ≡ false
unfolding null
shown_null {room} o g w = go o.text refl
  where
    go : (x : Bytes) → o.text ≡ x → null x ≡ false
    go [] e = absurd (omega (arith, w.over, g.peak_in, ap length e))
    go (b ∷ x) e = refl

pub null_none : (x : Bytes) → length x ≡ 0 → null x ≡ true
unfolding null
null_none [] e = refl
null_none (b ∷ x) e = absurd (omega arith)

pub null_more : (x : Bytes) → (length x ≡ 0 → ⊥) → null x ≡ false
unfolding null
null_more [] e = absurd (e refl)
null_more (b ∷ x) e = refl

-- the texts that a link shows
abbrev pub shown_text : FormatOpts → Forest → Out
shown_text opts kids = write_text (skip_escape (include_node (fresh opts))) kids []

-- which are written by themselves, whatever element the link is
pub shown_below : (opts : FormatOpts) {sh ns : Bytes} {i d : ℕ} {a b o : FormatOpts} {room : ℕ} {after : Bytes} {r : Wrote} → a ≡ fresh opts → b ≡ include_node a → o ≡ skip_escape b → d ≡ end_at ns i
    → ((parent : ℕ) (f : Forest) → Rep sh ns parent (i + 1) d f → Writes room after r (write_text o f []))
    → (name : Bytes) (attrs : List Attr) (kids : Forest) → ElementAt sh ns i name attrs kids → Writes room after r (shown_text opts kids)
shown_below opts {i = i} {room = room} {after} {r} p q s e w name attrs kids x =
    subst (λ (g : FormatOpts). Writes room after r (write_text g kids [])) (s ∙ ap skip_escape (q ∙ ap include_node p)) (w i kids (element_kids x e))

pub no_image_below : {sh ns : Bytes} {i d : ℕ} {b : Bool} → d ≡ end_at ns i → ((parent : ℕ) (f : Forest) → Rep sh ns parent (i + 1) d f → b ≡ has_element 22 f) → b ≡ false
    → (name : Bytes) (attrs : List Attr) (kids : Forest) → ElementAt sh ns i name attrs kids → has_element 22 kids ≡ false
no_image_below {i = i} e w n name attrs kids x = sym (w i kids (element_kids x e)) ∙ n

module _ (self : MDSerializer) (anc : Ancestors) (opts : FormatOpts) (href name : Bytes) (attrs : List Attr) (kids : Forest) (t : Bytes) where
  pub to_image : has_element 22 kids ≡ true → link_to self anc opts href name attrs kids t ≡ link_of attrs href (write_kids self anc (link_body (fresh opts)) (element name attrs kids nothing) []) push t
  unfolding link_to body_link has_descendant_img
  to_image e = rw e

  pub to_body : has_element 22 kids ≡ false → null (shown_text opts kids).text ≡ true → link_to self anc opts href name attrs kids t ≡ link_of attrs href (write_kids self anc (fresh opts) (element name attrs kids nothing) []) push t
  unfolding link_to body_link has_descendant_img
  to_body e n = rw e (rw n)

  pub to_text : has_element 22 kids ≡ false → null (shown_text opts kids).text ≡ false → link_to self anc opts href name attrs kids t ≡ nested (shown_text opts kids) (text_link_step opts attrs href (shown_text opts kids).text) t
  unfolding link_to has_descendant_img
  to_text e n = rw e (rw n (text_link_is opts href attrs (shown_text opts kids) t))

  pub link_some : attr (ascii "href") attrs ≡ some href → write_link self anc opts name attrs kids t ≡ link_to self anc opts href name attrs kids t
  unfolding write_link href_or
  link_some e = ap (λ (o : Option Bytes). href_or o (λ h. link_to self anc opts h name attrs kids) (write_kids self anc (fresh opts) (element name attrs kids nothing)) t) e

pub link_none : (self : MDSerializer) (anc : Ancestors) (opts : FormatOpts) (name : Bytes) (attrs : List Attr) (kids : Forest) (t : Bytes) → attr (ascii "href") attrs ≡ none
    → write_link self anc opts name attrs kids t ≡ write_kids self anc (fresh opts) (element name attrs kids nothing) t
unfolding write_link href_or
link_none self anc opts name attrs kids t e = ap (λ (o : Option Bytes). href_or o (λ h. link_to self anc opts h name attrs kids) (write_kids self anc (fresh opts) (element name attrs kids nothing)) t) e
