-- Which writer takes up an element, and what the choices of attributes give, evaluated.
use Rattle.std.specs.Prelude.{ℕ, ◌≡◌, refl, Bool, true, false, cond, not, ◌&&◌, List, [], ◌∷◌, ◌++◌, eqb}
use Rattle.std.proofs.Common.{◌∙◌, append-nil, eqb-true}
use Rattle.std.proofs.Math.Option.{some}
use Rattle.std.proofs.lemmas.Bool.{not-true}
use Rattle.spec.specs.Bytes.{Bytes, ascii, null, isin, among}
use Rattle.spec.specs.Everything.{everything}
use Rattle.spec.specs.Names as tag
use Rattle.spec.specs.Names.{tag_of}
use Rattle.spec.specs.Out.{keep, push, and_then}
use Rattle.spec.specs.Tree.{Attr, Forest, nothing, text, element}
use Rattle.spec.specs.Md.Elements.Blocks.{is_md_block, is_link_block, is_list}
use Rattle.spec.specs.Md.Elements.Image.{source, if_some, image_of, write_img}
use Rattle.spec.specs.Md.Elements.Link.{write_link}
use Rattle.spec.specs.Md.Elements.Code.{write_pre, write_code}
use Rattle.spec.specs.Md.Heading.{md_prefix}
use Rattle.spec.specs.Md.MDSerializer.{Ancestors, MDSerializer}
use Rattle.spec.specs.Md.Serializer.{open_break, opened, has_writer, write_element, in_element, write_element_node}
use Rattle.spec.specs.declared.ctx.FormatOpts.{FormatOpts}
use Rattle.spec.proofs.Tests.{and_l, and_r, isin_yes, null_nil}
use Rattle.recovery.proofs.Pieces.ItemExamples.{written_of, holding}

-- ---- the elements inside a line

unfoldable pub inline_tags : List ℕ
inline_tags = tag.a ∷ tag.img ∷ tag.pre ∷ tag.code ∷ tag.strong ∷ tag.b ∷ tag.em ∷ tag.i ∷ []

-- no block, in a link or not, nothing before it, and a writer of its own
unfoldable taken_up : ℕ → Bool
taken_up n =
    not (is_link_block n) && (not (is_md_block n) && (null (md_prefix n) && isin n inline_tags))

-- nothing is written before it
opened_none : (opts : FormatOpts) (n : ℕ) (attrs : List Attr) (kids : Forest) (t : Bytes) → taken_up n ≡ true → opts.skip_md ≡ false
    → (opened opts n attrs kids t).text ≡ t
unfolding opened open_break and_then push keep taken_up
opened_none opts n attrs kids t h s =
    let l : is_link_block n ≡ false = not-true _ (and_l (not (is_link_block n)) _ h) in
    let r : (not (is_md_block n) && (null (md_prefix n) && isin n inline_tags)) ≡ true = and_r (not (is_link_block n)) _ h in
    let m : is_md_block n ≡ false = not-true _ (and_l (not (is_md_block n)) _ r) in
    let p : md_prefix n ≡ [] = null_nil (md_prefix n) (and_l (null (md_prefix n)) _ (and_r (not (is_md_block n)) _ r)) in
    rw (s, l, m, p) (go opts.link_body)
  where
    go : (b : Bool) → (cond b (keep t) (keep t)).text ++ cond b [] [] ≡ t
    go true = append-nil t
    go false = append-nil t

-- its writer does the rest, unless the skip list has its name
pub element_written : (self : MDSerializer) (anc : Ancestors) (opts : FormatOpts) (name : Bytes) (attrs : List Attr) (kids : Forest) (t : Bytes)
    → among name self.skip_tags ≡ false → opts.skip_md ≡ false → isin (tag_of name) inline_tags ≡ true
    → (write_element_node self anc opts name attrs kids t).text ≡ (write_element self anc opts name attrs kids t).text
unfolding write_element_node in_element has_writer and_then inline_tags
element_written self anc opts name attrs kids t k s h =
    let q : taken_up (tag_of name) ≡ true =
    isin_yes taken_up (tag_of name) inline_tags h (unfold everything taken_up inline_tags in refl) in
    rw (k, opened_none opts (tag_of name) attrs kids t q s, s, h)

module _ (self : MDSerializer) (anc : Ancestors) (opts : FormatOpts) (name : Bytes) (attrs : List Attr) (kids : Forest) (t : Bytes)
    (shown : among name self.skip_tags ≡ false) (md : opts.skip_md ≡ false) where
  -- the writer of each
  pub link_taken : eqb (tag_of name) tag.a ≡ true → (write_element_node self anc opts name attrs kids t).text ≡ (write_link self anc opts name attrs kids t).text
  link_taken h =
      element_written self anc opts name attrs kids t shown md (unfold inline_tags isin in rw (eqb-true (tag_of name) tag.a h))
      ∙ unfold write_element is_list isin in rw (eqb-true (tag_of name) tag.a h)

  pub image_taken : (src : Bytes) → eqb (tag_of name) tag.img ≡ true → source attrs ≡ some src
      → (write_element_node self anc opts name attrs kids t).text ≡ (image_of attrs src t).text
  image_taken src h e =
      element_written self anc opts name attrs kids t shown md (unfold inline_tags isin in rw (eqb-true (tag_of name) tag.img h))
      ∙ unfold write_element is_list isin write_img if_some in rw (eqb-true (tag_of name) tag.img h, e)

  pub pre_taken : eqb (tag_of name) tag.pre ≡ true → (write_element_node self anc opts name attrs kids t).text ≡ (write_pre anc opts attrs kids t).text
  pre_taken h =
      element_written self anc opts name attrs kids t shown md (unfold inline_tags isin in rw (eqb-true (tag_of name) tag.pre h))
      ∙ unfold write_element is_list isin in rw (eqb-true (tag_of name) tag.pre h)

  pub code_taken : eqb (tag_of name) tag.code ≡ true → (write_element_node self anc opts name attrs kids t).text ≡ (write_code self anc opts name attrs kids t).text
  code_taken h =
      element_written self anc opts name attrs kids t shown md (unfold inline_tags isin in rw (eqb-true (tag_of name) tag.code h))
      ∙ unfold write_element is_list isin in rw (eqb-true (tag_of name) tag.code h)

-- ---- languages and sources, evaluated

-- HTML: "adding a class prefixed with "language-" to the element"; the nearest attribute up to three elements around a `pre` comes first
unfoldable pub attr_of : Bytes → Bytes → List Attr
attr_of name value = record { name = name; value = value } ∷ []

pub class_language_lem :
    written_of (element (ascii "pre") [] (element (ascii "code") (attr_of (ascii "class") (ascii "language-rust")) (text (ascii "x") nothing) nothing) nothing)
    ≡ ascii "```rust\nx\n```"
unfolding everything written_of attr_of
class_language_lem = refl

unfoldable pub in_divs : Forest → Forest
in_divs f = element (ascii "div") (attr_of (ascii "data-lang") (ascii "c")) (element (ascii "div") [] (element (ascii "div") [] f nothing) nothing) nothing

pub near_language : (written_of (in_divs (holding (ascii "pre") (ascii "x") nothing)) ≡ ascii "```c\nx\n```")
    × (written_of (in_divs (element (ascii "div") [] (holding (ascii "pre") (ascii "x") nothing) nothing)) ≡ ascii "```\nx\n```")
unfolding everything written_of attr_of in_divs holding
near_language = (refl, refl)

-- a filled `src` comes before a `srcset`, and that before `data-src`
unfoldable pub picture : List Attr → Forest
picture attrs = element (ascii "img") attrs nothing nothing

pub source_order :
    (written_of (picture (record { name = ascii "srcset"; value = ascii "b" } ∷ record { name = ascii "src"; value = ascii "a" } ∷ [])) ≡ ascii "![](a)")
    × (written_of (picture (record { name = ascii "data-src"; value = ascii "c" } ∷ record { name = ascii "srcset"; value = ascii "b 2x" } ∷ [])) ≡ ascii "![](b)")
unfolding everything written_of picture
source_order = (refl, refl)
