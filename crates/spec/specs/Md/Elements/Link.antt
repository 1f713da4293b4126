-- `elements/link.rs`.
use Rattle.std.specs.Prelude.{ℕ, Bool, false, cond, ◌||◌, List, [], length, eqb}
use Rattle.std.proofs.Math.Option.{Option, none, some}
use Rattle.spec.specs.Bytes.{Bytes, ascii, null, is_blank}
use Rattle.spec.specs.Names as tag
use Rattle.spec.specs.Names.{tag_of}
use Rattle.spec.specs.Tree.{Attr, Forest, nothing, text, comment, element, attr}
use Rattle.spec.specs.Out.{Out, Step, keep, push, and_then, beside, nested}
use Rattle.spec.specs.Md.Ctx.{fresh, include_node, skip_escape, link_body}
use Rattle.spec.specs.Md.TextUtils.{escape_trailing_bang, push_normalized_text, push_md_url, push_title}
use Rattle.spec.specs.Md.MDSerializer.{Ancestors, MDSerializer, write_kids}
use Rattle.spec.specs.Md.Elements.Image.{if_some}
use Rattle.spec.specs.declared.ctx.FormatOpts.{FormatOpts}

-- some element of the forest or below it has the name
unfoldable pub has_element : ℕ → Forest → Bool
has_element name nothing = false
has_element name (text s rest) = has_element name rest
has_element name (comment s rest) = has_element name rest
has_element name (element n attrs kids rest) = eqb (tag_of n) name || (has_element name kids || has_element name rest)

unfoldable pub has_descendant_img : Forest → Bool
has_descendant_img kids = has_element tag.img kids

-- `write_text` of `serializer.rs`, on the children: it knows no skip list
unfoldable pub write_text : FormatOpts → Forest → Step
write_text opts nothing t = keep t
write_text opts (text s rest) t = and_then (push_normalized_text s opts t) (write_text opts rest)
write_text opts (comment s rest) t = write_text opts rest t
write_text opts (element name attrs kids rest) t = and_then (write_text opts kids t) (write_text opts rest)

-- what follows the link's text, which then counts no longer
unfoldable pub link_end : List Attr → Bytes → Step
link_end attrs href t =
    and_then (and_then (push (ascii "](") t) (push_md_url href)) λ t₁.
    and_then (if_some (attr (ascii "title") attrs) push_title t₁) (push (ascii ")"))

-- the link, from its text: `append` appends that
unfoldable pub link_of : List Attr → Bytes → Out → (Bytes → Step) → Step
link_of attrs href link append =
    nested link
    (λ t.
    cond (null link.text) (keep t)
    (and_then
    (beside (length link.text)
    (and_then (and_then (escape_trailing_bang t) (push (ascii "["))) (append link.text)))
    (link_end attrs href)))

-- a link that shows only white bytes parts the words around it
unfoldable pub blank_link : FormatOpts → Out → Step
blank_link opts link =
    nested link (λ t. beside (length link.text) (push_normalized_text link.text (fresh opts) t))

-- a link with an image, or without any text, shows what `write` gives for its content
unfoldable pub body_link : MDSerializer → Ancestors → FormatOpts → Bytes → Bytes → List Attr → Forest → Step
body_link self anc opts href name attrs kids =
    let bodyOpts = cond (has_descendant_img kids) (link_body (fresh opts)) (fresh opts) in
    link_of attrs href (write_kids self anc bodyOpts (element name attrs kids nothing) []) push

-- any other shows its texts
unfoldable pub text_link : FormatOpts → Bytes → List Attr → Out → Step
text_link opts href attrs link = link_of attrs href link (λ s. push_normalized_text s (fresh opts))

unfoldable pub link_to : MDSerializer → Ancestors → FormatOpts → Bytes → Bytes → List Attr → Forest → Step
link_to self anc opts href name attrs kids t =
    let link = write_text (skip_escape (include_node (fresh opts))) kids [] in
    cond (has_descendant_img kids || null link.text) (body_link self anc opts href name attrs kids t)
    (cond (is_blank link.text) (blank_link opts link t) (text_link opts href attrs link t))

unfoldable pub href_or : Option Bytes → (Bytes → Step) → Step → Step
href_or none f g t = g t
href_or (some href) f g t = f href t

unfoldable pub write_link : MDSerializer → Ancestors → FormatOpts → Bytes → List Attr → Forest → Step
write_link self anc opts name attrs kids =
    href_or (attr (ascii "href") attrs) (λ href. link_to self anc opts href name attrs kids)
    (write_kids self anc (fresh opts) (element name attrs kids nothing))
