-- Written links and pictures are links and images with the text, destination and title that were joined.
use Rattle.std.specs.Prelude.{◌≡◌, true, false, not, ◌||◌, List, [], ◌∷◌, ◌++◌}
use Rattle.std.proofs.Math.Path.{refl}
use Rattle.std.proofs.Common.{sym, ap, ◌∙◌, append-nil, append_assoc}
use Rattle.std.proofs.Math.Option.{Option, none, some}
use Rattle.spec.specs.Bytes.{Bytes, ascii, null}
use Rattle.spec.specs.Md.Ctx.{new}
use Rattle.spec.specs.Md.Elements.Image.{if_some, image_of}
use Rattle.spec.specs.Md.Elements.Link as written
use Rattle.spec.specs.Md.Elements.Link.{link_of}
use Rattle.spec.specs.Md.TextUtils.{escape_trailing_bang, normalized, push_normalized_text, html_escape, destination, push_md_url, push_title}
use Rattle.spec.specs.Out.{Out, Step, keep, push, and_then, beside, nested}
use Rattle.spec.specs.Tree.{Attr, attr}
use Rattle.spec.specs.Pieces.Images.{opens_image}
use Rattle.spec.specs.Pieces.LinkWholes.{balanced_text, holds_link, inline_link, inline_image}
use Rattle.spec.specs.declared.ctx.FormatOpts.{FormatOpts}
use Rattle.recovery.proofs.Pieces.Bangs.{open_bang, no_image_lem}
use Rattle.recovery.proofs.Pieces.TitleTexts.{title_text}
use Rattle.recovery.proofs.Pieces.LinkTexts.{normalized_text, normalized_linkless}
use Rattle.recovery.proofs.Pieces.LinkWholes.{title_part, title_in, has_title, link_bytes, link_read, image_read}

-- ---- links

title_written : (o : Option Bytes) (u : Bytes) → (if_some o push_title u).text ≡ u ++ title_part o
unfolding if_some keep title_part
title_written none u = sym (append-nil u)
title_written (some t) u = title_text t u

-- behind a link's text
end_written : (attrs : List Attr) (href t : Bytes)
    → (written.link_end attrs href t).text ≡ t ++ (93 ∷ 40 ∷ (destination (html_escape href) ++ (title_part (attr (ascii "title") attrs) ++ (41 ∷ []))))
unfolding written.link_end and_then push push_md_url
end_written attrs href t =
    rw (title_written (attr (ascii "title") attrs) ((t ++ ascii "](") ++ destination (html_escape href))) (simp append_assoc)

-- a link whose text x is appended behind its bracket
pub link_written : (attrs : List Attr) (href : Bytes) (link : Out) (x : Bytes) (append : Bytes → Step) (t : Bytes) → null link.text ≡ false
    → (append link.text ((escape_trailing_bang t).text ++ ascii "[")).text ≡ ((escape_trailing_bang t).text ++ ascii "[") ++ x
    → (link_of attrs href link append t).text ≡ (escape_trailing_bang t).text ++ link_bytes x href (attr (ascii "title") attrs)
unfolding link_of nested and_then beside push link_bytes
link_written attrs href link x append t n a =
    rw (n, a, end_written attrs href (((escape_trailing_bang t).text ++ ascii "[") ++ x)) (simp append_assoc)

-- the text `was` with a link behind it that has the text x, the destination of href and the title t; `before` stands before the link.
-- No image begins with its bracket, but where `was` ends with a `!` that is escaped already, as no text of nodes does (`settled_text`)
pub record ReadLink (text was before x href : Bytes) (t : Option Bytes) : Type 0 where
  pub written : text ≡ before ++ link_bytes x href t
  pub no_image : open_bang was ≡ true → opens_image false before ≡ false
  pub read : (not (null href) || not (has_title t)) ≡ true → (rest : Bytes)
      → inline_link (link_bytes x href t ++ rest) ≡ some (record { text = x; destination = destination (html_escape href); title = title_in t; behind = rest })

-- a link that shows its texts, whatever they hold
pub text_link_lem : (opts : FormatOpts) (href : Bytes) (attrs : List Attr) (link : Out) (t : Bytes) → null link.text ≡ false
    → ReadLink (written.text_link opts href attrs link t).text t (escape_trailing_bang t).text
    (normalized new ((escape_trailing_bang t).text ++ ascii "[") link.text) href (attr (ascii "title") attrs)
unfolding written.text_link
text_link_lem opts href attrs link t n =
    let x : Bytes = normalized new ((escape_trailing_bang t).text ++ ascii "[") link.text in
    record {
      written = link_written attrs href link x (λ s. push_normalized_text s new) t n (unfold push_normalized_text push in refl);
      no_image = no_image_lem t;
      read = λ h rest. link_read x href (attr (ascii "title") attrs) rest (normalized_text (escape_trailing_bang t).text link.text) (normalized_linkless (escape_trailing_bang t).text link.text) h;
    }

-- a link that shows what is written for its content, where that has its brackets escaped or balanced and holds no link
pub body_link_lem : (href : Bytes) (attrs : List Attr) (link : Out) (t : Bytes) → null link.text ≡ false → balanced_text 0 false 0 link.text ≡ true → holds_link link.text ≡ false
    → ReadLink (link_of attrs href link push t).text t (escape_trailing_bang t).text link.text href (attr (ascii "title") attrs)
body_link_lem href attrs link t n b l =
    record {
      written = link_written attrs href link link.text push t n (unfold push in refl);
      no_image = no_image_lem t;
      read = λ h rest. link_read link.text href (attr (ascii "title") attrs) rest b l h;
    }

-- ---- pictures

unfoldable pub alt_text : Bytes → Option Bytes → Bytes
alt_text t none = []
alt_text t (some alt) = normalized new (t ++ ascii "![") alt

alt_balanced : (t : Bytes) (alt : Option Bytes) → balanced_text 0 false 0 (alt_text t alt) ≡ true
unfolding alt_text
alt_balanced t none = unfold balanced_text in refl
alt_balanced t (some alt) =
    ap (λ (u : Bytes). balanced_text 0 false 0 (normalized new u alt)) (sym (append_assoc t (ascii "!") (ascii "["))) ∙ normalized_text (t ++ ascii "!") alt

alt_written : (t : Bytes) (alt : Option Bytes) → (if_some alt (λ a. push_normalized_text a new) (t ++ ascii "![")).text ≡ (t ++ ascii "![") ++ alt_text t alt
unfolding if_some keep alt_text push_normalized_text push
alt_written t none = sym (append-nil (t ++ ascii "!["))
alt_written t (some alt) = refl

image_written : (attrs : List Attr) (src t : Bytes)
    → (image_of attrs src t).text ≡ t ++ (33 ∷ link_bytes (alt_text t (attr (ascii "alt") attrs)) src (attr (ascii "title") attrs))
unfolding image_of and_then push push_md_url link_bytes
image_written attrs src t =
    rw (
      alt_written t (attr (ascii "alt") attrs),
      title_written (attr (ascii "title") attrs) ((((t ++ ascii "![") ++ alt_text t (attr (ascii "alt") attrs)) ++ ascii "](") ++ destination (html_escape src)),
    )
    (simp append_assoc)

-- a text with a picture behind it
pub record ReadImage (text before x src : Bytes) (t : Option Bytes) : Type 0 where
  pub written : text ≡ before ++ (33 ∷ link_bytes x src t)
  pub read : (not (null src) || not (has_title t)) ≡ true → (rest : Bytes)
      → inline_image (33 ∷ (link_bytes x src t ++ rest)) ≡ some (record { text = x; destination = destination (html_escape src); title = title_in t; behind = rest })

-- a picture, whatever its attributes hold
pub image : (attrs : List Attr) (src t : Bytes)
    → ReadImage (image_of attrs src t).text t (alt_text t (attr (ascii "alt") attrs)) src (attr (ascii "title") attrs)
image attrs src t =
    let x : Bytes = alt_text t (attr (ascii "alt") attrs) in
    record {
      written = image_written attrs src t;
      read = λ h rest. image_read x src (attr (ascii "title") attrs) rest (alt_balanced t (attr (ascii "alt") attrs)) h;
    }
