-- The seven kinds of HTML block: how a line begins one, and what ends it (CommonMark 0.31, section 4.6).
use Rattle.std.specs.Prelude.{ℕ, ◌+◌, Bool, true, false, cond, not, ◌&&◌, ◌||◌, List, [], ◌∷◌, map, eqb, leb}
use Rattle.std.proofs.Math.Option.{Option, none, some}
use Rattle.spec.specs.Bytes.{Bytes, ascii, isin, starts_with, among, take_while}
use Rattle.spec.specs.Reading.Lines.{letter_or_digit, blank_line, head_is, drop_while, contains}
use Rattle.spec.specs.Reading.Tags.{tag_white, behind_tag, letter_next}

-- "(case-insensitive)"
unfoldable pub lower_byte : ℕ → ℕ
lower_byte b = cond (leb 65 b && leb b 90) (b + 32) b

unfoldable pub lower : Bytes → Bytes
lower s = map lower_byte s

-- "followed by a space, a tab, the string >, or the end of the line". Wider: all that is white in a tag
unfoldable pub name_ends : Bytes → Bool
name_ends [] = true
name_ends (b ∷ r) = tag_white b || eqb b 62

-- "followed by a space, a tab, the end of the line, the string >, or the string />"
unfoldable pub tag_ends : Bytes → Bool
tag_ends r = name_ends r || starts_with (ascii "/>") r

unfoldable pub name_of : Bytes → Bytes
name_of r = lower (take_while letter_or_digit r)

unfoldable pub behind_name : Bytes → Bytes
behind_name r = drop_while letter_or_digit r

-- 1: "line begins with the string <pre, <script, <style, or <textarea (case-insensitive)"
unfoldable pub verbatim_tags : List Bytes
verbatim_tags = ascii "pre" ∷ ascii "script" ∷ ascii "style" ∷ ascii "textarea" ∷ []

unfoldable pub verbatim : Bytes → Bool
verbatim r = among (name_of r) verbatim_tags && name_ends (behind_name r)

-- 6: the names of the specification's list. Wider: `source`, which was on it before 0.31
unfoldable pub block_tags : List Bytes
block_tags =
    ascii "address" ∷ ascii "article" ∷ ascii "aside" ∷ ascii "base" ∷ ascii "basefont" ∷ ascii "blockquote" ∷ ascii "body"
    ∷ ascii "caption" ∷ ascii "center" ∷ ascii "col" ∷ ascii "colgroup" ∷ ascii "dd" ∷ ascii "details" ∷ ascii "dialog"
    ∷ ascii "dir" ∷ ascii "div" ∷ ascii "dl" ∷ ascii "dt" ∷ ascii "fieldset" ∷ ascii "figcaption" ∷ ascii "figure"
    ∷ ascii "footer" ∷ ascii "form" ∷ ascii "frame" ∷ ascii "frameset" ∷ ascii "h1" ∷ ascii "h2" ∷ ascii "h3" ∷ ascii "h4"
    ∷ ascii "h5" ∷ ascii "h6" ∷ ascii "head" ∷ ascii "header" ∷ ascii "hr" ∷ ascii "html" ∷ ascii "iframe" ∷ ascii "legend"
    ∷ ascii "li" ∷ ascii "link" ∷ ascii "main" ∷ ascii "menu" ∷ ascii "menuitem" ∷ ascii "nav" ∷ ascii "noframes"
    ∷ ascii "ol" ∷ ascii "optgroup" ∷ ascii "option" ∷ ascii "p" ∷ ascii "param" ∷ ascii "search" ∷ ascii "section"
    ∷ ascii "source" ∷ ascii "summary" ∷ ascii "table" ∷ ascii "tbody" ∷ ascii "td" ∷ ascii "tfoot" ∷ ascii "th"
    ∷ ascii "thead" ∷ ascii "title" ∷ ascii "tr" ∷ ascii "track" ∷ ascii "ul" ∷ []

unfoldable pub block_tag : Bytes → Bool
block_tag r = among (name_of r) block_tags && tag_ends (behind_name r)

-- a closing tag's slash
unfoldable pub open_slash : Bytes → Bytes
open_slash [] = []
open_slash (b ∷ r) = cond (eqb b 47) r (b ∷ r)

-- 7: a complete open tag, with another name than those of 1, or a complete closing tag, "followed by zero or more spaces and tabs,
-- followed by the end of the line"
unfoldable pub blank_behind : Option Bytes → Bool
blank_behind none = false
blank_behind (some r) = blank_line r

unfoldable pub complete_tag : Bytes → Bool
complete_tag r = not (among (name_of r) verbatim_tags) && blank_behind (behind_tag r)

-- 4: "line begins with the string <! followed by an ASCII letter"
unfoldable pub declares : Bytes → Bool
declares [] = false
declares (b ∷ r) = eqb b 33 && letter_next r

-- The kind, 1 to 7, that a line begins whose first byte is < and whose other bytes are r; 0 where it begins none. 2: "line begins
-- with the string <!--"; 3: "line begins with the string <?"; 5: "line begins with the string <![CDATA["
unfoldable pub html_kind : Bytes → ℕ
html_kind r =
    cond (starts_with (ascii "!--") r) 2 (cond (head_is 63 r) 3 (cond (starts_with (ascii "![CDATA[") r) 5
    (cond (declares r) 4 (cond (verbatim r) 1 (cond (block_tag (open_slash r)) 6 (cond (complete_tag r) 7 0))))))

-- 1: "line contains an end tag </pre>, </script>, </style>, or </textarea> (case-insensitive; it need not match the start tag)";
-- 2: "line contains the string -->"; 3: "line contains the string ?>"; 4: "line contains the character >"; 5: "line contains the
-- string ]]>"; 6 and 7: "line is followed by a blank line"
unfoldable pub ends_verbatim : Bytes → Bool
ends_verbatim l =
    contains (ascii "</pre>") l || (contains (ascii "</script>") l || (contains (ascii "</style>") l || contains (ascii "</textarea>") l))

unfoldable pub ends_html : ℕ → Bytes → Bool
ends_html k l =
    cond (eqb k 1) (ends_verbatim (lower l)) (cond (eqb k 2) (contains (ascii "-->") l) (cond (eqb k 3) (contains (ascii "?>") l)
    (cond (eqb k 4) (isin 62 l) (cond (eqb k 5) (contains (ascii "]]>") l) (blank_line l)))))
