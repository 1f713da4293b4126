-- Published examples of the CommonMark specification (numbered as in version 0.30) and of GitHub's tables, by the definitions of the
-- pieces.
use Rattle.std.specs.Prelude.{ℕ, ◌≡◌, refl, Bool, true, false, cond, not, ◌&&◌, List, [], ◌∷◌, eqb}
use Rattle.std.proofs.Math.Option.{Option, none, some}
use Rattle.spec.specs.Bytes.{Bytes, ascii, same}
use Rattle.spec.specs.Everything.{everything}
use Rattle.spec.specs.Reading.Inline.{unescape}
use Rattle.spec.specs.Reading.Lines.{head_is, run, drop_run, lines}
use Rattle.spec.specs.Pieces.CodeSpans.{inner}
use Rattle.spec.specs.Pieces.Emphasis.{can_open, can_close}
use Rattle.spec.specs.Pieces.Lines.{heading_content, hard_break}
use Rattle.spec.specs.Pieces.LinkWholes.{Link, inline_link, inline_image}
use Rattle.spec.specs.Pieces.Tables.{Table, table_in}
use Rattle.recovery.proofs.Pieces.Emphasis.{known, first_of, last_of, ascii_classes}
use Rattle.recovery.proofs.Pieces.Examples.{all}

-- ---- tables

unfoldable pub same_row : List Bytes → List Bytes → Bool
same_row [] [] = true
same_row [] (y ∷ ys) = false
same_row (x ∷ xs) [] = false
same_row (x ∷ xs) (y ∷ ys) = same x y && same_row xs ys

unfoldable pub same_rows : List (List Bytes) → List (List Bytes) → Bool
same_rows [] [] = true
same_rows [] (y ∷ ys) = false
same_rows (x ∷ xs) [] = false
same_rows (x ∷ xs) (y ∷ ys) = same_row x y && same_rows xs ys

unfoldable pub is_table : Option Table → List Bytes → List (List Bytes) → Bool
is_table none hs rows = false
is_table (some t) hs rows = same_row t.headings hs && same_rows t.rows rows

unfoldable pub no_table : Option Table → Bool
no_table none = true
no_table (some t) = false

-- the examples of GitHub's tables but the third, whose code a renderer decides
pub tables : all
    (is_table (table_in (lines (ascii "| foo | bar |\n| --- | --- |\n| baz | bim |\n"))) ((ascii "foo") ∷ (ascii "bar") ∷ []) (((ascii "baz") ∷ (ascii "bim") ∷ []) ∷ [])
    ∷ is_table (table_in (lines (ascii "| abc | defghi |\n:-: | -----------:\nbar | baz\n"))) ((ascii "abc") ∷ (ascii "defghi") ∷ []) (((ascii "bar") ∷ (ascii "baz") ∷ []) ∷ [])
    ∷ is_table (table_in (lines (ascii "| abc | def |\n| --- | --- |\n| bar | baz |\n> bar\n"))) ((ascii "abc") ∷ (ascii "def") ∷ []) (((ascii "bar") ∷ (ascii "baz") ∷ []) ∷ [])
    ∷ is_table (table_in (lines (ascii "| abc | def |\n| --- | --- |\n| bar | baz |\nbar\n\nbar\n"))) ((ascii "abc") ∷ (ascii "def") ∷ []) (((ascii "bar") ∷ (ascii "baz") ∷ []) ∷ ((ascii "bar") ∷ (ascii "") ∷ []) ∷ [])
    ∷ no_table (table_in (lines (ascii "| abc | def |\n| --- |\n| bar |\n")))
    ∷ is_table (table_in (lines (ascii "| abc | def |\n| --- | --- |\n| bar |\n| bar | baz | boo |\n"))) ((ascii "abc") ∷ (ascii "def") ∷ []) (((ascii "bar") ∷ (ascii "") ∷ []) ∷ ((ascii "bar") ∷ (ascii "baz") ∷ []) ∷ [])
    ∷ is_table (table_in (lines (ascii "| abc | def |\n| --- | --- |\n"))) ((ascii "abc") ∷ (ascii "def") ∷ []) ([])
    ∷ [])
    ≡ true
unfolding everything all same_row same_rows is_table no_table
tables = refl

-- ---- headings

-- of that level, with that content
unfoldable pub is_heading_name : Bytes → ℕ → Bytes → Bool
is_heading_name l level c = eqb (run 35 l) level && same (unescape false (heading_content (drop_run 35 l))) c

-- 4.2: 62, 67, 68, 71 to 76, 79
pub headings : all
    (is_heading_name (ascii "# foo") 1 (ascii "foo")
    ∷ is_heading_name (ascii "## foo") 2 (ascii "foo")
    ∷ is_heading_name (ascii "### foo") 3 (ascii "foo")
    ∷ is_heading_name (ascii "#### foo") 4 (ascii "foo")
    ∷ is_heading_name (ascii "##### foo") 5 (ascii "foo")
    ∷ is_heading_name (ascii "###### foo") 6 (ascii "foo")
    ∷ is_heading_name (ascii "#                  foo                     ") 1 (ascii "foo")
    ∷ is_heading_name (ascii "### foo") 3 (ascii "foo")
    ∷ is_heading_name (ascii "## foo") 2 (ascii "foo")
    ∷ is_heading_name (ascii "# foo") 1 (ascii "foo")
    ∷ is_heading_name (ascii "## foo ##") 2 (ascii "foo")
    ∷ is_heading_name (ascii "###   bar    ###") 3 (ascii "bar")
    ∷ is_heading_name (ascii "# foo ##################################") 1 (ascii "foo")
    ∷ is_heading_name (ascii "##### foo ##") 5 (ascii "foo")
    ∷ is_heading_name (ascii "### foo ###     ") 3 (ascii "foo")
    ∷ is_heading_name (ascii "### foo ### b") 3 (ascii "foo ### b")
    ∷ is_heading_name (ascii "# foo#") 1 (ascii "foo#")
    ∷ is_heading_name (ascii "### foo \\###") 3 (ascii "foo ###")
    ∷ is_heading_name (ascii "## foo #\\##") 2 (ascii "foo ###")
    ∷ is_heading_name (ascii "# foo \\#") 1 (ascii "foo #")
    ∷ is_heading_name (ascii "## ") 2 (ascii "")
    ∷ is_heading_name (ascii "#") 1 (ascii "")
    ∷ is_heading_name (ascii "### ###") 3 (ascii "")
    ∷ [])
    ≡ true
unfolding everything all is_heading_name
headings = refl

-- ---- hard line breaks

-- 6.7 and 6.8: 633, 635, 636, 648, 649
pub breaks : all
    ((hard_break (ascii "foo  ") (ascii "baz"))
    ∷ (hard_break (ascii "foo       ") (ascii "baz"))
    ∷ (hard_break (ascii "foo  ") (ascii "     bar"))
    ∷ not (hard_break (ascii "foo") (ascii "baz"))
    ∷ not (hard_break (ascii "foo ") (ascii " baz"))
    ∷ [])
    ≡ true
unfolding everything all
breaks = refl

-- ---- delimiter runs

unfoldable pub opens : Bytes → Bytes → Bool
opens x from = can_open ascii_classes 42 x from

unfoldable pub closes : Bytes → Bytes → Bool
closes x from = can_close ascii_classes 42 x from

-- 6.2: 350 to 352, 354, 355, 365, 367, 377 to 379, 390
pub flanking : all
    (opens [] (ascii "*foo bar*")
    ∷ closes (ascii "*foo bar") (ascii "*")
    ∷ not (opens (ascii "a ") (ascii "* foo bar*"))
    ∷ not (opens (ascii "a") (ascii "*\"foo\"*"))
    ∷ opens (ascii "foo") (ascii "*bar*")
    ∷ closes (ascii "foo*bar") (ascii "*")
    ∷ opens (ascii "5") (ascii "*6*78")
    ∷ closes (ascii "5*6") (ascii "*78")
    ∷ not (closes (ascii "*foo bar ") (ascii "*"))
    ∷ not (closes (ascii "*(") (ascii "*foo)"))
    ∷ opens [] (ascii "**foo bar**")
    ∷ not (opens [] (ascii "** foo bar**"))
    ∷ not (opens (ascii "a") (ascii "**\"foo\"**"))
    ∷ not (closes (ascii "**foo bar ") (ascii "**"))
    ∷ [])
    ≡ true
unfolding everything all opens closes ascii_classes first_of last_of known
flanking = refl

-- ---- links and images

unfoldable pub is_link : Option Link → Bytes → Bytes → Bool
is_link none d t = false
is_link (some l) d t =
    same (unescape false (cond (head_is 60 l.destination) (inner l.destination) l.destination)) d
    && same (unescape false (inner l.title)) t

unfoldable pub no_link : Option Link → Bool
no_link none = true
no_link (some l) = false

-- 6.3 and 6.4: 481 to 501, 503, 504, 506 to 519, 521, 524, 546, 547, 571, 573, 574, 577, 579, 580, 589
pub links : all
    (is_link (inline_link (ascii "[link](/uri \"title\")")) (ascii "/uri") (ascii "title")
    ∷ is_link (inline_link (ascii "[link](/uri)")) (ascii "/uri") (ascii "")
    ∷ is_link (inline_link (ascii "[](./target.md)")) (ascii "./target.md") (ascii "")
    ∷ is_link (inline_link (ascii "[link]()")) (ascii "") (ascii "")
    ∷ is_link (inline_link (ascii "[link](<>)")) (ascii "") (ascii "")
    ∷ is_link (inline_link (ascii "[]()")) (ascii "") (ascii "")
    ∷ no_link (inline_link (ascii "[link](/my uri)"))
    ∷ is_link (inline_link (ascii "[link](</my uri>)")) (ascii "/my uri") (ascii "")
    ∷ no_link (inline_link (ascii "[link](foo\nbar)"))
    ∷ no_link (inline_link (ascii "[link](<foo\nbar>)"))
    ∷ is_link (inline_link (ascii "[a](<b)c>)")) (ascii "b)c") (ascii "")
    ∷ no_link (inline_link (ascii "[link](<foo\\>)"))
    ∷ no_link (inline_link (ascii "[a](<b)c\n[a](<b)c>\n[a](<b>c)"))
    ∷ is_link (inline_link (ascii "[link](\\(foo\\))")) (ascii "(foo)") (ascii "")
    ∷ is_link (inline_link (ascii "[link](foo(and(bar)))")) (ascii "foo(and(bar))") (ascii "")
    ∷ no_link (inline_link (ascii "[link](foo(and(bar))"))
    ∷ is_link (inline_link (ascii "[link](foo\\(and\\(bar\\))")) (ascii "foo(and(bar)") (ascii "")
    ∷ is_link (inline_link (ascii "[link](<foo(and(bar)>)")) (ascii "foo(and(bar)") (ascii "")
    ∷ is_link (inline_link (ascii "[link](foo\\)\\:)")) (ascii "foo):") (ascii "")
    ∷ is_link (inline_link (ascii "[link](#fragment)\n\n[link](http://example.com#fragment)\n\n[link](http://example.com?foo=3#frag)")) (ascii "#fragment") (ascii "")
    ∷ is_link (inline_link (ascii "[link](foo\\bar)")) (ascii "foo\\bar") (ascii "")
    ∷ is_link (inline_link (ascii "[link](\"title\")")) (ascii "\"title\"") (ascii "")
    ∷ is_link (inline_link (ascii "[link](/url \"title\")\n[link](/url 'title')\n[link](/url (title))")) (ascii "/url") (ascii "title")
    ∷ is_link (inline_link (ascii "[link](/urlÂ\u{a0}\"title\")")) (ascii "/urlÂ\u{a0}\"title\"") (ascii "")
    ∷ no_link (inline_link (ascii "[link](/url \"title \"and\" title\")"))
    ∷ is_link (inline_link (ascii "[link](/url 'title \"and\" title')")) (ascii "/url") (ascii "title \"and\" title")
    ∷ is_link (inline_link (ascii "[link](   /uri\n  \"title\"  )")) (ascii "/uri") (ascii "title")
    ∷ no_link (inline_link (ascii "[link] (/uri)"))
    ∷ is_link (inline_link (ascii "[link [foo [bar]]](/uri)")) (ascii "/uri") (ascii "")
    ∷ no_link (inline_link (ascii "[link] bar](/uri)"))
    ∷ no_link (inline_link (ascii "[link [bar](/uri)"))
    ∷ is_link (inline_link (ascii "[link \\[bar](/uri)")) (ascii "/uri") (ascii "")
    ∷ is_link (inline_link (ascii "[link *foo **bar** `#`*](/uri)")) (ascii "/uri") (ascii "")
    ∷ is_link (inline_link (ascii "[![moon](moon.jpg)](/uri)")) (ascii "/uri") (ascii "")
    ∷ no_link (inline_link (ascii "[foo [bar](/uri)](/uri)"))
    ∷ no_link (inline_link (ascii "[foo *[bar [baz](/uri)](/uri)*](/uri)"))
    ∷ is_link (inline_image (ascii "![[[foo](uri1)](uri2)](uri3)")) (ascii "uri3") (ascii "")
    ∷ is_link (inline_link (ascii "[foo *bar](baz*)")) (ascii "baz*") (ascii "")
    ∷ no_link (inline_link (ascii "[foo`](/uri)`"))
    ∷ no_link (inline_link (ascii "[foo][ref[bar]]\n\n[ref[bar]]: /uri"))
    ∷ no_link (inline_link (ascii "[[[foo]]]\n\n[[[foo]]]: /url"))
    ∷ is_link (inline_image (ascii "![foo](/url \"title\")")) (ascii "/url") (ascii "title")
    ∷ is_link (inline_image (ascii "![foo ![bar](/url)](/url2)")) (ascii "/url2") (ascii "")
    ∷ is_link (inline_image (ascii "![foo [bar](/url)](/url2)")) (ascii "/url2") (ascii "")
    ∷ is_link (inline_image (ascii "![foo](train.jpg)")) (ascii "train.jpg") (ascii "")
    ∷ is_link (inline_image (ascii "![foo](<url>)")) (ascii "url") (ascii "")
    ∷ is_link (inline_image (ascii "![](/url)")) (ascii "/url") (ascii "")
    ∷ no_link (inline_image (ascii "![[foo]]\n\n[[foo]]: /url \"title\""))
    ∷ [])
    ≡ true
unfolding everything all is_link no_link
links = refl
