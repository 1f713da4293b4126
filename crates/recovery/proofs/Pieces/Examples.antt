-- Published examples of the CommonMark specification (numbered as in version 0.30), by the definitions of the pieces.
use Rattle.std.specs.Prelude.{◌≡◌, refl, Bool, true, false, cond, not, ◌&&◌, List, [], ◌∷◌}
use Rattle.std.proofs.Math.Option.{Option, none, some}
use Rattle.spec.specs.Bytes.{Bytes, ascii, same}
use Rattle.spec.specs.Everything.{everything}
use Rattle.spec.specs.Reading.Lines.{lines}
use Rattle.spec.specs.Pieces.CodeSpans.{code_span}
use Rattle.spec.specs.Pieces.Fences.{Fenced, fenced}
use Rattle.spec.specs.Pieces.Links.{References, link_destination, destination_meaning, link_title, title_meaning}

unfoldable pub all : List Bool → Bool
all [] = true
all (t ∷ ts) = t && all ts

unfoldable pub is_span : Option (Bytes × Bytes) → Bytes → Bytes → Bool
is_span none content more = false
is_span (some p) content more = same p.0 content && same p.1 more

unfoldable pub no_span : Option (Bytes × Bytes) → Bool
no_span none = true
no_span (some p) = false

unfoldable pub is_fenced : Option Fenced → Bytes → Bytes → Bool
is_fenced none info content = false
is_fenced (some f) info content = same f.info info && same f.content content

unfoldable pub no_fenced : Option Fenced → Bool
no_fenced none = true
no_fenced (some f) = false

-- one reference
unfoldable pub quot : References
quot name = cond (same name (ascii "quot")) (some (ascii "\"")) none

unfoldable pub is_destination : Bytes → Bytes → Bool
is_destination s w = link_destination s && same (destination_meaning quot s) w

unfoldable pub is_title : Bytes → Bytes → Bool
is_title s w = link_title s && same (title_meaning quot s) w

-- 6.1: examples 328, 329, 330, 331, 332, 335, 336, 338, 340, 347, 348
unfoldable pub span_examples : List Bool
span_examples =
    is_span (code_span (ascii "`foo`")) (ascii "foo") (ascii "")
    ∷ is_span (code_span (ascii "`` foo ` bar ``")) (ascii "foo ` bar") (ascii "")
    ∷ is_span (code_span (ascii "` `` `")) (ascii "``") (ascii "")
    ∷ is_span (code_span (ascii "`  ``  `")) (ascii " `` ") (ascii "")
    ∷ is_span (code_span (ascii "` a`")) (ascii " a") (ascii "")
    ∷ is_span (code_span (ascii "``\nfoo\nbar  \nbaz\n``")) (ascii "foo bar   baz") (ascii "")
    ∷ is_span (code_span (ascii "``\nfoo \n``")) (ascii "foo ") (ascii "")
    ∷ is_span (code_span (ascii "`foo\\`bar`")) (ascii "foo\\") (ascii "bar`")
    ∷ is_span (code_span (ascii "` foo `` bar `")) (ascii "foo `` bar") (ascii "")
    ∷ no_span (code_span (ascii "```foo``"))
    ∷ no_span (code_span (ascii "`foo"))
    ∷ []

-- 6.3: the destinations of examples 482, 485, 487, 488, 490, 491, 492, 493, 494, 495, 496, 497, 498, 499, 501, 503
unfoldable pub destination_examples : List Bool
destination_examples =
    is_destination (ascii "/uri") (ascii "/uri")
    ∷ is_destination (ascii "<>") (ascii "")
    ∷ is_destination (ascii "</my uri>") (ascii "/my uri")
    ∷ is_destination (ascii "<b)c>") (ascii "b)c")
    ∷ is_destination (ascii "\\(foo\\)") (ascii "(foo)")
    ∷ is_destination (ascii "foo(and(bar))") (ascii "foo(and(bar))")
    ∷ is_destination (ascii "foo\\(and\\(bar\\)") (ascii "foo(and(bar)")
    ∷ is_destination (ascii "<foo(and(bar)>") (ascii "foo(and(bar)")
    ∷ is_destination (ascii "foo\\)\\:") (ascii "foo):")
    ∷ is_destination (ascii "foo\\bar") (ascii "foo\\bar")
    ∷ is_destination (ascii "\"title\"") (ascii "\"title\"")
    ∷ not (link_destination (ascii "/my uri"))
    ∷ not (link_destination (ascii "<foo\nbar>"))
    ∷ not (link_destination (ascii "<foo\\>"))
    ∷ not (link_destination (ascii "<b>c"))
    ∷ not (link_destination (ascii "foo(and(bar)"))
    ∷ []

-- 4.7 and 6.3: the titles of examples 196, 197, 504, 505, 507, 508
unfoldable pub title_examples : List Bool
title_examples =
    is_title (ascii "\"title\"") (ascii "title")
    ∷ is_title (ascii "'title'") (ascii "title")
    ∷ is_title (ascii "(title)") (ascii "title")
    ∷ is_title (ascii "\"title \\\"&quot;\"") (ascii "title \"\"")
    ∷ is_title (ascii "'title \"and\" title'") (ascii "title \"and\" title")
    ∷ is_title (ascii "'\ntitle\nline1\nline2\n'") (ascii "\ntitle\nline1\nline2\n")
    ∷ not (link_title (ascii "\"title \"and\" title\""))
    ∷ not (link_title (ascii "'title\n\nwith blank line'"))
    ∷ []

-- 4.5: examples 119, 121, 122, 124, 126, 127, 130, 132, 134, 137, 142, 145, 146, 147
unfoldable pub fence_examples : List Bool
fence_examples =
    is_fenced (fenced (lines (ascii "```\n<\n >\n```\n"))) (ascii "") (ascii "<\n >\n")
    ∷ is_fenced (fenced (lines (ascii "```\naaa\n~~~\n```\n"))) (ascii "") (ascii "aaa\n~~~\n")
    ∷ is_fenced (fenced (lines (ascii "````\naaa\n```\n``````\n"))) (ascii "") (ascii "aaa\n```\n")
    ∷ is_fenced (fenced (lines (ascii "```\n"))) (ascii "") (ascii "")
    ∷ is_fenced (fenced (lines (ascii "`````\n\n```\naaa\n"))) (ascii "") (ascii "\n```\naaa\n")
    ∷ is_fenced (fenced (lines (ascii "```\n```\n"))) (ascii "") (ascii "")
    ∷ is_fenced (fenced (lines (ascii "  ```\naaa\n  aaa\naaa\n  ```\n"))) (ascii "") (ascii "aaa\naaa\naaa\n")
    ∷ is_fenced (fenced (lines (ascii "```\naaa\n    ```\n"))) (ascii "") (ascii "aaa\n    ```\n")
    ∷ is_fenced (fenced (lines (ascii "```ruby\ndef foo(x)\n  return 3\nend\n```\n"))) (ascii "ruby") (ascii "def foo(x)\n  return 3\nend\n")
    ∷ is_fenced (fenced (lines (ascii "~~~ aa ``` ~~~\nfoo\n~~~\n"))) (ascii "aa ``` ~~~") (ascii "foo\n")
    ∷ is_fenced (fenced (lines (ascii "```\n``` aaa\n```\n"))) (ascii "") (ascii "``` aaa\n")
    ∷ no_fenced (fenced (lines (ascii "``\nfoo\n``\n")))
    ∷ no_fenced (fenced (lines (ascii "    ```\n    aaa\n    ```\n")))
    ∷ no_fenced (fenced (lines (ascii "``` aa ```\nfoo\n")))
    ∷ []

pub spans_hold : all span_examples ≡ true
unfolding everything all is_span no_span span_examples
spans_hold = refl

pub destinations_hold : all destination_examples ≡ true
unfolding everything all quot is_destination destination_examples
destinations_hold = refl

pub titles_hold : all title_examples ≡ true
unfolding everything all quot is_title title_examples
titles_hold = refl

pub fences_hold : all fence_examples ≡ true
unfolding everything all is_fenced no_fenced fence_examples
fences_hold = refl
