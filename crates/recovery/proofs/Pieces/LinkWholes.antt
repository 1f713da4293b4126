-- The bytes of a link are read as a link whose text, destination and title part where they were joined.
use Rattle.std.specs.Prelude.{ℕ, suc, ◌≡◌, refl, Bool, true, cond, not, ◌||◌, [], ◌∷◌, ◌++◌, eqb, length}
use Rattle.std.proofs.Common.{arith, sym, ap, ◌∙◌, true≢false, append_assoc, ne_eqb}
use Rattle.std.proofs.Math.Bool.{false, or-false}
use Rattle.std.proofs.lemmas.Bool.{false≢true}
use Rattle.std.proofs.Math.Option.{Option, none, some}
use Rattle.spec.specs.Bytes.{Bytes, ascii, null, isin}
use Rattle.spec.specs.Md.TextUtils.{html_from, html_escape, wants_wrap, needs_wrap, wrapped_byte, backslash_twice, each_byte, destination}
use Rattle.spec.specs.Reading.Lines.{space_or_tab, head_is, drop_while, lines}
use Rattle.spec.specs.Reading.Inline.{escaped}
use Rattle.spec.specs.Pieces.CodeSpans.{preceded}
use Rattle.spec.specs.Pieces.Links.{control, closes_none, enclosed, enclosed_by, no_blank_line, link_title}
use Rattle.spec.specs.Pieces.LinkWholes as whole
use Rattle.spec.specs.Pieces.LinkWholes.{balanced_text, without_ending, after_space, destination_of, opens_title, closing, titled, with_destination, with_text, bracketed, holds_link, unless_nested, inline_link, inline_image}
use Rattle.spec.specs.Everything.{everything}
use Rattle.spec.proofs.Tests.{and_l, and_r, or_l, or_r, apart}
use Rattle.recovery.proofs.Pieces.Destinations.{html_some}
use Rattle.recovery.proofs.Pieces.Titles.{title_words, title_body, title_of, title_link}
use Rattle.recovery.proofs.Pieces.LinkTexts.{text_parts}
use Rattle.recovery.proofs.Pieces.LinkParts.{title_parts, stops, destination_parts, stands_alone, space_none}

-- ---- behind the destination

-- the title attribute as it is written behind the destination, and the title in it
unfoldable pub title_part : Option Bytes → Bytes
title_part none = []
title_part (some t) = 32 ∷ title_of t

unfoldable pub title_in : Option Bytes → Bytes
title_in none = []
title_in (some t) = title_of t

quote_closed : (y : Bytes) → link_title (34 ∷ y) ≡ true → enclosed 34 34 false y ≡ true
unfolding link_title enclosed_by head_is
quote_closed y h = sym (or-false (enclosed 34 34 false y)) ∙ and_l (enclosed 34 34 false y || false) _ h

title_closed : (t : Bytes) → enclosed 34 34 false (title_body t ++ (34 ∷ [])) ≡ true
title_closed t = quote_closed (title_body t ++ (34 ∷ [])) (unfold title_of in title_link t)

title_filled : (t : Bytes) → no_blank_line (lines (title_of t)) ≡ true
unfolding link_title
title_filled t = and_r (enclosed_by 34 34 (title_of t) || (enclosed_by 39 39 (title_of t) || enclosed_by 40 41 (title_of t))) _ (title_link t)

alone_paren : stands_alone 41 ≡ true
unfolding stands_alone isin
alone_paren = refl

whole_plain : (x d rest : Bytes) → with_destination x (some (d, 41 ∷ rest)) ≡ some (record { text = x; destination = d; title = []; behind = rest })
unfolding with_destination opens_title head_is closing
whole_plain x d rest = rw (space_none 41 rest alone_paren)

longer : (s : Bytes) → eqb (length s) (suc (length s)) ≡ false
longer s = ne_eqb (length s) (suc (length s)) (λ e. omega arith)

space_title : (t z : Bytes) → after_space (32 ∷ (title_of t ++ z)) ≡ title_of t ++ z
unfolding after_space drop_while space_or_tab without_ending title_of
space_title t z = refl

opens_title_lem : (t z : Bytes) → opens_title (title_of t ++ z) ≡ true
unfolding opens_title head_is title_of
opens_title_lem t z = refl

title_of_lem : (t z : Bytes) → whole.title_of (title_of t ++ z) ≡ some (title_of t, z)
unfolding whole.title_of title_of
title_of_lem t z = rw (title_parts 34 34 false (title_body t ++ (34 ∷ [])) z (title_closed t)) (unfold preceded in refl)

whole_titled : (x d t rest : Bytes)
    → with_destination x (some (d, 32 ∷ (title_of t ++ (41 ∷ rest)))) ≡ some (record { text = x; destination = d; title = title_of t; behind = rest })
unfolding with_destination titled closing head_is
whole_titled x d t rest =
    rw (space_title t (41 ∷ rest), opens_title_lem t (41 ∷ rest), longer (title_of t ++ (41 ∷ rest)), title_of_lem t (41 ∷ rest))
    (rw (title_filled t, space_none 41 rest alone_paren))

-- the title, or none
whole_with : (x d : Bytes) (t : Option Bytes) (rest : Bytes)
    → with_destination x (some (d, title_part t ++ (41 ∷ rest))) ≡ some (record { text = x; destination = d; title = title_in t; behind = rest })
unfolding title_part title_in
whole_with x d none rest = whole_plain x d rest
whole_with x d (some t) rest = whole_titled x d t rest

-- ---- the destination

part_stops : (t : Option Bytes) (rest : Bytes) → stops (title_part t ++ (41 ∷ rest)) ≡ true
unfolding stops title_part
part_stops none rest = refl
part_stops (some t) rest = refl

unfoldable unwrapped : ℕ → Bool
unwrapped b = not (wants_wrap b)

unwrapped_alone : (b : ℕ) → wants_wrap b ≡ false → stands_alone b ≡ true
unfolding stands_alone isin unwrapped wants_wrap
unwrapped_alone b h =
    let q : unwrapped b ≡ true = ap not h in
    rw (apart unwrapped b 32 q refl, apart unwrapped b 9 q refl, apart unwrapped b 10 q refl, apart unwrapped b 13 q refl)

first_unwrapped : (b : ℕ) (d : Bytes) → needs_wrap 0 (b ∷ d) ≡ false → wants_wrap b ≡ false
unfolding needs_wrap
first_unwrapped b d h = or_r (eqb b 41) _ (or_l (eqb b 41 || wants_wrap b) _ h)

bare_space : (b : ℕ) (d z : Bytes) → wants_wrap b ≡ false → after_space (each_byte backslash_twice (b ∷ d) ++ z) ≡ each_byte backslash_twice (b ∷ d) ++ z
unfolding each_byte backslash_twice
bare_space b d z h = go (eqb b 92)
  where
    go : (t : Bool) → after_space ((cond t (ascii "\\\\") (b ∷ []) ++ each_byte backslash_twice d) ++ z) ≡ (cond t (ascii "\\\\") (b ∷ []) ++ each_byte backslash_twice d) ++ z
    go true = space_none 92 (92 ∷ (each_byte backslash_twice d ++ z)) (unfold stands_alone isin in refl)
    go false = space_none b (each_byte backslash_twice d ++ z) (unwrapped_alone b h)

-- no blank stands before a destination
destination_space : (d z : Bytes) → null d ≡ false → after_space (destination d ++ z) ≡ destination d ++ z
unfolding destination
destination_space [] z h = unfold null in absurd (true≢false h)
destination_space (b ∷ d) z h = go (needs_wrap 0 (b ∷ d)) refl
  where
    go : (t : Bool) → needs_wrap 0 (b ∷ d) ≡ t
        → after_space (cond t (ascii "<" ++ (each_byte wrapped_byte (b ∷ d) ++ ascii ">")) (each_byte backslash_twice (b ∷ d)) ++ z)
        ≡ cond t (ascii "<" ++ (each_byte wrapped_byte (b ∷ d) ++ ascii ">")) (each_byte backslash_twice (b ∷ d)) ++ z
    go true e = space_none 60 ((each_byte wrapped_byte (b ∷ d) ++ ascii ">") ++ z) (unfold stands_alone isin in refl)
    go false e = bare_space b d z (first_unwrapped b d e)

-- ---- the whole

unfoldable pub has_title : Option Bytes → Bool
has_title none = false
has_title (some t) = true

-- a link with the text x, the destination of the attribute href and the title attribute t
unfoldable pub link_bytes : Bytes → Bytes → Option Bytes → Bytes
link_bytes x href t = 91 ∷ (x ++ (93 ∷ 40 ∷ (destination (html_escape href) ++ (title_part t ++ (41 ∷ [])))))

empty_destination : destination (html_escape []) ≡ []
unfolding destination html_escape html_from needs_wrap each_byte
empty_destination = refl

no_destination : (rest : Bytes) → destination_of (41 ∷ rest) ≡ some ([], 41 ∷ rest)
unfolding destination_of whole.bare_up_to head_is control closes_none escaped
no_destination rest = refl

empty_read : (x rest : Bytes) → with_destination x (destination_of (after_space ([] ++ (title_part none ++ (41 ∷ rest)))))
    ≡ some (record { text = x; destination = []; title = title_in none; behind = rest })
unfolding title_part title_in
empty_read x rest = rw (space_none 41 rest alone_paren, no_destination rest) (whole_plain x [] rest)

parts_read : (x href : Bytes) (t : Option Bytes) (rest : Bytes) → (not (null href) || not (has_title t)) ≡ true
    → with_destination x (destination_of (after_space (destination (html_escape href) ++ (title_part t ++ (41 ∷ rest)))))
    ≡ some (record { text = x; destination = destination (html_escape href); title = title_in t; behind = rest })
parts_read x [] (some t) rest h = unfold null has_title in absurd (false≢true h)
parts_read x [] none rest h = rw empty_destination (empty_read x rest)
parts_read x (b ∷ href) t rest h =
    let d : Bytes = html_escape (b ∷ href) in
    rw (destination_space d (title_part t ++ (41 ∷ rest)) (html_some (b ∷ href) (unfold null in refl)), destination_parts d (title_part t ++ (41 ∷ rest)) (part_stops t rest))
    (whole_with x (destination d) t rest)

bracketed_read : (x href : Bytes) (t : Option Bytes) (rest : Bytes) → balanced_text 0 false 0 x ≡ true → (not (null href) || not (has_title t)) ≡ true
    → bracketed (link_bytes x href t ++ rest) ≡ some (record { text = x; destination = destination (html_escape href); title = title_in t; behind = rest })
unfolding bracketed link_bytes with_text head_is
bracketed_read x href t rest b h =
    let d : Bytes = destination (html_escape href) in
    rw (
      append_assoc x (93 ∷ 40 ∷ (d ++ (title_part t ++ (41 ∷ [])))) rest,
      append_assoc d (title_part t ++ (41 ∷ [])) rest,
      append_assoc (title_part t) (41 ∷ []) rest,
      text_parts 0 false 0 x (40 ∷ (d ++ (title_part t ++ (41 ∷ rest)))) b,
    )
    (parts_read x href t rest h)

-- it is a link with these parts, whatever follows it
pub link_read : (x href : Bytes) (t : Option Bytes) (rest : Bytes) → balanced_text 0 false 0 x ≡ true → holds_link x ≡ false
    → (not (null href) || not (has_title t)) ≡ true
    → inline_link (link_bytes x href t ++ rest) ≡ some (record { text = x; destination = destination (html_escape href); title = title_in t; behind = rest })
unfolding inline_link unless_nested
link_read x href t rest b l h = rw (bracketed_read x href t rest b h) (rw l)

pub image_read : (x href : Bytes) (t : Option Bytes) (rest : Bytes) → balanced_text 0 false 0 x ≡ true → (not (null href) || not (has_title t)) ≡ true
    → inline_image (33 ∷ (link_bytes x href t ++ rest)) ≡ some (record { text = x; destination = destination (html_escape href); title = title_in t; behind = rest })
unfolding inline_image
image_read x href t rest b h = bracketed_read x href t rest b h

-- ---- the exception

-- behind an empty destination the title is taken for one
pub title_lost : inline_link (link_bytes (ascii "a") [] (some (ascii "t")))
    ≡ some (record { text = ascii "a"; destination = ascii "\"t\""; title = []; behind = [] })
unfolding everything link_bytes title_part title_of title_body title_words
title_lost = refl
