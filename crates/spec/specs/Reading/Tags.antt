-- What may stand between < and >: tags, comments, instructions, declarations, addresses (CommonMark 0.31, sections 6.5 and 6.6).
use Rattle.std.specs.Prelude.{ℕ, Bool, true, false, cond, not, ◌&&◌, ◌||◌, [], ◌∷◌, length, eqb, leb}
use Rattle.std.proofs.Math.Option.{Option, none, some}
use Rattle.spec.specs.Bytes.{Bytes, ascii, isin, starts_with, take_while}
use Rattle.spec.specs.Reading.Lines.{letter, letter_or_digit, head_is, drop_while, contains}

-- "spaces, tabs, and up to one line ending": in a leaf no two line endings stand without something between them. Before 0.30 line
-- tabulation and form feed were white too
unfoldable pub tag_white : ℕ → Bool
tag_white b = isin b (9 ∷ 10 ∷ 11 ∷ 12 ∷ 32 ∷ [])

-- ---- tags

-- where in a tag a byte stands: in the name; behind white; in an attribute's name; behind white that follows it; behind the =; in
-- a value without quotes, in one with ' or with "; behind such a one; behind the /; in a closing tag's name; behind white there
pub data Part : Type 0 where
  name_part gap_part attribute_part attribute_gap_part equals_part bare_part single_part double_part quoted_part slash_part : Part
  closing_part closing_gap_part : Part

pub data Next : Type 0 where
  go_on : Part → Next
  done : Next
  stuck : Next

-- 6.6: "An open tag consists of a < character, a tag name, zero or more attributes, optional spaces, tabs, and up to one line
-- ending, an optional / character, and a > character."
unfoldable pub tag_end : ℕ → Next
tag_end b = cond (tag_white b) (go_on gap_part) (cond (eqb b 47) (go_on slash_part) (cond (eqb b 62) done stuck))

-- 6.6: "A closing tag consists of the string </, a tag name, optional spaces, tabs, and up to one line ending, and the character >."
unfoldable pub closing_end : ℕ → Next
closing_end b = cond (tag_white b) (go_on closing_gap_part) (cond (eqb b 62) done stuck)

-- 6.6: "A tag name consists of an ASCII letter followed by zero or more ASCII letters, digits, or hyphens (-)."
unfoldable pub name_byte : ℕ → Bool
name_byte b = letter_or_digit b || eqb b 45

-- 6.6: "An attribute name consists of an ASCII letter, _, or :, followed by zero or more ASCII letters, digits, _, ., :, or -."
unfoldable pub attribute_begin : ℕ → Bool
attribute_begin b = letter b || isin b (ascii "_:")

unfoldable pub attribute_byte : ℕ → Bool
attribute_byte b = letter_or_digit b || isin b (ascii "_.:-")

-- 6.6: "An attribute value specification consists of optional spaces, tabs, and up to one line ending, a = character, optional
-- spaces, tabs, and up to one line ending, and an attribute value." "An unquoted attribute value is a nonempty string of
-- characters not including spaces, tabs, line endings, ", ', =, <, >, or `."
unfoldable pub next_part : Part → ℕ → Next
next_part name_part b = cond (name_byte b) (go_on name_part) (tag_end b)
next_part gap_part b = cond (attribute_begin b) (go_on attribute_part) (tag_end b)
next_part attribute_part b =
    cond (attribute_byte b) (go_on attribute_part) (cond (tag_white b) (go_on attribute_gap_part) (cond (eqb b 61) (go_on equals_part) (tag_end b)))
next_part attribute_gap_part b =
    cond (tag_white b) (go_on attribute_gap_part) (cond (eqb b 61) (go_on equals_part)
    (cond (attribute_begin b) (go_on attribute_part) (tag_end b)))
next_part equals_part b =
    cond (tag_white b) (go_on equals_part) (cond (eqb b 39) (go_on single_part) (cond (eqb b 34) (go_on double_part)
    (cond (isin b (ascii "=<>`")) stuck (go_on bare_part))))
next_part bare_part b = cond (tag_white b || eqb b 62) (tag_end b) (cond (isin b (ascii "\"'=<`")) stuck (go_on bare_part))
next_part single_part b = cond (eqb b 39) (go_on quoted_part) (go_on single_part)
next_part double_part b = cond (eqb b 34) (go_on quoted_part) (go_on double_part)
next_part quoted_part b = tag_end b
next_part slash_part b = cond (eqb b 62) done stuck
next_part closing_part b = cond (name_byte b) (go_on closing_part) (closing_end b)
next_part closing_gap_part b = closing_end b

-- what stands behind the tag, if it is one
unfoldable pub behind_part : Part → Bytes → Option Bytes
behind_part s [] = none
behind_part s (b ∷ r) = elim (next_part s b) [ go_on q ↦ behind_part q r | done ↦ some r | stuck ↦ none ]

unfoldable pub named : Part → Bytes → Option Bytes
named s [] = none
named s (b ∷ r) = elim (letter b) [ true ↦ behind_part s r | false ↦ none ]

-- the bytes behind a <
unfoldable pub behind_tag : Bytes → Option Bytes
behind_tag [] = none
behind_tag (b ∷ r) = elim (eqb b 47) [ true ↦ named closing_part r | false ↦ named name_part (b ∷ r) ]

unfoldable pub is_some : Option Bytes → Bool
is_some none = false
is_some (some r) = true

-- line tabulation and form feed are white in one version and part of a value in another. Wider: with them every tag counts
unfoldable pub maybe_tag : Bytes → Bool
maybe_tag r = (isin 11 r || isin 12 r) && isin 62 r

unfoldable pub tag : Bytes → Bool
tag r = is_some (behind_tag r) || maybe_tag r

-- ---- comments, processing instructions, declarations, CDATA sections

-- 4.6: "<! followed by an ASCII letter"
unfoldable pub letter_next : Bytes → Bool
letter_next [] = false
letter_next (b ∷ r) = letter b

-- Behind <!. 6.6: "A declaration consists of the string <!, an ASCII letter, zero or more characters not including the character >,
-- and the character >." An HTML comment begins <!--, a CDATA section <![CDATA[. Wider: a > that follows ends it
unfoldable pub declared : Bytes → Bool
declared r = letter_next r || (starts_with (ascii "--") r || starts_with (ascii "[CDATA[") r)

-- Behind <?. 6.6: "A processing instruction consists of the string <?, a string of characters not including the string ?>, and the
-- string ?>."
unfoldable pub instruction : Bytes → Bool
instruction r = contains (ascii "?>") r

-- ---- autolinks

-- 6.5: "An absolute URI, for these purposes, consists of a scheme followed by a colon (:) followed by zero or more characters other
-- ASCII control characters, space, <, and >." "a scheme is any sequence of 2–32 characters beginning with an ASCII letter and
-- followed by any combination of ASCII letters, digits, or the symbols plus ("+"), period ("."), or hyphen ("-")."
unfoldable pub scheme_byte : ℕ → Bool
scheme_byte b = letter_or_digit b || isin b (ascii "+.-")

unfoldable pub uri_end : Bytes → Bool
uri_end [] = false
uri_end (b ∷ r) = eqb b 62 || ((leb 33 b && not (eqb b 60)) && uri_end r)

unfoldable pub behind_scheme : Bytes → Bool
behind_scheme [] = false
behind_scheme (b ∷ r) = eqb b 58 && uri_end r

unfoldable pub uri : Bytes → Bool
uri r =
    letter_next r && ((leb 2 (length (take_while scheme_byte r)) && leb (length (take_while scheme_byte r)) 32)
    && behind_scheme (drop_while scheme_byte r))

-- An email address in angle brackets: bytes of the first kind, an @, bytes of the second kind, a >. Wider: where the dots and
-- hyphens of the second part stand is not looked at
unfoldable pub address_byte : ℕ → Bool
address_byte b = letter_or_digit b || isin b (ascii ".!#$%&'*+/=?^_`{|}~-")

unfoldable pub domain_byte : ℕ → Bool
domain_byte b = letter_or_digit b || isin b (ascii ".-")

unfoldable pub behind_address : Bytes → Bool
behind_address [] = false
behind_address (b ∷ r) = eqb b 64 && head_is 62 (drop_while domain_byte r)

unfoldable pub email : Bytes → Bool
email r = behind_address (drop_while address_byte r)

-- ---- behind a <

unfoldable pub angle : Bytes → Bool
angle [] = false
angle (b ∷ r) =
    (eqb b 63 && instruction r)
    || ((eqb b 33 && (declared r && isin 62 r))
    || ((address_byte b && email r) || ((letter b || eqb b 47) && (tag (b ∷ r) || uri (b ∷ r)))))
