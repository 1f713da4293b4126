-- Link reference definitions (CommonMark 0.31, section 4.7).
use Rattle.std.specs.Prelude.{ℕ, Bool, false, cond, not, ◌&&◌, ◌||◌, [], ◌∷◌, eqb}
use Rattle.spec.specs.Bytes.{Bytes, every}
use Rattle.spec.specs.Reading.Lines.{space_or_tab}
use Rattle.spec.specs.Reading.Inline.{escaped, slashed}

-- "a space, tab, or line ending"
unfoldable pub blank_or_end : ℕ → Bool
blank_or_end b = space_or_tab b || eqb b 10

-- behind the label: "followed by a colon (:), optional spaces or tabs (including up to one line ending), a link destination".
-- Wider: anything may be the destination, and what stands behind it is not looked at
unfoldable pub destination : Bytes → Bool
destination [] = false
destination (b ∷ r) = eqb b 58 && not (every blank_or_end r)

-- 6.3: "A link label begins with a left bracket ([) and ends with the first right bracket (]) that is not backslash-escaped.
-- Between these brackets there must be at least one character that is not a space, tab, or line ending. Unescaped square bracket
-- characters are not allowed inside the opening and closing square brackets of link labels." Wider: of any length. s: an unescaped
-- backslash stands before; f: the label has such a character
unfoldable pub label : Bool → Bool → Bytes → Bool
label s f [] = false
label s f (b ∷ r) =
    cond (not (escaped s b) && (eqb b 91 || eqb b 93)) (eqb b 93 && (f && destination r))
    (label (slashed s b) (f || not (blank_or_end b)) r)

-- A paragraph's bytes may begin with a definition: "A link reference definition cannot interrupt a paragraph."
unfoldable pub definition : Bytes → Bool
definition [] = false
definition (b ∷ r) = eqb b 91 && label false false r
