-- The lines of a list item (CommonMark 0.31, section 5.2); markers are in Reading/Starts.
use Rattle.std.specs.Prelude.{ℕ, Bool, true, ◌&&◌, ◌||◌, List, [], ◌∷◌, leb}
use Rattle.spec.specs.Bytes.{Bytes}
use Rattle.spec.specs.Reading.Lines.{blank_line, column, unindent}

-- 5.2: "If a sequence of lines Ls constitute a sequence of blocks Bs starting with a character other than a space or tab, and M is a list
-- marker of width W followed by 1 ≤ N ≤ 4 spaces of indentation, then the result of prepending M and the following spaces to the first line
-- of Ls, and indenting subsequent lines of Ls by W + N spaces, is a list item with Bs as its contents." "If a line is empty, then it need
-- not be indented." Of a line behind the first, where the content stands at column c: does it belong to the item
unfoldable pub belongs : ℕ → Bytes → Bool
belongs c l = blank_line l || leb c (column 0 l)

unfoldable pub all_belong : ℕ → List Bytes → Bool
all_belong c [] = true
all_belong c (l ∷ ls) = belongs c l && all_belong c ls

-- and what it was before it was indented
unfoldable pub content_lines : ℕ → List Bytes → List Bytes
content_lines c [] = []
content_lines c (l ∷ ls) = unindent c 0 l ∷ content_lines c ls
