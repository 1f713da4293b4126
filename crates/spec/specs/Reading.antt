-- The reading: what a Markdown reader finds in a text (document 01, "Plain sheets and their reading").
--
-- Sentences quoted here and in Reading/ are, unless it is said otherwise, those of the CommonMark specification (John MacFarlane), in
-- the words of version 0.30; where 0.31 has another rule, that rule is followed. "GFM" marks those of the GitHub Flavored Markdown
-- specification (GitHub). Both are under CC BY-SA 4.0. The number before a sentence is its section. "Wider" marks each place where more
-- is taken for foreign than the specification asks.
pub mod Lines
pub mod Tags
pub mod Inline
pub mod Html
pub mod Starts
pub mod Tables
pub mod Definitions
pub mod Held
pub mod Step
use Rattle.std.specs.Prelude.{List, [], ◌∷◌, ◌++◌}
use Rattle.spec.specs.Bytes.{Bytes}
use Rattle.spec.specs.Entries.{Entry}
use Rattle.spec.specs.Reading.Lines.{safe, lines}
use Rattle.spec.specs.Reading.Held.{State, state, no_leaf, closed}
use Rattle.spec.specs.Reading.Step.{step}

-- document 01: "It goes line by line and holds the blocks so far, the open items with their content columns, and the open leaf."
unfoldable pub read_lines : State → List Bytes → State
read_lines s [] = s
read_lines s (l ∷ ls) = read_lines (step s l) ls

-- 4.5: "If the end of the containing block (or document) is reached and no closing code fence has been found, the code block
-- contains all of the lines after the opening code fence"; every other leaf closes likewise
unfoldable pub finish : State → List Entry
finish (state o op lf) = o ++ closed lf

unfoldable pub read : Bytes → List Entry
read t = finish (read_lines (state [] [] no_leaf) (lines (safe t)))
