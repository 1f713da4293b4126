-- What is known once questions 1 to 9 have let a call pass and its sheet is stored, and what the call then answers.
use Rattle.std.specs.Prelude.{ℕ, ◌<◌, ◌≡◌, eqb}
use Rattle.spec.specs.Bytes.{Bytes}
use Rattle.spec.specs.Questions.{node_count}
use Rattle.spec.specs.Call as spec
use Rattle.tree.specs.Represents.{Holds}
use Rattle.md.specs.Answer.{Answer, number_of, length_of, is_written}

-- node memory holds the tree of the sheet, and the start number is that of a node
pub record Started (sh ns : Bytes) (start : ℕ) : Type 0 where
  pub holds : Holds sh ns (node_count sh)
  pub node : start < node_count sh

-- the code's answer, with both memories after it, is that of the definition
pub record Answered (a : spec.Answer) (r : Answer) (nodes text : Bytes) : Type 0 where
  pub number_is : number_of r ≡ a.number
  pub length_is : length_of r ≡ a.length
  pub told : is_written r ≡ eqb a.number 0
  pub nodes_are : nodes ≡ a.nodes
  pub text_is : text ≡ a.text
