-- What the program `sheet` answers to a sheet of at most as many bytes as it reads.
use Rattle.std.specs.Prelude.{◌≡◌, Bool, false, cond, eqb}
use Rattle.spec.specs.Bytes.{Bytes}
use Rattle.spec.specs.Questions.{standard}
use Rattle.spec.specs.Call.{Answer, refused, call}
use Rattle.md.specs.Answer as told
use Rattle.md.specs.Answer.{number_of, length_of, is_written}

-- the call from node 0 without it, with the default list; "a longer input prints `no 1`"
unfoldable pub reply : Bool → Bytes → Bytes → Bytes → Answer
reply longer sheet nodes text = cond longer (refused 1 nodes text) (call sheet standard 0 false nodes text)

-- an answer, and both memories behind it, are a's
pub record Is (a : Answer) (r : told.Answer) (nodesAfter textAfter : Bytes) : Type 0 where
  pub number_is : number_of r ≡ a.number
  pub length_is : length_of r ≡ a.length
  pub nodes_are : nodesAfter ≡ a.nodes
  pub text_is : textAfter ≡ a.text
  pub told_apart : is_written r ≡ eqb a.number 0
