-- What a call of `serialize_md` promises, the three demands together: from a sheet, a skip list, a start number, with that node
-- or without it, and both lent memories before the call, to the number and the length that it answers and both memories after it.
--
use Rattle.std.specs.Prelude.{ℕ, ◌≡◌, Bool, true, false, take}
use Rattle.spec.specs.Bytes.{Bytes}
use Rattle.spec.specs.Fields.{fields}
use Rattle.spec.specs.Tree.{tree_of}
use Rattle.spec.specs.Questions.{SkipList, standard}
use Rattle.spec.specs.Call.{call}
use Rattle.spec.specs.Plain.{plain}
use Rattle.spec.specs.SheetList.{sheet_list}
use Rattle.spec.specs.Reading.{read}

pub record Promise (sheet : Bytes) (skips : SkipList) (start : ℕ) (withNode : Bool) (nodes text : Bytes) (number len : ℕ) (nodesAfter textAfter : Bytes) : Type 0 where
  -- Demand 1. The ten questions: "Put in this order; the first no ends the call with its number." 0 is acceptance, which "is
  -- told apart from every no"
  pub number_is : number ≡ (call sheet skips start withNode nodes text).number
  -- "Numbers 1 to 9 leave both memories untouched. Number 10 leaves both all zero." After acceptance "the node memory is all zero"
  pub nodes_are : nodesAfter ≡ (call sheet skips start withNode nodes text).nodes
  -- Demand 2. "Acceptance .. returns the length", that of the text; the length of a no is 0
  pub length_is : len ≡ (call sheet skips start withNode nodes text).length
  -- after acceptance "the text memory holds the text from its start and zeros behind", after a no it is as node memory is
  pub text_is : textAfter ≡ (call sheet skips start withNode nodes text).text
  -- Demand 3, "one claim about the whole sheet": of a plain sheet, written from node 0 without it and with the default skip list,
  -- the reading, "fed the text, as long as the length returned, and nothing else", gives the sheet's list
  pub recovers : number ≡ 0 → plain (tree_of (fields sheet)) ≡ true → start ≡ 0 → withNode ≡ false → skips ≡ standard
      → read (take len textAfter) ≡ sheet_list (tree_of (fields sheet))
