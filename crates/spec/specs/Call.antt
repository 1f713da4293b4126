-- The call: from a sheet, a skip list, a start node, with it or without it, and the lent memories (document 01, "node memory" and
-- "text memory") to the answer and every byte of both.
use Rattle.std.specs.Prelude.{ℕ, ◌-◌, Bool, cond, List, [], ◌∷◌, ◌++◌, length, replicate, eqb, leb}
use Rattle.spec.specs.Bytes.{Bytes}
use Rattle.spec.specs.Fields.{Field, fields}
use Rattle.spec.specs.Tree.{tree_of}
use Rattle.spec.specs.Questions.{SkipList, standard, own, refusal}
use Rattle.spec.specs.Out.{Out}
use Rattle.spec.specs.Md.{serialize_md}
use Rattle.spec.specs.Md.Constants.{DEFAULT_SKIP_TAGS}

unfoldable pub bodies : List Field → List Bytes
bodies [] = []
bodies (f ∷ fs) = f.body ∷ bodies fs

-- the names that a skip list holds
unfoldable pub tags_to_skip : SkipList → List Bytes
tags_to_skip standard = DEFAULT_SKIP_TAGS
tags_to_skip (own run) = bodies (fields run)

-- the text and its peak, for a sheet, a start number and a skip list that questions 1 to 8 let pass
unfoldable pub written : Bytes → SkipList → ℕ → Bool → Out
written sheet skips start withNode = serialize_md (tree_of (fields sheet)) start withNode (tags_to_skip skips)

-- 10: Does the text memory suffice?
unfoldable pub question10 : Out → ℕ → Bool
question10 o textMemory = leb o.peak textMemory

-- `number`: 0 for acceptance, else that of the question that said no. `length`: that of the text, 0 for every no. Both
-- memories as they stand behind the call
pub record Answer : Type 0 where
  pub number : ℕ
  pub length : ℕ
  pub nodes : Bytes
  pub text : Bytes

unfoldable pub zeros : Bytes → Bytes
zeros memory = replicate (length memory) 0

-- "Numbers 1 to 9 leave both memories untouched."
unfoldable pub refused : ℕ → Bytes → Bytes → Answer
refused number nodes text = record { number = number; length = 0; nodes = nodes; text = text }

-- "Number 10 leaves both all zero."
unfoldable pub no_room : Bytes → Bytes → Answer
no_room nodes text = record { number = 10; length = 0; nodes = zeros nodes; text = zeros text }

-- "the text memory holds the text from its start and zeros behind; the node memory is all zero."
unfoldable pub accepted : Bytes → Bytes → Bytes → Answer
accepted written nodes text =
    record {
      number = 0;
      length = length written;
      nodes = zeros nodes;
      text = written ++ replicate (length text - length written) 0;
    }

unfoldable pub answer_for : Out → Bytes → Bytes → Answer
answer_for o nodes text = cond (question10 o (length text)) (accepted o.text nodes text) (no_room nodes text)

unfoldable pub call : Bytes → SkipList → ℕ → Bool → Bytes → Bytes → Answer
call sheet skips start withNode nodes text =
    let n = refusal sheet skips start (length nodes) in
    cond (eqb n 0) (answer_for (written sheet skips start withNode) nodes text) (refused n nodes text)
