-- Demand 3 about the definitions: the reading of the text that is written of a plain sheet is the sheet's list.
use Rattle.std.specs.Prelude.{ℕ, suc, ◌<◌, ◌≡◌, refl, Bool, true, false, cond, List, [], ◌∷◌, eqb, length, take}
use Rattle.std.proofs.Common.{arith, ap, ◌∙◌, eqb-true}
use Rattle.std.proofs.Math.Seq.{take-append_seam}
use Rattle.std.proofs.lemmas.Bool.{eqb-false}
use Rattle.spec.specs.Bytes.{Bytes}
use Rattle.spec.specs.Fields.{fields}
use Rattle.spec.specs.Tree.{Forest, tree_of, height}
use Rattle.spec.specs.Questions.{standard, question1, question2, question3, question4, question5, first_no, refusal}
use Rattle.spec.specs.Out.{Out}
use Rattle.spec.specs.Md.{serialize_md}
use Rattle.spec.specs.Md.Serializer.{levels}
use Rattle.spec.specs.Levels.{levels_suffice}
use Rattle.spec.specs.Call.{tags_to_skip, written, question10, Answer, refused, no_room, accepted, answer_for, call}
use Rattle.spec.specs.Plain.{plain}
use Rattle.spec.specs.SheetList.{sheet_list}
use Rattle.spec.specs.Reading.{read}
use Rattle.recovery.proofs.Joined.{begun, read_closed}
use Rattle.recovery.proofs.Steps.{reached_begun}
use Rattle.recovery.proofs.Blocks.{read_sheet}
use Rattle.recovery.proofs.Clean.{sheet_good}
use Rattle.recovery.specs.Closed.{closed_form}
use Rattle.recovery.proofs.Written.Sheet.{closed_written}

-- the reading's half: the reading of the closed form is the sheet's list
pub recovered : (tree : Forest) → plain tree ≡ true → read (closed_form tree) ≡ sheet_list tree
unfolding plain sheet_list
recovered tree h =
    read_closed tree (sheet_good tree h).whole (sheet_good tree h).last ∙ (read_sheet tree [] begun h reached_begun).ended

-- the writer's half: what the definition writes of a plain sheet is the closed form
pub written_closed : (sheet : Bytes) → question3 sheet ≡ true → question5 sheet ≡ true → plain (tree_of (fields sheet)) ≡ true
    → (written sheet standard 0 false).text ≡ closed_form (tree_of (fields sheet))
unfolding written tags_to_skip serialize_md levels plain
written_closed sheet p q h =
    let low : height (tree_of (fields sheet)) < levels = levels_suffice sheet p q in
    closed_written (tree_of (fields sheet)) 100 h (omega arith)

-- Demand 3, for every sheet that passes questions 1 to 6 and whose tree is plain. Questions 3 and 5 are all that is needed of the six
pub recovers : (sheet : Bytes) → question3 sheet ≡ true → question5 sheet ≡ true → plain (tree_of (fields sheet)) ≡ true
    → read (written sheet standard 0 false).text ≡ sheet_list (tree_of (fields sheet))
recovers sheet p q h = ap read (written_closed sheet p q h) ∙ recovered (tree_of (fields sheet)) h

-- ---- for the call

yes_first : (n : ℕ) (a : Bool) (answers : List Bool) → first_no (suc n) (a ∷ answers) ≡ 0 → (a ≡ true) × (first_no (suc (suc n)) answers ≡ 0)
unfolding first_no
yes_first n true answers h = (refl, h)
yes_first n false answers h = absurd (omega arith)

-- a call that refuses nothing passes questions 3 and 5
passed : (sheet : Bytes) (nodeMemory : ℕ) → refusal sheet standard 0 nodeMemory ≡ 0 → (question3 sheet ≡ true) × (question5 sheet ≡ true)
unfolding refusal
passed sheet nodeMemory h =
    let two : first_no 2 (question2 sheet ∷ _) ≡ 0 = (yes_first 0 (question1 sheet) _ h).1 in
    let three : first_no 3 (question3 sheet ∷ _) ≡ 0 = (yes_first 1 (question2 sheet) _ two).1 in
    let four : first_no 4 (question4 sheet ∷ _) ≡ 0 = (yes_first 2 (question3 sheet) _ three).1 in
    let five : first_no 5 (question5 sheet ∷ _) ≡ 0 = (yes_first 3 (question4 sheet) _ four).1 in
    ((yes_first 2 (question3 sheet) _ three).0, (yes_first 4 (question5 sheet) _ five).0)

-- what an accepting call leaves is the text
left : (a : Answer) → Bytes
left a = take a.length a.text

room_left : (q : Bool) (w nodes memory : Bytes) → (cond q (accepted w nodes memory) (no_room nodes memory)).number ≡ 0
    → left (cond q (accepted w nodes memory) (no_room nodes memory)) ≡ w
unfolding left accepted no_room
room_left true w nodes memory h = take-append_seam w _
room_left false w nodes memory h = absurd (omega arith)

call_left : (t : Bool) (n : ℕ) (o : Out) (nodes memory : Bytes) → eqb n 0 ≡ t → (cond t (answer_for o nodes memory) (refused n nodes memory)).number ≡ 0
    → (n ≡ 0) × (left (cond t (answer_for o nodes memory) (refused n nodes memory)) ≡ o.text)
unfolding answer_for refused
call_left true n o nodes memory e h = (eqb-true n 0 e, room_left (question10 o (length memory)) o.text nodes memory h)
call_left false n o nodes memory e h = absurd (eqb-false n 0 e h)

-- Demand 3, from the length and the bytes that an accepting call leaves, whatever the lent memories held before
pub recovers_call : (sheet nodes text : Bytes) → (call sheet standard 0 false nodes text).number ≡ 0 → plain (tree_of (fields sheet)) ≡ true
    → read (take (call sheet standard 0 false nodes text).length (call sheet standard 0 false nodes text).text) ≡ sheet_list (tree_of (fields sheet))
unfolding call left
recovers_call sheet nodes text a h =
    let n : ℕ = refusal sheet standard 0 (length nodes) in
    let r : (n ≡ 0) × (left (call sheet standard 0 false nodes text) ≡ (written sheet standard 0 false).text) =
    call_left (eqb n 0) n (written sheet standard 0 false) nodes text refl a in
    let q : (question3 sheet ≡ true) × (question5 sheet ≡ true) = passed sheet (length nodes) r.0 in
    ap read r.1 ∙ recovers sheet q.0 q.1 h
