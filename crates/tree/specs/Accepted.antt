-- A sheet that questions 1 to 9 let pass can be stored.
use Rattle.std.specs.Prelude.{ℕ, suc, ◌*◌, ◌≤◌, ◌≡◌, refl, Bool, true, false, List, [], ◌∷◌, length, eqb, leb}
use Rattle.std.proofs.Common.{arith, leb-true, eqb-true}
use Rattle.std.proofs.Math.Bool.{and-eq-true_iff}
use Rattle.spec.specs.Bytes.{Bytes}
use Rattle.spec.specs.Fields.{fields}
use Rattle.spec.specs.Questions.{SkipList, keep_rules, still_open, node_count, shallow, question1, question2, question3, question4, question5, question6, question7, question8, question9, first_no, refusal}
use Rattle.tree.specs.Kinds.{Storable}

-- every answer is yes
abbrev AllYes : List Bool → Type 0
AllYes [] = Unit {0}
AllYes (b ∷ bs) = (b ≡ true) × AllYes bs

no_refusal : (n : ℕ) (bs : List Bool) → first_no (suc n) bs ≡ 0 → AllYes bs
unfolding first_no
no_refusal n [] e = tt
no_refusal n (true ∷ bs) e = (refl, no_refusal (suc n) bs e)
no_refusal n (false ∷ bs) e = absurd (omega arith)

pub storable : (sheet : Bytes) (skips : SkipList) (start memory : ℕ) → refusal sheet skips start memory ≡ 0 → Storable sheet memory
unfolding refusal question1 question3 question5 question9
storable sheet skips start memory e =
    let yes : AllYes (question1 sheet ∷ question2 sheet ∷ question3 sheet ∷ question4 sheet ∷ question5 sheet ∷ question6 sheet ∷ question7 sheet start ∷ question8 skips ∷ question9 sheet memory ∷ []) =
    no_refusal 0 _ e in
    let three = (and-eq-true_iff (keep_rules 0 0 (fields sheet)) (eqb (still_open 0 (fields sheet)) 0)).0 yes.1.1.0 in
    let five = (and-eq-true_iff (leb (node_count sheet) 65535) (shallow 0 (fields sheet))).0 yes.1.1.1.1.0 in
    let room : node_count sheet * 64 ≤ memory = leb-true (node_count sheet * 64) memory yes.1.1.1.1.1.1.1.1.0 in
    record {
      short = leb-true (length sheet) 1048576 yes.0;
      rules = three.0;
      shut = eqb-true (still_open 0 (fields sheet)) 0 three.1;
      few = leb-true (node_count sheet) 65535 five.0;
      room_for = omega arith;
    }
