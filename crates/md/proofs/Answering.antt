-- The answer of the call, and that it keeps the promise.
use Prim.Native.Nat.{ℕ, zero, suc, ◌-◌, ◌≤◌}
use native.Mathlib.Omega.{arith}
use mathlib.Core.Path.{◌≡◌, refl, sym, ap, ap₂, subst, subst₂, ◌∙◌}
use mathlib.Core.Bool.{Bool, true, false, cond}
use mathlib.Core.List.{List, [], ◌∷◌, ◌++◌, append-nil}
use lib.ListN.{length, take, drop, replicate, length-append, length-drop}
use lib.Dec.{eqb}
use lib.IntN.{ℤ, pos, neg_ℤ}
use lib.Seq.{length-take-le, drop-length}
use borrow.Author.Tests.{ltb-true, le-leb, lt-leb, eq-eqb, ne_eqb}
use Rattle.spec.specs.Bytes.{Bytes}
use Rattle.spec.specs.Questions.{SkipList, standard, node_count, first_no, question1, question2, question3, question4, question5, question6, question7, question8, question9, refusal}
use Rattle.spec.specs.Out.{Out}
use Rattle.spec.specs.Reading.{read}
use Rattle.spec.specs.Call as spec
use Rattle.spec.specs.Call.{written, question10, zeros, refused, no_room, accepted, answer_for, call}
use Rattle.spec.specs.Promise.{Promise}
use Rattle.tree.specs.Represents.{Holds}
use Rattle.recovery.proofs.Recovered.{recovers_call}
use Rattle.text.specs.Writes as writes
use Rattle.text.proofs.Temporary.{back, lent}
use Rattle.text.proofs.Writing.{yes, no}
use Rattle.std.specs.Prelude.{Ok, Err, Option}
use Rattle.std.specs.Borrow.{Bor}
use Rattle.std.specs.Bool.{then_some}
use Rattle.input.specs.Scans.{skip_list, skip_of}
use Rattle.input.specs.declared.refusal.Refusal.{Refusal}
use Rattle.input.specs.declared.refusal.Refusal.TheVariants.{
  SheetLength,
  Fields,
  Rules,
  Utf8,
  Limits,
  Blockquote,
  Start,
  SkipList as Skips,
  NodeMemory,
  TextMemory,
}
use Rattle.input.specs.Refusals.{number_of as question}
use Rattle.md.specs.Answer.{Answer, number_of, length_of, is_written, coded, coded_number, coded_length}
use Rattle.md.specs.Started.{Started, Answered}

-- ---- what questions 1 to 9 let pass

-- where none said no, each said yes
said_yes : (n : ℕ) (before : List Bool) (b : Bool) (rest : List Bool) → first_no (suc n) (before ++ (b ∷ rest)) ≡ 0 → b ≡ true
unfolding first_no
said_yes n [] true rest e = refl
said_yes n [] false rest e = absurd (omega arith)
said_yes n (true ∷ before) b rest e = said_yes (suc n) before b rest e
said_yes n (false ∷ before) b rest e = absurd (omega arith)

pub started : {sheet nodes : Bytes} {start n : ℕ} (skips : SkipList) (memory : ℕ) → refusal sheet skips start memory ≡ 0 → n ≡ node_count sheet → Holds sheet nodes n
    → Started sheet nodes start
unfolding refusal question7
started {sheet} {nodes} {start} skips memory e q h =
    record {
      holds = subst (Holds sheet nodes) q h;
      node = ltb-true start (node_count sheet)
          (said_yes 0 (question1 sheet ∷ question2 sheet ∷ question3 sheet ∷ question4 sheet ∷ question5 sheet ∷ question6 sheet ∷ []) (question7 sheet start)
          (question8 skips ∷ question9 sheet memory ∷ []) e);
    }

-- ---- both memories

-- a memory whose part from n on came back cleared
pub cleared_behind : (xs ys : Bytes) (n : ℕ) → n ≤ length xs → ys ≡ replicate (length (lent xs n)) 0 → back xs n ys ≡ take n xs ++ replicate (length xs - n) 0
cleared_behind xs ys n h e =
    let k : length (drop n xs) ≡ length xs - n = length-drop n xs in
    let none : drop (length xs - n) (drop n xs) ≡ [] = ap (λ (j : ℕ). drop j (drop n xs)) (sym k) ∙ drop-length (drop n xs) in
    let long : length (lent xs n) ≡ length xs - n = length-take-le (length xs - n) (drop n xs) (omega arith) in
    ap (λ (l : Bytes). take n xs ++ l) (ap (λ (l : Bytes). ys ++ l) none ∙ append-nil ys ∙ e ∙ ap (λ (j : ℕ). replicate j 0) long)

module _ (o : Out) (nodes text mid : Bytes) {nodesAfter : Bytes} (p : nodesAfter ≡ replicate (length mid) 0) (m : length mid ≡ length nodes) where
  nodes_clear : nodesAfter ≡ zeros nodes
  unfolding zeros
  nodes_clear = p ∙ ap (λ (j : ℕ). replicate j 0) m

  pub answers_written : {after textAfter : Bytes} {n : ℕ} → writes.Written (length text) after n o → textAfter ≡ take n after ++ replicate (length after - n) 0
      → Answered (answer_for o nodes text) (Ok n) nodesAfter textAfter
  unfolding answer_for question10 accepted
  answers_written {after} {textAfter} {n} w e =
      subst (λ (a : spec.Answer). Answered a (Ok n) nodesAfter textAfter) (sym (yes _ _ (le-leb o.peak (length text) w.fits)))
      (record {
        number_is = refl;
        length_is = w.count;
        told = refl;
        nodes_are = nodes_clear;
        text_is = e ∙ ap₂ (λ (t : Bytes) (j : ℕ). t ++ replicate j 0) w.text_is (ap₂ (λ (j k : ℕ). j - k) w.long w.count);
      })

  pub answers_full : (after : Bytes) {textAfter : Bytes} → writes.Refused (length text) o → textAfter ≡ replicate (length after) 0 → length after ≡ length text
      → Answered (answer_for o nodes text) (Err TextMemory) nodesAfter textAfter
  unfolding answer_for question10 no_room zeros
  answers_full after {textAfter} w e l =
      subst (λ (a : spec.Answer). Answered a (Err TextMemory) nodesAfter textAfter) (sym (no _ _ (lt-leb o.peak (length text) w.over)))
      (record { number_is = refl; length_is = refl; told = refl; nodes_are = nodes_clear; text_is = e ∙ ap (λ (j : ℕ). replicate j 0) l })

-- ---- the call

-- no question has the number 0
some_number : (r : Refusal) → question r ≡ 0 → ⊥
some_number SheetLength e = omega arith
some_number Fields e = omega arith
some_number Rules e = omega arith
some_number Utf8 e = omega arith
some_number Limits e = omega arith
some_number Blockquote e = omega arith
some_number Start e = omega arith
some_number Skips e = omega arith
some_number NodeMemory e = omega arith
some_number TextMemory e = omega arith

module _ (sheet : Bytes) (skips : SkipList) (start : ℕ) (withNode : Bool) (nodes text : Bytes) where
  pub answers_no : (r : Refusal) → question r ≡ refusal sheet skips start (length nodes) → Answered (call sheet skips start withNode nodes text) (Err r) nodes text
  unfolding call refused
  answers_no r e =
      let t : eqb (refusal sheet skips start (length nodes)) 0 ≡ false = ne_eqb _ 0 (λ q. some_number r (e ∙ q)) in
      subst (λ (a : spec.Answer). Answered a (Err r) nodes text) (sym (no _ _ t))
      (record { number_is = e; length_is = refl; told = sym t; nodes_are = refl; text_is = refl })

  pub answers_on : {r : Answer} {nodesAfter textAfter : Bytes} → refusal sheet skips start (length nodes) ≡ 0
      → Answered (answer_for (written sheet skips start withNode) nodes text) r nodesAfter textAfter → Answered (call sheet skips start withNode nodes text) r nodesAfter textAfter
  unfolding call
  answers_on {r} {nodesAfter} {textAfter} e h = subst (λ (a : spec.Answer). Answered a r nodesAfter textAfter) (sym (yes _ _ (eq-eqb _ 0 e))) h

  module _ {r : Answer} {nodesAfter textAfter : Bytes} (h : Answered (call sheet skips start withNode nodes text) r nodesAfter textAfter) where
    pub promised : Promise sheet skips start withNode nodes text (number_of r) (length_of r) nodesAfter textAfter
    promised =
        record {
          number_is = h.number_is;
          nodes_are = h.nodes_are;
          length_is = h.length_is;
          text_is = h.text_is;
          recovers = λ z p s w k.
              let e : call sheet skips start withNode nodes text ≡ call sheet standard 0 false nodes text = cc in
              ap₂ (λ (n : ℕ) (t : Bytes). read (take n t)) (h.length_is ∙ ap (λ (a : spec.Answer). a.length) e) (h.text_is ∙ ap (λ (a : spec.Answer). a.text) e)
              ∙ recovers_call sheet nodes text (ap (λ (a : spec.Answer). a.number) (sym e) ∙ sym h.number_is ∙ z) p;
        }

    pub told_apart : is_written r ≡ eqb (number_of r) 0
    told_apart = h.told ∙ ap (λ (k : ℕ). eqb k 0) (sym h.number_is)

-- ---- one signed number

minus_number : (k : ℕ) → coded_number (neg_ℤ (pos k)) ≡ k
minus_number zero = refl
minus_number (suc k) = refl

minus_length : (k : ℕ) → coded_length (neg_ℤ (pos k)) ≡ 0
minus_length zero = refl
minus_length (suc k) = refl

pub coded_number_lem : (a : Answer) → coded_number (coded a) ≡ number_of a
coded_number_lem (Ok n) = refl
coded_number_lem (Err r) = minus_number (question r)

pub coded_length_lem : (a : Answer) → coded_length (coded a) ≡ length_of a
coded_length_lem (Ok n) = refl
coded_length_lem (Err r) = minus_length (question r)

-- the text is no longer than its memory
answer_length : (o : Out) (nodes text : Bytes) (t u : Bool) (k : ℕ)
    → (cond t (cond u (accepted o.text nodes text) (no_room nodes text)) (refused k nodes text)).length
    ≤ length (cond t (cond u (accepted o.text nodes text) (no_room nodes text)) (refused k nodes text)).text
unfolding accepted no_room refused
answer_length o nodes text true true k = omega (arith, length-append o.text (replicate (length text - length o.text) 0))
answer_length o nodes text true false k = omega arith
answer_length o nodes text false u k = omega arith

module _ {sheet : Bytes} {skips : SkipList} {start : ℕ} {withNode : Bool} {nodes text nodesAfter textAfter : Bytes} where
  pub promised_length : {number len : ℕ} → Promise sheet skips start withNode nodes text number len nodesAfter textAfter → len ≤ length textAfter
  unfolding call answer_for
  promised_length p =
      let n = refusal sheet skips start (length nodes) in
      let o = written sheet skips start withNode in
      omega (arith, p.length_is, ap length p.text_is, answer_length o nodes text (eqb n 0) (question10 o (length text)) n)

  -- a host reads off the code what the answer says
  pub promised_coded : (a : Answer) {r : ℤ} → r ≡ coded a → Promise sheet skips start withNode nodes text (number_of a) (length_of a) nodesAfter textAfter
      → Promise sheet skips start withNode nodes text (coded_number r) (coded_length r) nodesAfter textAfter
  promised_coded a {r} e p =
      subst₂ (λ (k n : ℕ). Promise sheet skips start withNode nodes text k n nodesAfter textAfter) (sym (ap coded_number e ∙ coded_number_lem a)) (sym (ap coded_length e ∙ coded_length_lem a)) p

-- ---- the skip list of the call for hosts

-- what holds of it holds for the flag and the run
pub told_by_flag : (P : SkipList → Type 0) (b : Bool) (run : Bor Bytes) {skip : Option (Bor Bytes)} → skip ≡ then_some b run → P (skip_of skip) → P (skip_list b run.now)
told_by_flag P true run e p = subst (λ (o : Option (Bor Bytes)). P (skip_of o)) e p
told_by_flag P false run e p = subst (λ (o : Option (Bor Bytes)). P (skip_of o)) e p
