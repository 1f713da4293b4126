use Rattle.std.proofs.Common.{Bool, List, ℕ, [], ◌∷◌, ◌||◌, sym, ap, ap₂, ◌∙◌, length}
use lib.Dec.{eqb}
use Rattle.spec.specs.Bytes.{same}
use Rattle.input.proofs.Rules.{null_length}
use Rattle.text.proofs.Reading.{rest_part}
use Rattle.marks.proofs.Leaves.{emphasis_none, emphasis_not, emphasis_is}
use Rattle.marks.proofs.emphasis.ends_with_emphasis.Goals as goal

pub returns-then-is_empty : goal.returns-then-is_empty
returns-then-is_empty c =
    sym (emphasis_none c.args.marker.now c.args.acc.now (ap₂ (λ (x y : Bool). x || y) (sym c.is_empty.ensures) (sym c.is_empty-2.ensures) ∙ c.if-is_empty.true))

pub returns-then-not-is_empty-is_byte : goal.returns-then-not-is_empty-is_byte
returns-then-not-is_empty-is_byte c =
    let s = c.args.acc.now in let n = c.trim_end_matches-n.result in
    let some = ap₂ (λ (x y : Bool). x || y) (sym c.is_empty.ensures) (sym c.is_empty-2.ensures) ∙ c.if-is_empty.false in
    sym (emphasis_not c.args.marker.now s n _ _ some c.trim_end_matches-n.ensures (c.is_empty-3.ensures ∙ ap (λ (l : List ℕ). eqb (length l) 0) (rest_part n s) ∙ sym (null_length _))
    (c.is_byte.ensures ∙ ap (λ (l : List ℕ). same l (32 ∷ [])) (rest_part n s)) c.if-not-is_empty-is_byte.true)

pub returns : goal.returns
returns c =
    let s = c.args.acc.now in let n = c.trim_end_matches-n.result in
    let some = ap₂ (λ (x y : Bool). x || y) (sym c.is_empty.ensures) (sym c.is_empty-2.ensures) ∙ c.if-is_empty.false in
    emphasis_is c.args.marker.now s n _ _ some c.trim_end_matches-n.ensures (c.is_empty-3.ensures ∙ ap (λ (l : List ℕ). eqb (length l) 0) (rest_part n s) ∙ sym (null_length _))
    (c.is_byte.ensures ∙ ap (λ (l : List ℕ). same l (32 ∷ [])) (rest_part n s)) c.is_exact_marker_end.result c.if-not-is_empty-is_byte.false c.is_exact_marker_end.ensures
