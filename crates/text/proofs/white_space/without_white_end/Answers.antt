use Rattle.std.proofs.Common.{sym, ◌∙◌, arith}
use Rattle.text.proofs.WhiteSpace.{end_one, end_two, end_three, end_empty, end_none}
use Rattle.text.proofs.white_space.without_white_end.Goals.{in_default-via-then-s-lt1, in_default-via-in-len1-up+else-is_white_space_1+then-s-lt2, in_default-via-in-len2-up+else-is_white_space_2+then-s-lt3, in_default-via-in-len3-up+else-is_white_space_3}
use Rattle.text.proofs.white_space.without_white_end.Goals as goal

pub returns-in-len1-up : goal.returns-in-len1-up
returns-in-len1-up c = end_one c.args.s.now c.in-len1-up.len_at_least (sym c.is_white_space_1.ensures ∙ c.if-is_white_space_1.true)

pub returns-in-len2-up : goal.returns-in-len2-up
returns-in-len2-up c =
    end_two c.args.s.now c.in-len2-up.len_at_least (sym c.is_white_space_1.ensures ∙ c.if-is_white_space_1.false) (sym c.is_white_space_2.ensures ∙ c.if-is_white_space_2.true)

pub returns-in-len3-up : goal.returns-in-len3-up
returns-in-len3-up c =
    end_three c.args.s.now c.in-len3-up.len_at_least (sym c.is_white_space_1.ensures ∙ c.if-is_white_space_1.false) (sym c.is_white_space_2.ensures ∙ c.if-is_white_space_2.false)
    (sym c.is_white_space_3.ensures ∙ c.if-is_white_space_3.true)

pub returns-in_default : goal.returns-in_default
returns-in_default c =
    let s = c.args.s.now in
    elim c.in_default.branch [
      | in_default-via-then-s-lt1 w ↦ end_empty s (grind arith)
      | in_default-via-in-len1-up+else-is_white_space_1+then-s-lt2 w ↦
          end_none s w.in-len1-up.len_at_least (sym w.is_white_space_1.ensures ∙ w.if-is_white_space_1.false) (λ h. absurd (grind arith)) (λ h. absurd (grind arith))
      | in_default-via-in-len2-up+else-is_white_space_2+then-s-lt3 w ↦
          end_none s w.in-len1-up.len_at_least (sym w.is_white_space_1.ensures ∙ w.if-is_white_space_1.false) (λ h. sym w.is_white_space_2.ensures ∙ w.if-is_white_space_2.false) (λ h. absurd (grind arith))
      | in_default-via-in-len3-up+else-is_white_space_3 w ↦
          end_none s w.in-len1-up.len_at_least (sym w.is_white_space_1.ensures ∙ w.if-is_white_space_1.false) (λ h. sym w.is_white_space_2.ensures ∙ w.if-is_white_space_2.false)
          (λ h. sym w.is_white_space_3.ensures ∙ w.if-is_white_space_3.false)
    ]
