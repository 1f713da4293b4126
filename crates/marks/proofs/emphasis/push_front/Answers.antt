use Rattle.std.proofs.Common.{Bool, cond, [], ap, sym, ◌∙◌}
use Rattle.spec.specs.Out.{Step, push, and_then}
use Rattle.spec.specs.Md.Elements.Emphasis.{ends_with_emphasis, try_trim_prev_emphasis_marker}
use Rattle.marks.specs.Marked.{lead_blank, bang_if}
use Rattle.text.specs.Texts.{bytes}
use Rattle.text.proofs.Texts.{as_step, next, stop}
use Rattle.marks.proofs.emphasis.push_front.Goals as goal

pub returns : goal.returns
returns c =
    let a = c.args in let m = a.marker.now in
    let x = push (cond c.ends_with_emphasis-merged.result [] m) in
    let g₃ : Step = bang_if a.bang in
    let g₂ : Step = λ t. and_then (x t) g₃ in
    let g₁ : Step = λ t. and_then (lead_blank a.lead t) g₂ in
    let e = ap (λ (b : Bool). and_then (try_trim_prev_emphasis_marker m (bytes a.text.now)) (λ t₁. and_then (lead_blank a.lead t₁) (λ t₂. and_then (push (cond b [] m) t₂) g₃)))
    (ap (ends_with_emphasis m) (sym c.bytes.ensures) ∙ sym c.ends_with_emphasis-merged.ensures) in
    as_step e (next c.in_ok-try_trim_prev_emphasis_marker.was c.try_trim_prev_emphasis_marker.ensures
    (next c.in_ok-push_lead.was c.push_lead.ensures (next c.in_ok-push_marker.was c.push_marker.ensures c.escape_bang_if.ensures)))

pub returns-in_err-push_marker : goal.returns-in_err-push_marker
returns-in_err-push_marker c =
    let a = c.args in let m = a.marker.now in
    let x = push (cond c.ends_with_emphasis-merged.result [] m) in
    let g₃ : Step = bang_if a.bang in
    let g₂ : Step = λ t. and_then (x t) g₃ in
    let g₁ : Step = λ t. and_then (lead_blank a.lead t) g₂ in
    let e = ap (λ (b : Bool). and_then (try_trim_prev_emphasis_marker m (bytes a.text.now)) (λ t₁. and_then (lead_blank a.lead t₁) (λ t₂. and_then (push (cond b [] m) t₂) g₃)))
    (ap (ends_with_emphasis m) (sym c.bytes.ensures) ∙ sym c.ends_with_emphasis-merged.ensures) in
    as_step e (next c.in_ok-try_trim_prev_emphasis_marker.was c.try_trim_prev_emphasis_marker.ensures
    (next c.in_ok-push_lead.was c.push_lead.ensures (stop g₃ c.in_err-push_marker.was c.push_marker.ensures c.from_residual-in_err-push_marker.ensures.0)))

pub returns-in_err-push_lead : goal.returns-in_err-push_lead
returns-in_err-push_lead c =
    let a = c.args in let m = a.marker.now in
    let x = push (cond c.ends_with_emphasis-merged.result [] m) in
    let g₃ : Step = bang_if a.bang in
    let g₂ : Step = λ t. and_then (x t) g₃ in
    let g₁ : Step = λ t. and_then (lead_blank a.lead t) g₂ in
    let e = ap (λ (b : Bool). and_then (try_trim_prev_emphasis_marker m (bytes a.text.now)) (λ t₁. and_then (lead_blank a.lead t₁) (λ t₂. and_then (push (cond b [] m) t₂) g₃)))
    (ap (ends_with_emphasis m) (sym c.bytes.ensures) ∙ sym c.ends_with_emphasis-merged.ensures) in
    as_step e (next c.in_ok-try_trim_prev_emphasis_marker.was c.try_trim_prev_emphasis_marker.ensures
    (stop g₂ c.in_err-push_lead.was c.push_lead.ensures c.from_residual-in_err-push_lead.ensures.0))

pub returns-in_err-try_trim_prev_emphasis_marker : goal.returns-in_err-try_trim_prev_emphasis_marker
returns-in_err-try_trim_prev_emphasis_marker c =
    let a = c.args in let m = a.marker.now in
    let x = push (cond c.ends_with_emphasis-merged.result [] m) in
    let g₃ : Step = bang_if a.bang in
    let g₂ : Step = λ t. and_then (x t) g₃ in
    let g₁ : Step = λ t. and_then (lead_blank a.lead t) g₂ in
    let e = ap (λ (b : Bool). and_then (try_trim_prev_emphasis_marker m (bytes a.text.now)) (λ t₁. and_then (lead_blank a.lead t₁) (λ t₂. and_then (push (cond b [] m) t₂) g₃)))
    (ap (ends_with_emphasis m) (sym c.bytes.ensures) ∙ sym c.ends_with_emphasis-merged.ensures) in
    as_step e (stop g₁ c.in_err-try_trim_prev_emphasis_marker.was c.try_trim_prev_emphasis_marker.ensures c.from_residual.ensures.0)
