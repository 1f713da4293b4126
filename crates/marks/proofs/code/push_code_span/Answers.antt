use Rattle.std.proofs.Common.{◌≤◌, ◌+◌, ℕ, cond, [], ◌++◌, refl, ap, ◌∙◌, length, drop, arith, length-drop}
use Rattle.spec.specs.Bytes.{ascii, ends_with}
use Rattle.spec.specs.Out.{Step, push}
use Rattle.spec.specs.Md.Elements.Code.{backticks, max_backtick_run, needs_space}
use Rattle.text.specs.Texts.{bytes}
use Rattle.text.proofs.Lifting.{before_full}
use Rattle.text.proofs.Parts.{front_full, front_joined, front_stop}
use Rattle.text.proofs.Texts.{as_step, next, stop}
use Rattle.text.proofs.Writing.{refused}
use Rattle.marks.proofs.Spans.{run_is_short, span_is}
use Rattle.marks.proofs.code.push_code_span.Goals as goal

pub overflow_add-fence : goal.overflow_add-fence
overflow_add-fence c = omega (arith, run_is_short _ c.max_backtick_run-fence.ensures, ap length c.behind-content.ensures, length-drop c.args.base c.args.text.now.room.now, c.requires.1)

pub returns : goal.returns
returns c =
    let a = c.args in let t = a.text.now in let f = c.max_backtick_run-fence.result + 1 in let s = c.needs_space-space.result in
    let b : a.base ≤ length t.room.now = omega (arith, c.requires.1) in
    let y = cond s (ascii " ") [] ++ backticks f in
    let x : Step = λ u. push (cond (ends_with (ascii "`") u) (ascii " ") [] ++ (backticks f ++ cond s (ascii " ") [])) u in
    let e = span_is a.in_being (drop a.base t.room.now) (bytes t) f s (ap (λ (n : ℕ). n + 1) (c.max_backtick_run-fence.ensures ∙ ap max_backtick_run c.behind-content.ensures)) (c.needs_space-space.ensures ∙ ap needs_space c.behind-content.ensures) in
    as_step e (next c.in_ok-push_lifted.was (front_joined t a.base c.requires.0 b x c.push_opening_in.auto.room c.push_opening_in.ensures a.in_being c.requires.1 c.in_ok-text.was c.push_lifted.ensures refl refl refl) c.push_closing.ensures)

pub returns-in_err-push_lifted : goal.returns-in_err-push_lifted
returns-in_err-push_lifted c =
    let a = c.args in let t = a.text.now in let f = c.max_backtick_run-fence.result + 1 in let s = c.needs_space-space.result in
    let b : a.base ≤ length t.room.now = omega (arith, c.requires.1) in
    let y = cond s (ascii " ") [] ++ backticks f in
    let x : Step = λ u. push (cond (ends_with (ascii "`") u) (ascii " ") [] ++ (backticks f ++ cond s (ascii " ") [])) u in
    let e = span_is a.in_being (drop a.base t.room.now) (bytes t) f s (ap (λ (n : ℕ). n + 1) (c.max_backtick_run-fence.ensures ∙ ap max_backtick_run c.behind-content.ensures)) (c.needs_space-space.ensures ∙ ap needs_space c.behind-content.ensures) in
    as_step e (stop (push y) c.in_err-push_lifted.was (front_joined t a.base c.requires.0 b x c.push_opening_in.auto.room c.push_opening_in.ensures a.in_being c.requires.1 c.in_ok-text.was c.push_lifted.ensures refl refl refl) c.from_residual-in_err-push_lifted.ensures.0)

pub returns-in_err-text : goal.returns-in_err-text
returns-in_err-text c =
    let a = c.args in let t = a.text.now in let f = c.max_backtick_run-fence.result + 1 in let s = c.needs_space-space.result in
    let b : a.base ≤ length t.room.now = omega (arith, c.requires.1) in
    let y = cond s (ascii " ") [] ++ backticks f in
    let x : Step = λ u. push (cond (ends_with (ascii "`") u) (ascii " ") [] ++ (backticks f ++ cond s (ascii " ") [])) u in
    let e = span_is a.in_being (drop a.base t.room.now) (bytes t) f s (ap (λ (n : ℕ). n + 1) (c.max_backtick_run-fence.ensures ∙ ap max_backtick_run c.behind-content.ensures)) (c.needs_space-space.ensures ∙ ap needs_space c.behind-content.ensures) in
    let o = before_full t.room.now t.len a.base a.in_being b (cond (ends_with (ascii "`") (bytes t)) (ascii " ") [] ++ (backticks f ++ cond s (ascii " ") [])) (front_full t a.base c.requires.0 b x c.push_opening_in.auto.room c.push_opening_in.ensures c.in_err-text.was) in
    front_stop t a.base c.requires.0 b x c.push_opening_in.auto.room c.push_opening_in.ensures e (refused (push y) o) c.from_residual.ensures.0 refl refl
