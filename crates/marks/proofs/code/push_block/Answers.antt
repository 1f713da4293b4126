use Rattle.std.proofs.Common.{◌≤◌, ◌+◌, ◌||◌, List, ℕ, max, cond, [], ◌++◌, refl, ap, ◌∙◌, length, drop, arith}
use Rattle.spec.specs.Bytes.{ascii, ends_with}
use Rattle.spec.specs.Out.{Step, push}
use Rattle.spec.specs.Md.Elements.Code.{backticks, max_backtick_run, sanitize_attr_value}
use Rattle.text.specs.Texts.{bytes}
use Rattle.text.proofs.Lifting.{before_full}
use Rattle.text.proofs.Parts.{front_full, front_joined, front_stop}
use Rattle.text.proofs.Texts.{as_step, next, stop}
use Rattle.text.proofs.Writing.{refused}
use Rattle.marks.proofs.Spans.{block_is, ended_is}
use Rattle.marks.proofs.code.push_block.Goals as goal

pub returns : goal.returns
returns c =
    let a = c.args in let t = a.text.now in let f = c.fence_len-fence.result in let s = c.is_empty.result || c.ends_with_byte.result in let lang = sanitize_attr_value a.lang.now in
    let begin : List ℕ → List ℕ = λ u. cond (ends_with (ascii "\n\n") u) [] (ascii "\n") in
    let b : a.base + 0 ≤ length t.room.now = omega (arith, c.requires.1) in
    let y = cond s [] (ascii "\n") ++ (backticks f ++ ascii "\n") in
    let x : Step = λ u. push (begin u ++ (backticks f ++ (lang ++ ascii "\n"))) u in
    let e = block_is lang (drop a.base t.room.now) (bytes t) (begin (bytes t)) f s (c.fence_len-fence.ensures ∙ ap (λ l. max (max_backtick_run l) 2 + 1) c.behind-content.ensures)
    (ended_is c.behind-content.ensures c.is_empty.ensures c.ends_with_byte.ensures) in
    as_step e (next c.in_ok-push_lifted.was (front_joined t a.base c.requires.0 c.requires.1 x c.push_block_opening_in.auto.room c.push_block_opening_in.ensures 0 b c.in_ok-text.was c.push_lifted.ensures refl refl refl) c.push_block_closing.ensures)

pub returns-in_err-push_lifted : goal.returns-in_err-push_lifted
returns-in_err-push_lifted c =
    let a = c.args in let t = a.text.now in let f = c.fence_len-fence.result in let s = c.is_empty.result || c.ends_with_byte.result in let lang = sanitize_attr_value a.lang.now in
    let begin : List ℕ → List ℕ = λ u. cond (ends_with (ascii "\n\n") u) [] (ascii "\n") in
    let b : a.base + 0 ≤ length t.room.now = omega (arith, c.requires.1) in
    let y = cond s [] (ascii "\n") ++ (backticks f ++ ascii "\n") in
    let x : Step = λ u. push (begin u ++ (backticks f ++ (lang ++ ascii "\n"))) u in
    let e = block_is lang (drop a.base t.room.now) (bytes t) (begin (bytes t)) f s (c.fence_len-fence.ensures ∙ ap (λ l. max (max_backtick_run l) 2 + 1) c.behind-content.ensures)
    (ended_is c.behind-content.ensures c.is_empty.ensures c.ends_with_byte.ensures) in
    as_step e (stop (push y) c.in_err-push_lifted.was (front_joined t a.base c.requires.0 c.requires.1 x c.push_block_opening_in.auto.room c.push_block_opening_in.ensures 0 b c.in_ok-text.was c.push_lifted.ensures refl refl refl) c.from_residual-in_err-push_lifted.ensures.0)

pub returns-in_err-text : goal.returns-in_err-text
returns-in_err-text c =
    let a = c.args in let t = a.text.now in let f = c.fence_len-fence.result in let s = c.is_empty.result || c.ends_with_byte.result in let lang = sanitize_attr_value a.lang.now in
    let begin : List ℕ → List ℕ = λ u. cond (ends_with (ascii "\n\n") u) [] (ascii "\n") in
    let b : a.base + 0 ≤ length t.room.now = omega (arith, c.requires.1) in
    let y = cond s [] (ascii "\n") ++ (backticks f ++ ascii "\n") in
    let x : Step = λ u. push (begin u ++ (backticks f ++ (lang ++ ascii "\n"))) u in
    let e = block_is lang (drop a.base t.room.now) (bytes t) (begin (bytes t)) f s (c.fence_len-fence.ensures ∙ ap (λ l. max (max_backtick_run l) 2 + 1) c.behind-content.ensures)
    (ended_is c.behind-content.ensures c.is_empty.ensures c.ends_with_byte.ensures) in
    let o = before_full t.room.now t.len a.base 0 c.requires.1 (begin (bytes t) ++ (backticks f ++ (lang ++ ascii "\n"))) (front_full t a.base c.requires.0 c.requires.1 x c.push_block_opening_in.auto.room c.push_block_opening_in.ensures c.in_err-text.was) in
    front_stop t a.base c.requires.0 c.requires.1 x c.push_block_opening_in.auto.room c.push_block_opening_in.ensures e (refused (push y) o) c.from_residual.ensures.0 refl refl
