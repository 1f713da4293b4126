use Rattle.std.proofs.Common.{◌≡◌, ◌≤◌, ◌+◌, Bool, ℕ, refl, ap, sym, ◌∙◌, length, drop, arith, length-drop}
use Rattle.spec.specs.Bytes.{ascii, starts_with}
use Rattle.spec.specs.Out.{push, and_then, beside}
use Rattle.marks.specs.Marked.{marked_front}
use Rattle.text.specs.Texts.{bytes}
use Rattle.text.proofs.Lifting.{joined_full}
use Rattle.text.proofs.Parts.{front_full, front_joined, front_stop}
use Rattle.text.proofs.Texts.{as_step}
use Rattle.marks.proofs.emphasis.push_done.Goals as goal

pub returns : goal.returns
returns c =
    let a = c.args in let t = a.text.now in let done = drop a.base t.room.now in let n = length c.behind-content.result.now in
    let b = c.starts_with_byte-bang.ensures ∙ ap (starts_with (ascii "[")) c.behind-content.ensures in
    let size : length done ≡ n = sym (ap length c.behind-content.ensures) in
    let f = marked_front a.marker.now a.lead c.starts_with_byte-bang.result in
    let fits : a.base + n ≤ length t.room.now = omega (arith, size, length-drop a.base t.room.now, c.requires.1) in
    as_step (ap (λ (k : ℕ). beside k (and_then (marked_front a.marker.now a.lead (starts_with (ascii "[") done) (bytes t)) (push done))) size ∙ ap (λ (x : Bool). beside n (and_then (marked_front a.marker.now a.lead x (bytes t)) (push done))) (sym b))
    (front_joined t a.base c.requires.0 c.requires.1 f c.push_front_in.auto.room c.push_front_in.ensures n fits c.in_ok-text.was c.push_lifted.ensures refl refl refl)

pub returns-in_err-text : goal.returns-in_err-text
returns-in_err-text c =
    let a = c.args in let t = a.text.now in let done = drop a.base t.room.now in let n = length c.behind-content.result.now in
    let b = c.starts_with_byte-bang.ensures ∙ ap (starts_with (ascii "[")) c.behind-content.ensures in
    let size : length done ≡ n = sym (ap length c.behind-content.ensures) in
    let f = marked_front a.marker.now a.lead c.starts_with_byte-bang.result in
    let o = joined_full t.room.now t.len a.base c.requires.1 f (front_full t a.base c.requires.0 c.requires.1 f c.push_front_in.auto.room c.push_front_in.ensures c.in_err-text.was) in
    front_stop t a.base c.requires.0 c.requires.1 f c.push_front_in.auto.room c.push_front_in.ensures
    (ap (λ (x : Bool). beside (length done) (and_then (marked_front a.marker.now a.lead x (bytes t)) (push done))) (sym b)) o c.from_residual.ensures.0 refl refl
