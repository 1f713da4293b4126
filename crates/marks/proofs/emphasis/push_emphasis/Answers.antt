use Rattle.std.proofs.Common.{◌≡◌, List, ℕ, refl, ap, ◌∙◌, subst, length, take, drop, arith, length-drop}
use lib.Seq.{length-take-le}
use Rattle.spec.specs.Bytes.{trim_end}
use Rattle.spec.specs.Out.{push, beside}
use Rattle.text.specs.Texts.{bytes}
use Rattle.text.specs.Trimmed.{Trimmed}
use Rattle.text.proofs.Parts.{lifted_to}
use Rattle.text.proofs.Texts.{as_step}
use Rattle.marks.proofs.Marking.{all_blank, some_black, all_marked}
use Rattle.marks.proofs.emphasis.push_emphasis.Goals as goal

pub returns-then-trim_end-eq0 : goal.returns-then-trim_end-eq0
returns-then-trim_end-eq0 c =
    let a = c.args in let t = a.text.now in let content = take a.n (drop t.len t.room.now) in
    let k = subst (λ (s : List ℕ). Trimmed (take a.n s) c.trim_end.result (trim_end (take a.n s))) c.behind.ensures c.trim_end.ensures in
    let long : length content ≡ a.n = length-take-le a.n (drop t.len t.room.now) (omega (arith, length-drop t.len t.room.now, c.requires)) in
    as_step (all_blank a.marker.now content (bytes t) c.trim_end.result k c.if-trim_end-eq0.true ∙ ap (λ (j : ℕ). beside j (push content (bytes t))) long)
    (lifted_to {from = t.len} (omega arith) c.requires refl c.lift.ensures refl refl (λ s u. beside a.n (push s u)) c.push_lifted.ensures)

pub push_marked-requires : goal.push_marked-requires
push_marked-requires c =
    let a = c.args in let t = a.text.now in
    let k = subst (λ (s : List ℕ). Trimmed (take a.n s) c.trim_end.result (trim_end (take a.n s))) c.behind.ensures c.trim_end.ensures in
    (c.requires, some_black a.marker.now (take a.n (drop t.len t.room.now)) (bytes t) c.trim_end.result k c.if-trim_end-eq0.false)

pub returns : goal.returns
returns c =
    let a = c.args in let t = a.text.now in
    let k = subst (λ (s : List ℕ). Trimmed (take a.n s) c.trim_end.result (trim_end (take a.n s))) c.behind.ensures c.trim_end.ensures in
    as_step (all_marked a.marker.now (take a.n (drop t.len t.room.now)) (bytes t) c.trim_end.result k c.if-trim_end-eq0.false) c.push_marked.ensures
