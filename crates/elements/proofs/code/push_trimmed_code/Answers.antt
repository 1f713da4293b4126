use Rattle.std.proofs.Common.{ℕ, ap, ap₂, sym, take}
use Rattle.spec.specs.Bytes.{Bytes}
use Rattle.spec.specs.Tree.{text_of}
use Rattle.spec.specs.Md.Elements.Code.{push_code_text}
use Rattle.text.specs.Texts.{bytes}
use Rattle.text.proofs.Texts.{as_step}
use Rattle.nodes.proofs.Interrupts.{element_kids}
use Rattle.elements.proofs.Edges.{code_is, code_size}
use Rattle.elements.proofs.code.push_trimmed_code.Goals as goal

pub returns : goal.returns
returns c =
    let a = c.args in let t = a.text.now in let d = t.room.now in let k = c.code_end-end.result in let m = c.code_start-start.result in
    λ name attrs kids x.
    let h = element_kids x c.node_end-to.ensures in
    let e = c.ends_line-ended.ensures a.i kids h in
    let b = c.begins_line-begun.ensures a.i kids h in
    let z = ap (take a.n) c.behind.ensures in
    as_step
    (ap₂ (λ (j : ℕ) (y : Bytes). push_code_text j y (bytes t))
    (sym (code_size d (text_of kids) t.len a.n k m c.requires.1 e b z c.code_end-end.ensures c.code_start-start.ensures))
    (sym (code_is d (text_of kids) t.len a.n k m c.requires.1 e b z c.code_end-end.ensures c.code_start-start.ensures)))
    c.push_code_text.ensures
