use Rattle.std.proofs.Common.{◌≡◌, ◌+◌, ◌-◌, ℕ, false, refl, sym, ap, ◌∙◌, subst, length, take, arith, take-take}
use lib.Seq.{length-take-le}
use Rattle.spec.specs.Out.{replace}
use Rattle.spec.specs.Md.Elements.Table.{pipes_escaped, escape_table_cell_inplace}
use Rattle.marks.specs.Pipes.{bare_pipe}
use Rattle.text.specs.Texts.{bytes}
use Rattle.text.specs.Writes.{Written}
use Rattle.text.proofs.Texts.{as_done, as_full}
use Rattle.marks.proofs.Pipes.{pipes_none, escaping_on, escaping_all, escaping_full, piece_fits}
use Rattle.marks.proofs.table.escape_table_cell_inplace.Goals as goal

pub returns-then-extra-eq0 : goal.returns-then-extra-eq0
unfolding escape_table_cell_inplace replace
returns-then-extra-eq0 c =
    let t = c.args.text.now in let n = length-take-le t.len t.room.now t.fits in
    let e = pipes_none false c.bytes.result.now (omega (arith, c.count_bare_pipes-extra.ensures, c.if-extra-eq0.true)) in
    let p : pipes_escaped false (bytes t) ≡ bytes t = ap (pipes_escaped false) (sym c.bytes.ensures) ∙ e ∙ c.bytes.ensures in
    as_done refl (record { long = refl; fits = omega (arith, ap length p, n, t.fits); count = omega (arith, ap length p, n); text_is = sym p })

pub returns-then-text-extra : goal.returns-then-text-extra
unfolding escape_table_cell_inplace
returns-then-text-extra c =
    let t = c.args.text.now in let n = length-take-le t.len t.room.now t.fits in
    let e : t.len + c.count_bare_pipes-extra.result ≡ length (pipes_escaped false (bytes t)) =
    omega (arith, c.count_bare_pipes-extra.ensures, ap length c.bytes.ensures, ap (λ s. length (pipes_escaped false s)) c.bytes.ensures, n) in
    as_full refl refl (escaping_full t.room.now t.fits e c.if-text-extra.true)

pub put_before-at-requires : goal.put_before-at-requires
put_before-at-requires c =
    let t = c.args.text.now in let l = c.loop-i in let i = l.invariant.escaping in
    let s : take (l.i - 1 + 1) c.bytes-in-loop-i.result.now ≡ take l.i l.text.room.now =
    ap (take (l.i - 1 + 1)) c.bytes-in-loop-i.ensures ∙ take-take (l.i - 1 + 1) l.text.len l.text.room.now (omega (arith, i.within, l.invariant.len_is, c.loop-i-test.true))
    ∙ ap (λ k. take k l.text.room.now) (omega (arith, c.loop-i-test.true)) in
    let f = c.ends_with_bare_pipe-bare.ensures ∙ ap bare_pipe s in
    (piece_fits t.room.now t.fits i (l.i - 1) (omega (arith, c.loop-i-test.true)) c.ends_with_bare_pipe-bare.result f, omega (arith, i.under, i.long, c.if-text-extra.false, t.fits))

pub loop-i-preserved : goal.loop-i-preserved
loop-i-preserved c =
    let t = c.args.text.now in let l = c.loop-i in let i = l.invariant.escaping in
    let s : take (l.i - 1 + 1) c.bytes-in-loop-i.result.now ≡ take l.i l.text.room.now =
    ap (take (l.i - 1 + 1)) c.bytes-in-loop-i.ensures ∙ take-take (l.i - 1 + 1) l.text.len l.text.room.now (omega (arith, i.within, l.invariant.len_is, c.loop-i-test.true))
    ∙ ap (λ k. take k l.text.room.now) (omega (arith, c.loop-i-test.true)) in
    let f = c.ends_with_bare_pipe-bare.ensures ∙ ap bare_pipe s in
    record { room_is = l.invariant.room_is; len_is = l.invariant.len_is; escaping = escaping_on t.room.now t.fits i (l.i - 1) (omega (arith, c.loop-i-test.true)) c.ends_with_bare_pipe-bare.result f c.put_before-at.ensures }

pub returns : goal.returns
unfolding escape_table_cell_inplace
returns c =
    let t = c.args.text.now in let i = c.loop-i.invariant in let n = length-take-le t.len t.room.now t.fits in
    let e : t.len + c.count_bare_pipes-extra.result ≡ length (pipes_escaped false (bytes t)) =
    omega (arith, c.count_bare_pipes-extra.ensures, ap length c.bytes.ensures, ap (λ s. length (pipes_escaped false s)) c.bytes.ensures, n) in
    let w = escaping_all t.room.now t.fits i.escaping (omega (arith, c.loop-i-test.false)) e (omega (arith, c.if-text-extra.false, t.fits)) in
    as_done i.room_is (subst (λ (k : ℕ). Written (length t.room.now) c.loop-i.text.room.now (k + c.count_bare_pipes-extra.result) (replace (pipes_escaped false) (bytes t))) (sym i.len_is) w)
