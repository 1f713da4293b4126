use Rattle.std.proofs.Common.{◌-◌, length, drop, get_or, sym, ◌∙◌, ap, refl, arith, length-take, length-drop}
use Rattle.spec.specs.Fields.{word, whole, whole_short}
use Rattle.input.proofs.Walking.{too_low, too_high, too_long, fits}
use Rattle.input.proofs.Rules.{null_length}
use Rattle.input.proofs.Splitting.{behind_field}
use Rattle.input.proofs.fields.is_whole.Goals as goal
use Rattle.input.proofs.fields.is_whole.Goals.{then-tag-low-via-then-tag-low, then-tag-low-via-else-tag-low+then-high-tag, then-tag-low-via-else-tag-low+else-high-tag+then-behind-len}

pub returns-then-tag-low : goal.returns-then-tag-low
unfolding word
returns-then-tag-low c =
    let a = c.args in let s = c.loop-rest.rest.now in let n = c.from_be_bytes-len.result in let h = c.in-len3-up.len_at_least in
    let long = length-take (length s - 3) (drop 3 s) in
    elim c.then-tag-low.branch [
      | then-tag-low-via-then-tag-low w ↦
          too_low a.low a.high s 0 n (get_or s 0 0) h c.from_be_bytes-len.ensures refl refl w.if-tag-low.true ∙ sym c.loop-rest.invariant
      | then-tag-low-via-else-tag-low+then-high-tag w ↦
          too_high a.low a.high s 0 n (get_or s 0 0) h c.from_be_bytes-len.ensures refl refl w.if-tag-low.false w.if-high-tag.true ∙ sym c.loop-rest.invariant
      | then-tag-low-via-else-tag-low+else-high-tag+then-behind-len w ↦
          too_long a.low a.high s 0 n (get_or s 0 0) h c.from_be_bytes-len.ensures refl refl w.if-tag-low.false w.if-high-tag.false (omega (arith, long, length-drop 3 s)) ∙ sym c.loop-rest.invariant
    ]

pub loop-rest-preserved : goal.loop-rest-preserved
unfolding word
loop-rest-preserved c =
    let a = c.args in let s = c.loop-rest.rest.now in let n = c.from_be_bytes-len.result in let h = c.in-len3-up.len_at_least in
    let long = length-take (length s - 3) (drop 3 s) in
    c.loop-rest.invariant
    ∙ fits a.low a.high s 0 n (get_or s 0 0) h c.from_be_bytes-len.ensures refl refl c.if-tag-low.false c.if-high-tag.false (omega (arith, long, length-drop 3 s))
    ∙ ap (whole a.low a.high) (sym (behind_field s n h c.if-behind-len.false))

pub returns : goal.returns
returns c =
    let s = c.loop-rest.rest.now in
    c.is_empty.ensures ∙ sym (c.loop-rest.invariant ∙ whole_short c.args.low c.args.high s c.in_default.len_below ∙ null_length s)
