use mathlib.Core.Path.{refl, subst}
use mathlib.Core.List.{List}
use Prim.Native.Nat.{ℕ}
use Rattle.spec.specs.Md.TextUtils.{trim_trailing_space, trim_blanks}
use Rattle.spec.specs.Md.Serializer.{close_line}
use Rattle.text.specs.Trimmed.{Trimmed}
use Rattle.text.proofs.Spaces.{cut_done}
use Rattle.text.proofs.Texts.{as_done, next}
use Rattle.elements.proofs.steps.close_line.Goals as goal

pub returns : goal.returns
unfolding close_line trim_trailing_space
returns c =
    let t = c.args.text.now in let n = c.trim_trailing_space-text.result in
    let cut = subst (λ (s : List ℕ). Trimmed s n (trim_blanks s)) c.bytes.ensures c.trim_trailing_space-text.ensures in
    next refl (as_done {f = trim_trailing_space} refl (cut_done trim_blanks t.room.now t.len n t.fits cut)) c.push_line_end.ensures
