use Rattle.std.proofs.Common.{◌≡◌, ap, refl, arith}
use borrow.Author.Tests.{ne_eqb}
use Rattle.spec.specs.Out.{push}
use Rattle.spec.specs.Md.Heading.{md_prefix}
use Rattle.text.specs.Texts.{bytes}
use Rattle.text.proofs.Texts.{as_step}
use Rattle.marks.proofs.heading.push_md_prefix.Goals as goal
use Rattle.marks.proofs.heading.push_md_prefix.Goals.{in-5, in-6, in-7, in-8, in-9, in-10, in-15, in_default}

pub returns : goal.returns
unfolding md_prefix
returns c =
    let a = c.args in
    let is : md_prefix a.name ≡ c.match-name.push_all.now =
    elim c.match-name.branch [
      | in-5 w ↦ rw (w.in-5.is, w.push_all-is) refl
      | in-6 w ↦ rw (w.in-6.is, w.push_all-is) refl
      | in-7 w ↦ rw (w.in-7.is, w.push_all-is) refl
      | in-8 w ↦ rw (w.in-8.is, w.push_all-is) refl
      | in-9 w ↦ rw (w.in-9.is, w.push_all-is) refl
      | in-10 w ↦ rw (w.in-10.is, w.push_all-is) refl
      | in-15 w ↦ rw (w.in-15.is, w.push_all-is) refl
      | in_default w ↦ rw (ne_eqb a.name 5 (omega arith), ne_eqb a.name 6 (omega arith), ne_eqb a.name 7 (omega arith), ne_eqb a.name 8 (omega arith), ne_eqb a.name 9 (omega arith), ne_eqb a.name 10 (omega arith), ne_eqb a.name 15 (omega arith), w.push_all-is) refl
    ] in
    as_step (ap (λ x. push x (bytes a.text.now)) is) c.push_all.ensures
