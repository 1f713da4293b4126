use Prim.Native.Nat.{ℕ, ◌+◌, ◌-◌}
use mathlib.Core.Path.{◌≡◌, sym, ap, subst, ◌∙◌}
use mathlib.Core.Bool.{not, ◌&&◌}
use mathlib.Core.List.{List}
use lib.ListN.{length, take, drop}
use lib.Seq.{length-slice, take-length}
use Rattle.spec.specs.Bytes.{white, trim_start_matches}
use Rattle.text.specs.Marks.{dot_word}
use Rattle.text.specs.Trimmed.{Skipped}
use Rattle.text.proofs.Sourcing.{part_is}
use Rattle.normalized.specs.Layout.{LineSign}
use Rattle.normalized.specs.Words.{WordAt, WordEnd}
use Rattle.normalized.proofs.Wording.{black, word_at, word_end}
use Rattle.normalized.proofs.Normal.{laid_words, laid_blank}
use native.Mathlib.Omega.{arith}
use Rattle.normalized.proofs.layout.lay_out.Goals as goal

-- where the first word begins
begins : (s : List ℕ) (k : ℕ) → Skipped s k (trim_start_matches white s) → WordAt s 0 (length s) k
begins s k p =
    let z : 0 + k ≡ k = omega arith in
    subst (WordAt s 0 (length s)) z (word_at s 0 (length s) k (omega arith) (omega arith) (subst (λ (x : List ℕ). Skipped x k (trim_start_matches white x)) (sym (take-length s)) p))

-- where it ends
ends : (s : List ℕ) (at k : ℕ) → WordAt s 0 (length s) at → (at ≡ length s → ⊥) → Skipped (take (length s - at) (drop at s)) k (trim_start_matches black (take (length s - at) (drop at s))) → WordEnd s at (length s) (at + k)
ends s at k w some p =
    word_end s at (length s) k (omega (arith, w.within, some)) (omega arith) (w.black (omega (arith, w.within, some))) (subst (λ (x : List ℕ). Skipped x k (trim_start_matches black x)) (part_is at (length s) s) p)

pub returns-then-at-s : goal.returns-then-at-s
returns-then-at-s c =
    let a = c.args in
    let at = c.trim_start_matches-at in
    laid_blank a.opts a.text.now a.s.now at.result c.blank_if.result c.ends_with_either.result (begins a.s.now at.result at.ensures) c.if-at-s.true c.ends_with_either.ensures c.blank_if.ensures

pub line_sign-k-requires : goal.line_sign-k-requires
line_sign-k-requires c =
    let s = c.args.s.now in
    let at = c.trim_start_matches-at in
    let k = c.trim_start_matches.result in
    let e = ends s at.result k (begins s at.result at.ensures) c.if-at-s.false c.trim_start_matches.ensures in
    omega (arith, e.some, ap length (part_is at.result (at.result + k) s), length-slice at.result (at.result + k) s e.within)

pub returns : goal.returns
returns c =
    let a = c.args in
    let s = a.s.now in
    let at = c.trim_start_matches-at in
    let i = at.result in
    let j = i + c.trim_start_matches.result in
    let w = begins s i at.ensures in
    let e = ends s i c.trim_start_matches.result w c.if-at-s.false c.trim_start_matches.ensures in
    let m = c.mark_of-mark.ensures in
    let part = part_is i j s in
    laid_words a.opts a.text.now s i j c.line_sign-k.result c.mark_of-mark.result c.is_dot.result c.is_line_start.result c.lead_of-lead.result c.ends_with_white.result w c.if-at-s.false e
    (c.is_dot.ensures ∙ ap dot_word part) c.lead_of-lead.ensures c.is_line_start.ensures
    (subst (λ (x : List ℕ). LineSign x (not a.opts.skip_escape && c.is_line_start.result) c.line_sign-k.result) part c.line_sign-k.ensures)
    m.0 m.1 m.2 c.ends_with_white.ensures
