use mathlib.Core.Path.{refl, subst}
use mathlib.Core.List.{List, ◌++◌}
use Prim.Native.Nat.{ℕ}
use lib.ListN.{take, replicate}
use Rattle.spec.specs.Bytes.{ascii, trim_ascii_end}
use Rattle.spec.specs.Out.{push}
use Rattle.spec.specs.Md.Ctx.{break_of}
use Rattle.lists_links.proofs.ItemLeads.{rule_bare, rule_content}
use Rattle.text.specs.Texts.{bytes}
use Rattle.text.specs.Trimmed.{Trimmed}
use Rattle.text.proofs.Reading.{trimmed_length}
use Rattle.text.proofs.Texts.{as_step, next, stop, cuts}
use native.Mathlib.Omega.{arith}
use Rattle.lists_links.proofs.list.push_rule.Goals as goal

pub returns-then-text-item : goal.returns-then-text-item
unfolding trim_ascii_end
returns-then-text-item c =
    let a = c.args.text.now in let item = c.args.item in let n = c.trim_end_matches-text.result in
    let short = trim_ascii_end (bytes a) in
    let trimmed = subst (λ (s : List ℕ). Trimmed s n (trim_ascii_end s)) c.bytes.ensures c.trim_end_matches-text.ensures in
    as_step refl (next refl (cuts trim_ascii_end c.bytes.ensures c.trim_end_matches-text.ensures refl refl refl)
    (as_step (rule_bare item (take n a.room.now) short (omega (arith, trimmed_length trimmed, c.if-text-item.true))) c.push_rule_line.ensures))

pub returns-in_err-push_linebreak : goal.returns-in_err-push_linebreak
unfolding trim_ascii_end
returns-in_err-push_linebreak c =
    let a = c.args.text.now in let item = c.args.item in let n = c.trim_end_matches-text.result in
    let short = trim_ascii_end (bytes a) in
    let trimmed = subst (λ (s : List ℕ). Trimmed s n (trim_ascii_end s)) c.bytes.ensures c.trim_end_matches-text.ensures in
    let parted : List ℕ = break_of item.ctx in
    let line : List ℕ = (break_of item.ctx ++ replicate item.indent 32) ++ (ascii "---" ++ break_of item.ctx) in
    as_step refl (next refl (cuts trim_ascii_end c.bytes.ensures c.trim_end_matches-text.ensures refl refl refl)
    (as_step (rule_content item (take n a.room.now) short (omega (arith, trimmed_length trimmed, c.if-text-item.false)))
    (stop (push line) c.in_err-push_linebreak.was c.push_linebreak.ensures c.from_residual.ensures.0)))

pub returns : goal.returns
unfolding trim_ascii_end
returns c =
    let a = c.args.text.now in let item = c.args.item in let n = c.trim_end_matches-text.result in
    let short = trim_ascii_end (bytes a) in
    let trimmed = subst (λ (s : List ℕ). Trimmed s n (trim_ascii_end s)) c.bytes.ensures c.trim_end_matches-text.ensures in
    as_step refl (next refl (cuts trim_ascii_end c.bytes.ensures c.trim_end_matches-text.ensures refl refl refl)
    (as_step (rule_content item (take n a.room.now) short (omega (arith, trimmed_length trimmed, c.if-text-item.false)))
    (next c.in_ok-push_linebreak.was c.push_linebreak.ensures c.push_rule_line-2.ensures)))
