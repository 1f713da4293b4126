use Rattle.std.proofs.Common.{◌-◌, length}
use Rattle.spec.specs.Md.TextUtils.{add_linebreaks, breaks_until}
use Rattle.text.proofs.Texts.{Owes}
use Rattle.normalized.proofs.text_utils.add_linebreaks.Given as goal

abbrev pub invariant-loop : goal.invariant-loop
invariant-loop l = Owes l.fn.text l.text (breaks_until (length l.fn.end - l.counter) l.linebreak l.fn.end) (add_linebreaks l.linebreak l.fn.end)
