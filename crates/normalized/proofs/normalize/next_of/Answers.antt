use Rattle.std.proofs.Common.{◌+◌, length, subst, arith}
use Rattle.spec.specs.Bytes.{white, isin}
use Rattle.text.proofs.Sourcing.{follows_some, follows_none}
use Rattle.normalized.specs.Layout.{Behind}
use Rattle.normalized.proofs.Streaming.{begins_some, begins_none, rest_is}
use Rattle.normalized.proofs.normalize.next_of.Goals as goal

pub returns-then-i-s : goal.returns-then-i-s
returns-then-i-s c =
    let s = c.args.s.now in
    let i = c.args.i + 1 in
    subst (Behind _) (rest_is i s) (record { word = begins_some i (length s) s c.if-i-s.true (omega arith); bracket = follows_some i (length s) 91 s c.if-i-s.true (omega arith) })

pub returns-else-i-s : goal.returns-else-i-s
unfolding white isin
returns-else-i-s c =
    let s = c.args.s.now in
    let i = c.args.i + 1 in
    subst (Behind _) (rest_is i s) (record { word = begins_none i (length s) s (omega (arith, c.if-i-s.false)); bracket = follows_none i (length s) 91 s (omega (arith, c.if-i-s.false)) })
