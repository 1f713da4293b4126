use Rattle.normalized.proofs.Normal.{lead_blank_lem, lead_none, lead_slash, lead_plain}
use Rattle.normalized.proofs.layout.lead_of.Goals as goal

pub returns-then-opts-follows : goal.returns-then-opts-follows
returns-then-opts-follows c =
    let a = c.args in
    lead_blank_lem a.opts a.text.now a.white a.dot c.ends_with_either.result c.ends_with_either.ensures c.if-opts-follows.true

pub returns-then-not-opts-dot : goal.returns-then-not-opts-dot
returns-then-not-opts-dot c =
    let a = c.args in
    lead_none a.opts a.text.now a.white a.dot c.ends_with_either.result c.ends_with_either.ensures c.if-opts-follows.false (c.if-not-opts-dot.true)

pub returns-then-ends_with_marker_digits : goal.returns-then-ends_with_marker_digits
returns-then-ends_with_marker_digits c =
    let a = c.args in
    lead_slash a.opts a.text.now a.white a.dot c.ends_with_either.result c.ends_with_either.ensures c.ends_with_marker_digits.result c.if-opts-follows.false (c.if-not-opts-dot.false) c.ends_with_marker_digits.ensures c.if-ends_with_marker_digits.true

pub returns-else-ends_with_marker_digits : goal.returns-else-ends_with_marker_digits
returns-else-ends_with_marker_digits c =
    let a = c.args in
    lead_plain a.opts a.text.now a.white a.dot c.ends_with_either.result c.ends_with_either.ensures c.ends_with_marker_digits.result c.if-opts-follows.false (c.if-not-opts-dot.false) c.ends_with_marker_digits.ensures c.if-ends_with_marker_digits.false
