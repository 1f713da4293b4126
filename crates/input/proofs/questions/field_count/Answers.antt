use Rattle.std.proofs.Common.{inl, ap, length, arith}
use Rattle.input.proofs.Splitting.{few_fields}
use Rattle.input.proofs.questions.field_count.Goals as goal

pub count-requires-clause-fits : goal.count-requires-clause-fits
count-requires-clause-fits c = inl (omega (arith, few_fields c.args.s.now, ap length c.«new».ensures))
