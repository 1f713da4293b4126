use Rattle.std.proofs.Common.{length, ap, rules}
use Rattle.spec.specs.Fields.{fields_short}
use Rattle.input.proofs.Splitting.{split_fields}
use Rattle.input.proofs.fields.FieldsIterator.next.Goals as goal

pub returns-in_default-clause-steps : goal.returns-in_default-clause-steps
returns-in_default-clause-steps c =
    let none = fields_short c.args.self.now.rest.now c.in_default.len_below in (none, none)

pub returns-clause-steps : goal.returns-clause-steps
returns-clause-steps c =
    split_fields c.args.self.now.rest.now _ _ _ _ c.in-len3-up.len_at_least c.from_be_bytes-len.ensures c.min.ensures c.split_at.ensures.front c.split_at.ensures.back

pub returns-clause-goes : goal.returns-clause-goes
returns-clause-goes c =
    let step = split_fields c.args.self.now.rest.now _ _ _ _ c.in-len3-up.len_at_least c.from_be_bytes-len.ensures c.min.ensures c.split_at.ensures.front c.split_at.ensures.back in
    let shorter = ap length step in search rules
