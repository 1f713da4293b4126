-- What the iterator over the fields of a run gives.
use Rattle.std.specs.Prelude.{List}
use Rattle.spec.specs.Fields as spec
use Rattle.input.specs.declared.fields.Field.{Field}
use Rattle.input.specs.declared.fields.Fields.{Fields}

-- the field that the code's value stands for
abbrev pub field : Field → spec.Field
field f = record { tag = f.tag; body = f.body.now }

-- the fields that are still to come
abbrev pub fields_left : Fields → List spec.Field
fields_left f = spec.fields f.rest.now
