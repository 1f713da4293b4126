use Rattle.std.proofs.Common.{refl, cond, [], ◌++◌}
use Rattle.spec.specs.Bytes.{ascii, ends_with}
use Rattle.spec.specs.Out.{push}
use Rattle.spec.specs.Md.Elements.Code.{fenced_block, sanitize_attr_value}
use Rattle.text.proofs.Parts.{lifted_to}
use Rattle.marks.proofs.code.push_fenced_block.Goals as goal

pub returns : goal.returns
returns c =
    lifted_to c.requires.0 c.requires.1 refl c.lift.ensures refl refl (λ code t. push (cond (ends_with (ascii "\n\n") t) [] (ascii "\n") ++ fenced_block (sanitize_attr_value c.args.lang.now) code) t) c.push_block.ensures
