use Rattle.spec.specs.Md.TextUtils.{trim_space}
use Rattle.text.proofs.Texts.{next, stop}
use Rattle.serializer.proofs.texts.trim_behind_text.Goals as goal

pub returns : goal.returns
returns c = next c.in_ok-write_text_node.was c.write_text_node.ensures c.trim_space.ensures

pub returns-in_err-write_text_node : goal.returns-in_err-write_text_node
returns-in_err-write_text_node c = stop trim_space c.in_err-write_text_node.was c.write_text_node.ensures c.from_residual.ensures.0
