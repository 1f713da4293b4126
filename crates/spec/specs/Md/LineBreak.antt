-- The line breaks of `text_utils.rs`; apart, since that file and `ctx.rs` name one another.
use Rattle.std.specs.Prelude.{Bool, cond}
use Rattle.spec.specs.Bytes.{Bytes, ascii}

abbrev pub linebreak : Bool → Bytes
linebreak br = cond br (ascii "<br>") (ascii "\n")

abbrev pub double_linebreak : Bool → Bytes
double_linebreak br = cond br (ascii "<br><br>") (ascii "\n\n")
