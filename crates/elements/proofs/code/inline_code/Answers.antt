use Rattle.std.proofs.Common.{[], refl, sym, ap, length}
use borrow.Rule.Slice.PartMut.{same_len_mid}
use Rattle.spec.specs.Bytes.{Bytes}
use Rattle.spec.specs.Call.{tags_to_skip}
use Rattle.spec.specs.Tree.{nothing, element, text_of}
use Rattle.spec.specs.Md.Serializer.{serializer}
use Rattle.spec.specs.Md.Elements.Code.{code_opts, write_skip_md, trim_edges, inline_code, push_code_text}
use Rattle.spec.specs.declared.ctx.FormatOpts.{FormatOpts}
use Rattle.input.specs.Scans.{skip_of}
use Rattle.text.proofs.Temporary.{temp_full, temp_fits}
use Rattle.text.proofs.Texts.{as_over}
use Rattle.text.proofs.Writing.{alike, done, full}
use Rattle.elements.proofs.Nesting.{nest_to}
use Rattle.elements.proofs.code.inline_code.Goals as goal

pub push_trimmed_code-requires : goal.push_trimmed_code-requires
push_trimmed_code-requires c =
    let x = c.requires in let t = c.args.text.now in
    let o = write_skip_md (tags_to_skip (skip_of c.args.skip)) c.code_opts.result (element x.0 x.1 x.2 nothing) [] in
    (x, temp_fits t.room.now t.len t.fits o (done c.in_ok-n.was (c.write_content.ensures x.0 x.1 x.2 x.3)))

pub returns : goal.returns
unfolding inline_code serializer
returns c =
    let skips = tags_to_skip (skip_of c.args.skip) in
    λ levels name attrs kids x.
    let o = write_skip_md skips (code_opts c.args.opts) (element name attrs kids nothing) [] in
    let v = alike (sym (ap (λ (q : FormatOpts). write_skip_md skips q (element name attrs kids nothing) []) c.code_opts.ensures)) (c.write_content.ensures name attrs kids x) in
    nest_to o (done c.in_ok-n.was v) refl refl refl (λ (z : Bytes). push_code_text (length (trim_edges (text_of kids) z)) (trim_edges (text_of kids) z)) (c.push_trimmed_code.ensures name attrs kids x)

pub returns-in_err-n : goal.returns-in_err-n
unfolding inline_code serializer
returns-in_err-n c =
    let skips = tags_to_skip (skip_of c.args.skip) in let t = c.args.text.now in
    λ levels name attrs kids x.
    let o = write_skip_md skips (code_opts c.args.opts) (element name attrs kids nothing) [] in
    let v = alike (sym (ap (λ (q : FormatOpts). write_skip_md skips q (element name attrs kids nothing) []) c.code_opts.ensures)) (c.write_content.ensures name attrs kids x) in
    let code = trim_edges (text_of kids) o.text in
    as_over refl (same_len_mid t.len _ t.room.now _ c.write_content.auto.room) (temp_full t.room.now t.len t.fits o (push_code_text (length code) code) (full c.in_err-n.was v)) c.from_residual.ensures.0
