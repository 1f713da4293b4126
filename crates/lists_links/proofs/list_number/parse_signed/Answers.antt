use Rattle.std.proofs.Common.{sym, ap, ◌∙◌}
use Rattle.spec.specs.Bytes.{digit, take_while}
use Rattle.lists_links.proofs.ListNumbers.{skipped_while, signed_none, signed_minus, signed_plus}
use Rattle.lists_links.proofs.list_number.parse_signed.Goals as goal

pub returns-then-is_empty : goal.returns-then-is_empty
returns-then-is_empty c =
    let e = skipped_while digit c.trim_start_matches.ensures ∙ ap (take_while digit) c.without_sign-unsigned.ensures in
    signed_none c.args.value.now e c.is_empty.ensures c.if-is_empty.true

pub returns-then-starts_with_byte : goal.returns-then-starts_with_byte
returns-then-starts_with_byte c =
    let e = skipped_while digit c.trim_start_matches.ensures ∙ ap (take_while digit) c.without_sign-unsigned.ensures in
    signed_minus c.args.value.now e c.is_empty.ensures c.if-is_empty.false (sym c.starts_with_byte.ensures ∙ c.if-starts_with_byte.true)

pub returns : goal.returns
returns c =
    let e = skipped_while digit c.trim_start_matches.ensures ∙ ap (take_while digit) c.without_sign-unsigned.ensures in
    signed_plus c.args.value.now e c.is_empty.ensures c.if-is_empty.false (sym c.starts_with_byte.ensures ∙ c.if-starts_with_byte.false) c.clamped.result c.clamped.ensures
