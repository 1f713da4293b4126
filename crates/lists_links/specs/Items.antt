-- The items of a list as code knows them, and what their blocks append.
use Rattle.std.specs.Prelude.{ℕ, Bool, cond, not, ◌&&◌, [], ◌∷◌, ◌++◌, eqb, ltb, length, replicate}
use Rattle.spec.specs.Bytes.{Bytes, ascii, ends_with, one, split, trim_ascii_end, trim_ascii_start, trim_end_matches, trim_start_matches}
use Rattle.spec.specs.Out.{Step, keep, cut, push, and_then, beside}
use Rattle.spec.specs.Md.Ctx.{break_of}
use Rattle.spec.specs.Md.TextUtils.{trim_blanks}
use Rattle.spec.specs.Md.Elements.List as def
use Rattle.lists_links.specs.declared.list.Item.{Item}

-- the blanks before an item's blocks are counted
abbrev pub item_of : Item → def.Item
item_of i = record { ctx = i.ctx; indent = replicate i.indent 32; start = i.start }

-- the text before an item
abbrev pub trimmed_start : Bool → Bytes → Bytes
trimmed_start blocks u = let v = trim_blanks u in cond blocks (trim_ascii_start v) v

-- what stands for a byte of a block: `empty` says that the line behind a line end is
abbrev pub line_byte : def.Item → Bool → ℕ → Bytes
line_byte item empty b = cond (eqb b 10) (break_of item.ctx ++ cond empty [] item.indent) (b ∷ [])

-- a block without the line ends around it
abbrev pub block_text : Bytes → Bytes
block_text s = trim_end_matches (one def.is_line_end) (trim_start_matches def.is_line_end s)

-- a block on a line of its own, its lines behind the first indented
abbrev pub own_block : def.Item → Bytes → Step
own_block item s t = and_then (def.own_line item t) (push (def.block_lines item (split def.is_line_end (block_text s))))

-- what `write_list_item_indented` does once its block s is written: s counts until its last line is appended
abbrev pub indented_block : def.Item → Bytes → Step
indented_block item s t = beside (length s) (own_block item s t)

-- a rule behind the text `short`: a blank line parts it from the item's content
abbrev pub rule_text : def.Item → Bytes → Bytes
rule_text item short =
    let lb = break_of item.ctx in
    lb ++ (cond (ltb item.start (length short)) lb [] ++ (item.indent ++ (ascii "---" ++ lb)))

-- the step of `rule_block` outside a cell
abbrev pub rule_step : def.Item → Step
rule_step item t = and_then (cut trim_ascii_end t) (push (rule_text item (trim_ascii_end t)))

-- what stands before a child that is no block
abbrev pub inline_lead : def.Item → Bool → Bytes → Bytes
inline_lead item isBlankText t =
    cond ((ltb item.start (length t) && ends_with (ascii "\n") t) && not isBlankText) item.indent []

-- an item ends with its line
abbrev pub ended_item : def.Item → Step
ended_item item u = cond (ends_with (ascii "\n") u) (keep u) (push (break_of item.ctx) u)
