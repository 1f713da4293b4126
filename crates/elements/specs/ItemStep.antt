-- The steps of a list and of its items that reach no writer.
use Rattle.std.specs.Prelude.{ℕ, Bool, cond, []}
use Rattle.spec.specs.Bytes.{Bytes, ascii}
use Rattle.spec.specs.Out.{Step, keep, push}
use Rattle.spec.specs.Md.Ctx.{break_of, include_node, list_item}
use Rattle.spec.specs.Md.Heading.{is_heading, md_prefix, escape_closing_hashes}
use Rattle.spec.specs.Md.TextUtils.{add_linebreaks}
use Rattle.spec.specs.Md.Elements.Blocks.{is_list}
use Rattle.spec.specs.declared.ctx.FormatOpts.{FormatOpts}
use Rattle.spec.specs.declared.ctx.ListContext.{ListContext}

-- `write_list` behind the list's children
abbrev pub ended_list : FormatOpts → Step
ended_list opts u = cond opts.table_cell (keep u) (add_linebreaks (ascii "\n") (ascii "\n\n") u)

-- the options of an item's child that is no block
abbrev pub child_opts : ℕ → FormatOpts → FormatOpts
child_opts name opts = include_node (cond (is_list name) opts (list_item opts))

-- the step of `due_line`
abbrev pub line_if : Bool → ListContext → Step
line_if wanted ctx t = cond wanted (push (break_of ctx) t) (keep t)

-- what begins a block that is a heading
abbrev pub flow_prefix : ℕ → Bytes
flow_prefix name = cond (is_heading name) (md_prefix name) []

-- what ends a block: a heading ends at its line end
abbrev pub ended_flow : ℕ → ListContext → Step
ended_flow name ctx t = cond (is_heading name) (escape_closing_hashes t) (push (break_of ctx) t)
