-- The steps of a list and of its items that reach a writer.
use Rattle.std.specs.Prelude.{Bool, cond, eqb}
use Rattle.spec.specs.Names as tag
use Rattle.spec.specs.Names.{tag_of}
use Rattle.spec.specs.Tree.{Forest, nothing, text, comment, element}
use Rattle.spec.specs.Out.{Step, keep, push, and_then}
use Rattle.spec.specs.Md.Ctx.{fresh, include_node, break_of}
use Rattle.spec.specs.Md.MDSerializer.{Ancestors, MDSerializer, write}
use Rattle.spec.specs.Md.Elements.List.{Item, name_of, list_item_text, flow_block, block_lead, write_list_item_indented}
use Rattle.spec.specs.declared.ctx.ListContext.{ListContext}
use Rattle.lists_links.specs.Items.{inline_lead}
use Rattle.elements.specs.ItemStep.{child_opts}

-- the first child of a list, whose context has the number of the child already
unfoldable pub list_head : MDSerializer → Ancestors → Forest → ListContext → Step
list_head self anc nothing ctx t = keep t
list_head self anc (text s rest) ctx t = write self anc (include_node (fresh ctx.opts)) (text s nothing) t
list_head self anc (comment s rest) ctx t = keep t
list_head self anc (element name attrs kids rest) ctx t =
    cond (eqb (tag_of name) tag.li) (list_item_text self anc name attrs kids ctx t)
    (write self anc (include_node (fresh ctx.opts)) (element name attrs kids nothing) t)

-- the step of `inline_child`
unfoldable pub inline_step : MDSerializer → Ancestors → Forest → Bool → Item → Step
inline_step self anc node isBlankText item t =
    and_then (push (inline_lead item isBlankText t) t) (write self anc (child_opts (name_of node) item.ctx.opts) node)

-- the block of `block_child`, and its step
unfoldable pub body_step : MDSerializer → Ancestors → Forest → Item → Step
body_step self anc node item =
    cond (eqb (name_of node) tag.pre) (write_list_item_indented self anc node item) (flow_block self anc node item)

unfoldable pub led_step : MDSerializer → Ancestors → Forest → Item → Bool → Step
led_step self anc node item is_first_block t =
    and_then (and_then (push (block_lead item is_first_block (eqb (name_of node) tag.pre) t) t) (body_step self anc node item))
    (push (break_of item.ctx))
