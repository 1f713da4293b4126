-- `MDSerializer` as its element writers see it.
use Rattle.std.specs.Prelude.{cond, List, ◌∷◌}
use Rattle.spec.specs.Bytes.{Bytes}
use Rattle.spec.specs.Tree.{Attr, Forest, attrs_of, kids_of}
use Rattle.spec.specs.Out.{Step, and_then}
use Rattle.spec.specs.Md.TextUtils.{trim_space}
use Rattle.spec.specs.declared.ctx.FormatOpts.{FormatOpts}

-- the attributes of the elements around a node, from the innermost: the fragment, which has none and nothing above it,
-- is left out
abbrev pub Ancestors : Type 0
Ancestors = List (List Attr)

-- writes the nodes of a forest one after the other, each with itself
abbrev pub Writer : Type 0
Writer = Ancestors → FormatOpts → Forest → Step

-- `below` writes what stands below an element
pub record MDSerializer : Type 0 where
  pub skip_tags : List Bytes
  pub below : Writer

-- what stands in a node, and then the trim of the whole text (document 01: "A call of `write` that leaves its node out
-- trims both ends of the whole text so far.")
unfoldable pub write_kids : MDSerializer → Ancestors → FormatOpts → Forest → Step
write_kids self anc opts node text =
    and_then (self.below (attrs_of node ∷ anc) opts (kids_of node) text) trim_space

-- `write` of a node that stands alone
unfoldable pub write : MDSerializer → Ancestors → FormatOpts → Forest → Step
write self anc opts node text =
    cond opts.include_node (self.below anc opts node text) (write_kids self anc opts node text)
