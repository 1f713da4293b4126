-- The two steps of `close_md`.
use Rattle.std.specs.Prelude.{ℕ, cond, [], ◌∷◌}
use Rattle.spec.specs.Bytes.{isin}
use Rattle.spec.specs.Names as tag
use Rattle.spec.specs.Out.{Step, keep}
use Rattle.spec.specs.Md.Heading.{is_heading, escape_closing_hashes}
use Rattle.spec.specs.Md.Elements.Blocks.{is_md_block}
use Rattle.spec.specs.Md.Serializer.{close_block, close_line}
use Rattle.spec.specs.declared.ctx.FormatOpts.{FormatOpts}

unfoldable pub escape_heading : ℕ → Step
escape_heading name t = cond (is_heading name) (escape_closing_hashes t) (keep t)

unfoldable pub close_by : FormatOpts → ℕ → Step
close_by opts name u =
    cond (is_md_block name) (close_block opts u)
    (cond (isin name (tag.br ∷ tag.li ∷ tag.tr ∷ [])) (close_line opts u) (keep u))
