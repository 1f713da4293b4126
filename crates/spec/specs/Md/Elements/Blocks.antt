-- Which elements are blocks (`serializer.rs`); apart, since that file and `elements/list.rs` name one another. Assumes
-- nothing.
use Rattle.std.specs.Prelude.{ℕ, Bool, ◌||◌, [], ◌∷◌}
use Rattle.spec.specs.Bytes.{isin}
use Rattle.spec.specs.Names as tag

unfoldable pub is_md_block : ℕ → Bool
is_md_block name =
    isin name
    (tag.article ∷ tag.section ∷ tag.div ∷ tag.p ∷ tag.h1 ∷ tag.h2 ∷ tag.h3 ∷ tag.h4 ∷ tag.h5 ∷ tag.h6 ∷ tag.ul ∷ tag.ol
    ∷ tag.dl ∷ tag.table ∷ tag.hr ∷ [])

-- an element that is a line or a cell of its own outside a link's text
unfoldable pub is_link_block : ℕ → Bool
is_link_block name = is_md_block name || isin name (tag.li ∷ tag.tr ∷ tag.th ∷ tag.td ∷ [])

unfoldable pub is_list : ℕ → Bool
is_list name = isin name (tag.ul ∷ tag.ol ∷ [])
