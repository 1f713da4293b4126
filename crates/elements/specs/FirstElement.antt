-- The answer of the search for the first element among siblings.
use Rattle.std.specs.Prelude.{ℕ, ◌<◌, ◌≡◌, Option, Some, None, get_or}
use Rattle.spec.specs.Bytes.{Bytes}
use Rattle.spec.specs.Tree.{Forest, nothing}
use Rattle.tree.specs.Memory.{place_at}
use Rattle.tree.specs.Represents.{Rep}
use Rattle.nodes.specs.FirstElement.{first_element}

-- it is an element and stands first behind the texts and comments, or there is none
abbrev pub FirstElement : Bytes → Bytes → ℕ → ℕ → Option ℕ → Type 0
FirstElement sh ns from to None = (parent : ℕ) (f : Forest) → Rep sh ns parent from to f → first_element f ≡ nothing
FirstElement sh ns from to (Some r) =
    (r < to) × (get_or sh (place_at ns r) 0 ≡ 1)
    × ((parent : ℕ) (f : Forest) → Rep sh ns parent from to f → Rep sh ns parent r to (first_element f))
