-- The first element among siblings.
use Rattle.spec.specs.Tree.{Forest, nothing, text, comment, element}

-- the siblings without the texts and comments that begin them
unfoldable pub first_element : Forest → Forest
first_element nothing = nothing
first_element (text s rest) = first_element rest
first_element (comment s rest) = first_element rest
first_element (element name attrs kids rest) = element name attrs kids rest
