-- The tree of a sheet (document 01, "The sheet").
use Rattle.std.specs.Prelude.{ℕ, zero, suc, ◌+◌, ◌-◌, max, cond, List, [], ◌∷◌, ◌++◌, eqb, ltb}
use Rattle.std.proofs.Math.Option.{Option, none, some}
use Rattle.spec.specs.Bytes.{Bytes, same}
use Rattle.spec.specs.Fields.{Field}

pub record Attr : Type 0 where
  pub name : Bytes
  pub value : Bytes

-- a list of sibling nodes: nothing more; or a text, a comment or an element, and what follows it
pub data Forest : Type 0 where
  nothing : Forest
  text : Bytes → Forest → Forest
  comment : Bytes → Forest → Forest
  element : Bytes → List Attr → Forest → Forest → Forest

-- ---- from fields to the tree

-- What the fields from some place to the end say: the siblings that begin at that place; behind them, for each element
-- that is open there, the siblings after it, from the innermost; the attributes and the value that stand before any
-- node, and so belong to an element and a name in front of that place
pub record Tail : Type 0 where
  pub siblings : List Forest
  pub attrs : List Attr
  pub value : Bytes

unfoldable pub first : List Forest → Forest
first [] = nothing
first (f ∷ fs) = f

unfoldable pub others : List Forest → List Forest
others [] = []
others (f ∷ fs) = fs

unfoldable pub node_then : (Forest → Forest) → Tail → Tail
node_then node t = record { siblings = node (first t.siblings) ∷ others t.siblings; attrs = []; value = [] }

unfoldable pub open_then : Bytes → Tail → Tail
open_then name t =
    record {
      siblings = element name t.attrs (first t.siblings) (first (others t.siblings)) ∷ others (others t.siblings);
      attrs = [];
      value = [];
    }

unfoldable pub name_then : Bytes → Tail → Tail
name_then name t =
    record { siblings = t.siblings; attrs = record { name = name; value = t.value } ∷ t.attrs; value = [] }

unfoldable pub value_then : Bytes → Tail → Tail
value_then value t = record { siblings = t.siblings; attrs = t.attrs; value = value }

unfoldable pub close_then : Tail → Tail
close_then t = record { siblings = nothing ∷ t.siblings; attrs = []; value = [] }

-- "Tags: 1 opens an element (its name), 2 attribute name, 3 attribute value, 4 text, 5 comment, 6 close."
unfoldable pub field_then : Field → Tail → Tail
field_then f t =
    cond (eqb f.tag 1) (open_then f.body t)
    (cond (eqb f.tag 6) (close_then t)
    (cond (eqb f.tag 4) (node_then (text f.body) t)
    (cond (eqb f.tag 5) (node_then (comment f.body) t)
    (cond (eqb f.tag 2) (name_then f.body t) (value_then f.body t)))))

unfoldable pub tail : List Field → Tail
tail [] = record { siblings = nothing ∷ []; attrs = []; value = [] }
tail (f ∷ fs) = field_then f (tail fs)

-- what node 0, the fragment, holds
unfoldable pub tree_of : List Field → Forest
tree_of fs = first (tail fs).siblings

-- ---- numbers and sizes

unfoldable pub size : Forest → ℕ
size nothing = 0
size (text s rest) = suc (size rest)
size (comment s rest) = suc (size rest)
size (element name attrs kids rest) = suc (size kids + size rest)

-- how many elements stand within one another at most
unfoldable pub height : Forest → ℕ
height nothing = 0
height (text s rest) = height rest
height (comment s rest) = height rest
height (element name attrs kids rest) = max (suc (height kids)) (height rest)

-- a node alone, and the attributes of the elements around it, from the innermost
pub record Found : Type 0 where
  pub ancestors : List (List Attr)
  pub node : Forest

-- "elements, texts and comments are numbered from 1 as they begin": the node that begins after k others of the forest
unfoldable pub node_at : ℕ → List (List Attr) → Forest → Found
node_at k anc nothing = record { ancestors = anc; node = nothing }
node_at zero anc (text s rest) = record { ancestors = anc; node = text s nothing }
node_at (suc k) anc (text s rest) = node_at k anc rest
node_at zero anc (comment s rest) = record { ancestors = anc; node = comment s nothing }
node_at (suc k) anc (comment s rest) = node_at k anc rest
node_at zero anc (element name attrs kids rest) = record { ancestors = anc; node = element name attrs kids nothing }
node_at (suc k) anc (element name attrs kids rest) =
    let below = node_at k (attrs ∷ anc) kids in
    let behind = node_at (k - size kids) anc rest in
    cond (ltb k (size kids)) below behind

-- ---- what the serializer asks of a node

-- "A repeated attribute name keeps its first value."
unfoldable pub attr : Bytes → List Attr → Option Bytes
attr name [] = none
attr name (a ∷ more) = cond (same name a.name) (some a.value) (attr name more)

unfoldable pub attrs_of : Forest → List Attr
attrs_of nothing = []
attrs_of (text s rest) = []
attrs_of (comment s rest) = []
attrs_of (element name attrs kids rest) = attrs

unfoldable pub kids_of : Forest → Forest
kids_of nothing = nothing
kids_of (text s rest) = nothing
kids_of (comment s rest) = nothing
kids_of (element name attrs kids rest) = kids

-- `text_of`: all texts of the nodes and below them, in document order
unfoldable pub text_of : Forest → Bytes
text_of nothing = []
text_of (text s rest) = s ++ text_of rest
text_of (comment s rest) = text_of rest
text_of (element name attrs kids rest) = text_of kids ++ text_of rest
