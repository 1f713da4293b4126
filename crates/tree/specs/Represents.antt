-- The tree in node memory. Node 0 is the fragment; nodes are numbered in the order of opening, so that a node and its
-- descendants are a range of numbers.
use Rattle.std.specs.Prelude.{ℕ, ◌+◌, ◌*◌, ◌/◌, ◌%◌, ◌≤◌, ◌<◌, ◌≡◌, List, [], ◌∷◌, length, drop}
use Rattle.spec.specs.Bytes.{Bytes}
use Rattle.spec.specs.Fields.{Field, fields}
use Rattle.spec.specs.Tree.{Attr, Forest, nothing, text, comment, element, height, tail, tree_of}
use Rattle.input.specs.Spans.{end_of, span_at, field_of}
use Rattle.tree.specs.Memory.{entry_at, place_at, end_at, parent_at}
use Rattle.tree.specs.Nodes.{name_at}

-- the entry of a node whose field stands at p
unfoldable pub entry_of : Bytes → ℕ → ℕ
entry_of sh p = p * 256 + name_at sh p

-- the entry e is that of a field with this tag and these bytes
pub record FieldAt (sh : Bytes) (e tag : ℕ) (body : Bytes) : Type 0 where
  pub head : e / 256 + 3 ≤ length sh
  pub field : ◌≡◌ {A = Field} (field_of sh (span_at sh (e / 256))) (record { tag = tag; body = body })
  pub number : e % 256 ≡ name_at sh (e / 256)

-- the attributes of the element that opens at p
abbrev pub attrs_behind : Bytes → ℕ → List Attr
attrs_behind sh p = (tail (fields (drop (end_of sh p) sh))).attrs

-- the nodes from number i up to e, children of `parent`, are the forest
unfoldable pub Rep : Bytes → Bytes → ℕ → ℕ → ℕ → Forest → Type 0
Rep sh ns parent i e nothing = i ≡ e
Rep sh ns parent i e (text s rest) =
    (i * 24 + 24 ≤ length ns) × FieldAt sh (entry_at ns i) 4 s × (end_at ns i ≡ i + 1) × (parent_at ns i ≡ parent)
    × Rep sh ns parent (i + 1) e rest
Rep sh ns parent i e (comment s rest) =
    (i * 24 + 24 ≤ length ns) × FieldAt sh (entry_at ns i) 5 s × (end_at ns i ≡ i + 1) × (parent_at ns i ≡ parent)
    × Rep sh ns parent (i + 1) e rest
Rep sh ns parent i e (element name attrs kids rest) =
    (i * 24 + 24 ≤ length ns) × FieldAt sh (entry_at ns i) 1 name × (attrs ≡ attrs_behind sh (place_at ns i))
    × (parent_at ns i ≡ parent) × Rep sh ns i (i + 1) (end_at ns i) kids × Rep sh ns parent (end_at ns i) e rest

-- they are some forest
abbrev pub Nodes : Bytes → Bytes → ℕ → ℕ → Type 0
Nodes sh ns i e = (parent : ℕ) × (f : Forest) × Rep sh ns parent i e f

-- they are some forest, of at most so many levels
abbrev pub Stands : Bytes → Bytes → ℕ → ℕ → ℕ → ℕ → Type 0
Stands sh ns parent i e levels = (f : Forest) × Rep sh ns parent i e f × height f ≤ levels

-- node memory holds the tree of the sheet, with n nodes
pub record Holds (sh ns : Bytes) (n : ℕ) : Type 0 where
  pub fits : n * 24 ≤ length ns
  pub root_end : end_at ns 0 ≡ n
  pub root_parent : parent_at ns 0 ≡ 0
  pub tree : Rep sh ns 0 1 n (tree_of (fields sh))

-- the first node of a forest alone, and what follows it
unfoldable pub head_of : Forest → Forest
head_of nothing = nothing
head_of (text s rest) = text s nothing
head_of (comment s rest) = comment s nothing
head_of (element name attrs kids rest) = element name attrs kids nothing

unfoldable pub rest_of : Forest → Forest
rest_of nothing = nothing
rest_of (text s rest) = rest
rest_of (comment s rest) = rest
rest_of (element name attrs kids rest) = rest

-- node q and the elements around it, from the innermost, have these attributes; node 0, the fragment, is none of them
unfoldable pub Around : Bytes → Bytes → ℕ → List (List Attr) → Type 0
Around sh ns q [] = q ≡ 0
Around sh ns q (attrs ∷ more) =
    (0 < q) × (q * 24 + 24 ≤ length ns) × (place_at ns q + 3 ≤ length sh) × (attrs ≡ attrs_behind sh (place_at ns q))
    × Around sh ns (parent_at ns q) more
