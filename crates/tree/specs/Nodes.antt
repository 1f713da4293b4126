-- What is asked of a node, by its number or by the place of its field in the sheet.
use Rattle.std.specs.Prelude.{ℕ, ◌+◌, ◌-◌, ◌*◌, ◌≤◌, ◌≡◌, Bool, true, false, cond, ◌&&◌, List, [], length, get_or, take, drop, eqb, ltb, Option, Some, None}
use Rattle.spec.specs.Bytes.{Bytes, among}
use Rattle.spec.specs.Names.{tag_of}
use Rattle.input.specs.Spans.{span_at, field_of}
use Rattle.tree.specs.Memory.{place_at, number_at, end_at, parent_at}
use Rattle.tree.specs.declared.nodes.Part.{Part}

-- the bytes of the field at p
abbrev pub body_at : Bytes → ℕ → Bytes
body_at sh p = (field_of sh (span_at sh p)).body

-- the number of the name, 0 where the node is no element
unfoldable pub name_at : Bytes → ℕ → ℕ
name_at sh p = cond (eqb (get_or sh p 0) 1) (tag_of (body_at sh p)) 0

-- an element whose name is one of the list
unfoldable pub skipped_at : List Bytes → Bytes → ℕ → Bool
skipped_at skips sh p = eqb (get_or sh p 0) 1 && among (body_at sh p) skips

-- the bytes of a text, none where the node is no text
unfoldable pub text_at : Bytes → ℕ → Bytes
text_at sh p = cond (eqb (get_or sh p 0) 4) (body_at sh p) []

-- r is a part of the sheet that holds x
pub record PartIs (sh : Bytes) (r : Part) (x : Bytes) : Type 0 where
  pub ordered : r.start ≤ r.end
  pub inside : r.end ≤ length sh
  pub bytes_are : x ≡ take (r.end - r.start) (drop r.start sh)

abbrev pub node_if : Bool → ℕ → Option ℕ
node_if true i = Some i
node_if false i = None

abbrev pub first_child : Bytes → ℕ → Option ℕ
first_child ns i = node_if (ltb (i + 1) (end_at ns i)) (i + 1)

abbrev pub next_sibling : Bytes → ℕ → Option ℕ
next_sibling ns i = node_if (ltb (end_at ns i) (end_at ns (parent_at ns i))) (end_at ns i)

-- what the access functions want of node i
pub record Readable (sh ns : Bytes) (i : ℕ) : Type 0 where
  pub inside : i * 24 + 24 ≤ length ns
  pub placed : place_at ns i + 3 ≤ length sh
  pub numbered : number_at ns i ≡ name_at sh (place_at ns i)
  pub up_inside : parent_at ns i * 24 + 24 ≤ length ns
