-- A test on every field, counts of fields and of nodes, and the depth, from field to field.
use Prim.Native.Nat.{ℕ, suc, ◌+◌, ◌-◌, ◌<◌, ◌≤◌}
use native.Mathlib.Omega.{arith}
use mathlib.Core.Path.{◌≡◌, refl, ◌∙◌, sym}
use mathlib.Core.Bool.{Bool, true, false, cond, ◌&&◌}
use mathlib.Core.List.{[], ◌∷◌}
use lib.ListN.{length, get_or, drop, length-drop}
use lib.Dec.{leb}
use borrow.Author.Tests.{le-leb}
use Rattle.spec.specs.Bytes.{Bytes, isin}
use Rattle.spec.specs.Fields.{Field, fields, fields_short}
use Rattle.spec.specs.Questions.{every_field, open_after, max_open, shallow, nodes_in, node_count}
use Rattle.input.specs.Spans.{end_of, span_at, field_of}
use Rattle.input.specs.Scans.{count_after}
use Rattle.input.specs.declared.fields.Span.{Span}
use Rattle.input.proofs.Walking.{span_fields}

pub none_left : (s : Bytes) (p : ℕ) → length s - p < 3 → fields (drop p s) ≡ []
none_left s p h = fields_short (drop p s) (omega (arith, length-drop p s))

module _ (q : Field → Bool) (s : Bytes) (p : ℕ) (so_far : every_field q (fields s) ≡ every_field q (fields (drop p s))) where
  module _ (r : Span) (h : p + 3 ≤ length s) (r-is : r ≡ span_at s p) where
    every_step : every_field q (fields s) ≡ (q (field_of s r) && every_field q (fields (drop r.end s)))
    unfolding every_field
    every_step = so_far ∙ rw (r-is, span_fields s p h)

    pub every_right : q (field_of s r) ≡ true → every_field q (fields s) ≡ every_field q (fields (drop r.end s))
    every_right e = every_step ∙ rw e

  pub every_end : length s - p < 3 → true ≡ every_field q (fields s)
  unfolding every_field
  every_end h = sym (so_far ∙ rw (none_left s p h))

-- ---- counts

pub count_on : (s : Bytes) (p count : ℕ) (r : Span) → p + 3 ≤ length s → r ≡ span_at s p
    → nodes_in (fields s) ≡ count + nodes_in (fields (drop p s))
    → nodes_in (fields s) ≡ count_after count r.tag + nodes_in (fields (drop r.end s))
unfolding nodes_in
count_on s p count r h r-is so_far = so_far ∙ rw (r-is, span_fields s p h) (go (isin (get_or s p 0) (1 ∷ 4 ∷ 5 ∷ [])))
  where
    go : (t : Bool) → count + cond t (suc (nodes_in (fields (drop (end_of s p) s)))) (nodes_in (fields (drop (end_of s p) s)))
        ≡ cond t (suc count) count + nodes_in (fields (drop (end_of s p) s))
    go true = omega arith
    go false = refl

pub count_end : (s : Bytes) (p count : ℕ) → length s - p < 3 → nodes_in (fields s) ≡ count + nodes_in (fields (drop p s))
    → count + 1 ≡ node_count s
unfolding nodes_in node_count
count_end s p count h so_far = rw (so_far, none_left s p h) (omega arith)

-- ---- depth

module _ (s : Bytes) (p depth : ℕ) (so_far : shallow 0 (fields s) ≡ shallow depth (fields (drop p s))) where
  module _ (h : p + 3 ≤ length s) where
    pub depth_on : (r : Span) → r ≡ span_at s p → depth ≤ max_open
        → shallow 0 (fields s) ≡ shallow (open_after depth r.tag) (fields (drop r.end s))
    unfolding shallow
    depth_on r r-is k = so_far ∙ rw (r-is, span_fields s p h, le-leb depth max_open k)

  pub depth_end : length s - p < 3 → leb depth max_open ≡ shallow 0 (fields s)
  unfolding shallow
  depth_end h = sym (so_far ∙ rw (none_left s p h))
