-- The rules on fields, from field to field.
use Prim.Native.Nat.{ℕ, ◌+◌, ◌-◌, ◌<◌, ◌≤◌}
use native.Mathlib.Omega.{arith}
use mathlib.Core.Path.{◌≡◌, refl, ap, ◌∙◌, sym}
use mathlib.Core.Bool.{Bool, true, false, cond, ◌&&◌, and_assoc}
use mathlib.Core.List.{[], ◌∷◌}
use lib.ListN.{length, get_or, take, drop, length-drop, length-take}
use lib.Dec.{eqb, eqb-suc-zero}
use borrow.Author.Tests.{ne_eqb}
use Rattle.spec.specs.Bytes.{Bytes, null}
use Rattle.spec.specs.Fields.{fields, fields_short}
use Rattle.spec.specs.Questions.{may_follow, right_length, no_stray, open_after, keep_rules, still_open, question3}
use Rattle.input.specs.Spans.{end_of, span_at, field_of}
use Rattle.input.specs.Scans.{length_right, field_right, scan_of}
use Rattle.input.specs.declared.fields.Span.{Span}
use Rattle.std.specs.Prelude.{Some, None}
use Rattle.input.proofs.Walking.{span_fields, end_bounds}

-- a text is empty where its length is 0
pub null_length : (s : Bytes) → null s ≡ eqb (length s) 0
unfolding null
null_length [] = refl
null_length (b ∷ s) = sym (eqb-suc-zero (length s))

pub part_length : (s : Bytes) (a b : ℕ) → a ≤ b → b ≤ length s → length (take (b - a) (drop a s)) ≡ b - a
part_length s a b p q = omega (arith, length-take (b - a) (drop a s), length-drop a s)

pub right_length_lem : (s : Bytes) (p : ℕ) → p + 3 ≤ length s
    → right_length (field_of s (span_at s p)) ≡ length_right (get_or s p 0) (end_of s p - (p + 3))
unfolding right_length
right_length_lem s p h =
    let e : null (take (end_of s p - (p + 3)) (drop (p + 3) s)) ≡ eqb (end_of s p - (p + 3)) 0 =
    null_length _ ∙ ap (λ (n : ℕ). eqb n 0) (part_length s (p + 3) (end_of s p) (end_bounds s p h).0 (end_bounds s p h).1) in
    rw e

module _ (s : Bytes) (p before depth : ℕ) (r : Span) (h : p + 3 ≤ length s) (r-is : r ≡ span_at s p) where
  -- what the field at p decides
  rules_step : keep_rules before depth (fields (drop p s))
      ≡ (field_right before depth r.tag (r.end - r.start) && keep_rules r.tag (open_after depth r.tag) (fields (drop r.end s)))
  unfolding keep_rules
  rules_step =
      rw (r-is, span_fields s p h, right_length_lem s p h)
      (sym (and_assoc (may_follow before (get_or s p 0) && length_right (get_or s p 0) (end_of s p - (p + 3))) (no_stray depth (get_or s p 0)) _))

  open_step : still_open depth (fields (drop p s)) ≡ still_open (open_after depth r.tag) (fields (drop r.end s))
  unfolding still_open
  open_step = rw (r-is, span_fields s p h)

  module _ (rules : keep_rules 0 0 (fields s) ≡ keep_rules before depth (fields (drop p s)))
      (still : still_open 0 (fields s) ≡ still_open depth (fields (drop p s))) where
    pub rules_on : field_right before depth r.tag (r.end - r.start) ≡ true
        → keep_rules 0 0 (fields s) ≡ keep_rules r.tag (open_after depth r.tag) (fields (drop r.end s))
    rules_on e = rules ∙ (rules_step ∙ rw e)

    pub still_on : still_open 0 (fields s) ≡ still_open (open_after depth r.tag) (fields (drop r.end s))
    still_on = still ∙ open_step

module _ (s : Bytes) (p before depth : ℕ) (h : length s - p < 3)
    (rules : keep_rules 0 0 (fields s) ≡ keep_rules before depth (fields (drop p s)))
    (still : still_open 0 (fields s) ≡ still_open depth (fields (drop p s))) where
  none_left : fields (drop p s) ≡ []
  none_left = fields_short (drop p s) (omega (arith, length-drop p s))

  pub kept : (before ≡ 2 → ⊥) → Some depth ≡ scan_of (fields s)
  unfolding scan_of keep_rules still_open
  kept ne = sym (rw (rules, still, none_left, ne_eqb before 2 ne))

-- ---- question 3 from the scan

pub answer_open : (s : Bytes) (n : ℕ) → Some n ≡ scan_of (fields s) → eqb n 0 ≡ question3 s
unfolding scan_of question3
answer_open s n e = go (keep_rules 0 0 (fields s)) e
  where
    go : (t : Bool) → Some n ≡ cond t (Some (still_open 0 (fields s))) None → eqb n 0 ≡ (t && eqb (still_open 0 (fields s)) 0)
    go true e = let q : n ≡ still_open 0 (fields s) = cc in rw q
    go false e = let z : ◌≡◌ {A = ℕ} 0 1 = cc in absurd (omega arith)
