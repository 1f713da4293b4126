-- Where a field stands in a byte string.
use Rattle.std.specs.Prelude.{ℕ, ◌+◌, ◌-◌, ◌≤◌, ◌≡◌, cond, length, get_or, take, drop, ltb}
use Rattle.spec.specs.Bytes.{Bytes}
use Rattle.spec.specs.Fields.{Field, word}
use Rattle.input.specs.declared.fields.Span.{Span}

-- the length that a field's head at p says
abbrev pub length_at : Bytes → ℕ → ℕ
length_at s p = word (get_or s (p + 1) 0) (get_or s (p + 2) 0)

abbrev pub end_of : Bytes → ℕ → ℕ
end_of s p = cond (ltb (length s - (p + 3)) (length_at s p)) (length s) (p + 3 + length_at s p)

abbrev pub span_at : Bytes → ℕ → Span
span_at s p = record { tag = get_or s p 0; start = p + 3; end = end_of s p }

abbrev pub field_of : Bytes → Span → Field
field_of s r = record { tag = r.tag; body = take (r.end - r.start) (drop r.start s) }

-- r is the field at p, which ends behind its head and inside
pub record Spanned (s : Bytes) (p : ℕ) (r : Span) : Type 0 where
  pub at : r ≡ span_at s p
  pub begins : r.start ≡ p + 3
  pub behind : p + 3 ≤ r.end
  pub inside : r.end ≤ length s
