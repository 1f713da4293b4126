-- Values of attributes as parts of the sheet.
use Prim.Native.Nat.{ℕ, ◌+◌, ◌-◌, ◌≤◌}
use mathlib.Core.Path.{◌≡◌, refl, sym, ap, subst, ◌∙◌}
use mathlib.Core.Bool.{Bool, cond}
use mathlib.Core.List.{List}
use mathlib.Core.Option.{Option, none, some}
use native.Mathlib.Omega.{arith}
use lib.Dec.{eqb}
use lib.ListN.{length, take, drop, length-take}
use lib.Seq.{length-take-le, take-take}
use Rattle.spec.specs.Bytes.{Bytes, white, one, words, first_word, trim_end, trim_end_matches, trim_start_matches}
use Rattle.spec.specs.Out.{Step, keep}
use Rattle.spec.specs.Md.Elements.Image.{filled_value, first_source, if_some}
use Rattle.std.specs.Prelude.{Option as Answer, Some, None}
use Rattle.std.specs.Borrow.{Bor}
use Rattle.std.specs.Option.{MatchOption}
use Rattle.tree.specs.Attributes.{PartOf, Valued}
use Rattle.tree.proofs.Values.{part_of_part, valued_as}
use Rattle.text.specs.Trimmed.{Trimmed, Skipped}
use Rattle.text.proofs.Reading.{rest_part, null_none, null_some, trimmed_length}
use Rattle.normalized.proofs.Wording.{black, first_word_lem}

-- ---- a value with more than White_Space

module _ {sh : Bytes} {v : Option Bytes} where
  pub filled_missing : Valued sh None v → Valued sh None (filled_value v)
  unfolding filled_value
  filled_missing w = record { inside = tt; value_is = ap filled_value w.value_is }

  module _ {x : Bor Bytes} {n : ℕ} (w : Valued sh (Some x) v) (t : Trimmed x.now n (trim_end x.now)) where
    pub filled_none : n ≡ 0 → Valued sh None (filled_value v)
    unfolding filled_value
    filled_none e =
        record { inside = tt; value_is = ap filled_value w.value_is ∙ ap (λ (z : Bool). cond z none (some x.now)) (null_none (trim_end x.now) (trimmed_length t ∙ e)) }

    pub filled_some : (n ≡ 0 → ⊥) → Valued sh (Some x) (filled_value v)
    unfolding filled_value
    filled_some h =
        record {
          inside = w.inside;
          value_is = ap filled_value w.value_is ∙ ap (λ (z : Bool). cond z none (some x.now)) (null_some (trim_end x.now) (λ e. h (sym (trimmed_length t) ∙ e)));
        }

  -- ---- a step of a value, if there is one

  pub some_step : {x : Bor Bytes} (f : Bytes → Step) (t : Bytes) → Valued sh (Some x) v → if_some v f t ≡ f x.now t
  unfolding if_some
  some_step f t w = ap (λ (o : Option Bytes). if_some o f t) w.value_is

  pub no_step : (f : Bytes → Step) (t : Bytes) → Valued sh None v → if_some v f t ≡ keep t
  unfolding if_some
  no_step f t w = ap (λ (o : Option Bytes). if_some o f t) w.value_is

-- ---- a part of a value is a part of the sheet

pub valued_within : {sh x : Bytes} {r : Answer (Bor Bytes)} {v : Option Bytes} → PartOf sh x → Valued x r v → Valued sh r v
valued_within {sh} {x} {r} {v} p w = go r w
  where
    go : (r : Answer (Bor Bytes)) → Valued x r v → Valued sh r v
    go None w = record { inside = tt; value_is = w.value_is }
    go (Some y) w =
        let (a, b, o, i, e) = w.inside in
        record { inside = subst (λ (z : Bytes). PartOf sh z) (sym e) (part_of_part sh x a b p o i); value_is = w.value_is }

-- the first source of the value r, if there is one
pub source_within : {sh : Bytes} (r : Answer (Bor Bytes)) {s : Answer (Bor Bytes)} {v : Option Bytes} {P : Bor Bytes → Type 0} → Valued sh r v → MatchOption r (s ≡ None) P → ((x : Bor Bytes) → P x → Valued x.now s (first_source (some x.now))) → Valued sh s (first_source v)
unfolding first_source
source_within {sh} None {s} {v} w m k = subst (λ (t : Answer (Bor Bytes)). Valued sh t (first_source v)) (sym m) (record { inside = tt; value_is = ap first_source w.value_is })
source_within {sh} (Some x) {s} {v} w m k = valued_as (valued_within w.inside (k x m)) (sym (ap first_source w.value_is))

-- ---- the first word of a value

module _ (v : Bytes) (k : ℕ) (p : Skipped v k (trim_start_matches white v)) (j : ℕ)
    (q : Skipped (take (length v - k) (drop k v)) j (trim_start_matches black (take (length v - k) (drop k v)))) where
  word : Bytes
  word = take j (take (length v - k) (drop k v))

  word_is : first_word (words v) ≡ word
  unfolding word
  word_is =
      let r : take (length v - k) (drop k v) ≡ drop k v = rest_part k v in
      first_word_lem v k j p (subst (λ (x : List ℕ). Skipped x j (trim_start_matches black x)) r q) ∙ ap (take j) (sym r)

  module _ (m : ℕ) (t : Trimmed (take j (take (length v - k) (drop k v))) m (trim_end_matches (one (λ b. eqb b 44)) (take j (take (length v - k) (drop k v))))) where
    source_is : trim_end_matches (one (λ b. eqb b 44)) (first_word (words v)) ≡ take m (take j (take (length v - k) (drop k v)))
    unfolding word
    source_is = ap (trim_end_matches (one (λ b. eqb b 44))) word_is ∙ sym t.is

    source_length : length (take m (take j (take (length v - k) (drop k v)))) ≡ m
    source_length = length-take-le m (take j (take (length v - k) (drop k v))) t.within

    pub source_none : m ≡ 0 → Valued v None (first_source (some v))
    unfolding first_source
    source_none e = record { inside = tt; value_is = rw (source_is, null_none (take m (take j (take (length v - k) (drop k v)))) (source_length ∙ e)) refl }

    part : PartOf v (take m (take j (take (length v - k) (drop k v))))
    part =
        let r : take (length v - k) (drop k v) ≡ drop k v = rest_part k v in
        let i : m ≤ j = omega (arith, t.within, length-take j (take (length v - k) (drop k v))) in
        let l : j ≤ length v - k = omega (arith, q.within, length-take (length v - k) (drop k v)) in
        let e : k + m - k ≡ m = omega arith in
        (k, k + m, omega arith, omega (arith, p.within, i, l), take-take m j (take (length v - k) (drop k v)) i ∙ ap (take m) r ∙ ap (λ (n : ℕ). take n (drop k v)) (sym e))

    pub source_some : (x : Bor Bytes) → x.now ≡ take m (take j (take (length v - k) (drop k v))) → (m ≡ 0 → ⊥) → Valued v (Some x) (first_source (some v))
    unfolding first_source
    source_some x d z =
        record {
          inside = subst (λ (y : Bytes). PartOf v y) (sym d) part;
          value_is = rw (source_is, null_some (take m (take j (take (length v - k) (drop k v)))) (λ h. z (sym source_length ∙ h))) (ap some (sym d));
        }
