-- How a flow is appended: its bytes one by one, and plain bytes at once.
use Prim.Native.Nat.{ℕ, ◌+◌, ◌-◌, ◌≤◌, ◌<◌}
use mathlib.Core.Path.{◌≡◌, refl, sym, ap, ap₂, ◌∙◌}
use mathlib.Core.Bool.{Bool, true, false, cond, not, ◌&&◌}
use mathlib.Core.List.{List, [], ◌∷◌, ◌++◌}
use native.Mathlib.Omega.{arith}
use lib.ListN.{length, take, drop, get_or, take-append-drop}
use lib.Seq.{slice, slice-cons, take-length, drop-drop}
use Rattle.spec.specs.Bytes.{ascii, white}
use Rattle.spec.specs.Out.{and_then, push}
use Rattle.spec.specs.Md.TextUtils.{is_escaped}
use Rattle.text.specs.Flow.{starts_black, added, flow, flow_before, Flows}
use Rattle.text.proofs.Writing.{push_both}
use Rattle.text.proofs.Sourcing.{part_is, part_none, slice_on}
use Rattle.normalized.proofs.Wording.{slice_front}
use Rattle.normalized.proofs.Flowing.{flows_flow, flow_split}

-- ---- where a word begins

pub begins_some : (i to : ℕ) (s : List ℕ) → i < to → to ≤ length s → not (white (get_or s i 0)) ≡ starts_black (slice i to s)
unfolding starts_black
begins_some i to s h k = sym (ap starts_black (slice-cons i to s 0 h k))

pub begins_none : (i to : ℕ) (s : List ℕ) → to ≤ i → false ≡ starts_black (slice i to s)
unfolding starts_black
begins_none i to s h = sym (ap starts_black (part_none i to s h))

-- ---- what a byte adds

module _ (escape : Bool) (b : ℕ) (rest : List ℕ) where
  pub added_white : {t : Bool} → white b ≡ true → t ≡ starts_black rest → added escape b rest ≡ cond t (ascii " ") []
  unfolding added
  added_white h e = rw (h, e) refl

  pub added_black : {t : Bool} → white b ≡ false → t ≡ is_escaped false false false b rest → added escape b rest ≡ cond (escape && t) (ascii "\\") [] ++ (b ∷ [])
  unfolding added
  added_black h e = rw (h, e) refl

-- ---- byte by byte

pub slice_join : (s : List ℕ) (i m to : ℕ) → i ≤ m → m ≤ to → slice i m s ++ slice m to s ≡ slice i to s
slice_join s i m to h k =
    let z : i + (m - i) ≡ m = omega arith in
    ap (λ (x : List ℕ). x ++ slice m to s) (ap (λ (j : ℕ). slice i j s) (sym z) ∙ sym (slice_front s i to (m - i) (omega arith)))
    ∙ ap (λ (x : List ℕ). take (m - i) (slice i to s) ++ x) (ap (λ (j : ℕ). slice j to s) (sym z) ∙ sym (drop-drop (m - i) i (take to s)))
    ∙ take-append-drop (m - i) (slice i to s)

-- what stands from i on
pub rest_is : (i : ℕ) (s : List ℕ) → slice i (length s) s ≡ drop i s
rest_is i s = ap (drop i) (take-length s)

-- `&s[i..]` lends it
abbrev pub from : ℕ → List ℕ → List ℕ
from i s = take (length s - i) (drop i s)

from_is : (i : ℕ) (s : List ℕ) → from i s ≡ drop i s
from_is i s = part_is i (length s) s ∙ rest_is i s

pub slice_rest : (s : List ℕ) (i m : ℕ) → i ≤ m → m ≤ length s → slice i m s ++ drop m s ≡ drop i s
slice_rest s i m h k = ap (λ (x : List ℕ). slice i m s ++ x) (sym (rest_is m s)) ∙ slice_join s i m (length s) h k ∙ rest_is i s

-- ---- a flow in two parts

pub flow_from : (s : List ℕ) (escape : Bool) (i stop : ℕ) → i ≤ stop → stop ≤ length s
    → flow escape (slice i (length s) s) ≡ flow_before escape (slice i stop s) (slice stop (length s) s) ++ flow escape (slice stop (length s) s)
flow_from s escape i stop h l =
    ap (flow escape) (sym (slice_join s i stop (length s) h l)) ∙ flow_split escape (slice i stop s) (slice stop (length s) s)

-- ---- the steps, one by one

module _ (s : List ℕ) (escape : Bool) (t : List ℕ) where
  pub byte_turn : (i n : ℕ) → i < n → n ≤ length s
      → push (flow_before escape (slice i n s) (drop n s)) t ≡ and_then (push (added escape (get_or s i 0) (drop (i + 1) s)) t) (push (flow_before escape (slice (i + 1) n s) (drop n s)))
  unfolding flow_before
  byte_turn i n h l =
      let g = flow_before escape (slice (i + 1) n s) (drop n s) in
      ap (λ (x : List ℕ). push (flow_before escape x (drop n s)) t) (slice_on s i n h l)
      ∙ ap (λ (x : List ℕ). push (added escape (get_or s i 0) x ++ g) t) (slice_rest s (i + 1) n (omega arith) l)
      ∙ push_both (added escape (get_or s i 0) (drop (i + 1) s)) g t

  pub bytes_ended : (i n : ℕ) → n ≤ i → push (flow_before escape (slice i n s) (drop n s)) t ≡ push [] t
  unfolding flow_before
  bytes_ended i n h = ap (λ (x : List ℕ). push (flow_before escape x (drop n s)) t) (part_none i n s h)

  -- n plain bytes at once
  pub plain_turn : (n : ℕ) → Flows escape s n → push (flow escape s) t ≡ and_then (push (take n s) t) (push (flow escape (from n s)))
  plain_turn n f =
      ap (λ (x : List ℕ). push x t) (flows_flow escape (λ e. e) f ∙ ap (λ (x : List ℕ). take n s ++ flow escape x) (sym (from_is n s)))
      ∙ push_both (take n s) (flow escape (from n s)) t

  -- n bytes, as they are
  pub stretch_turn : (n : ℕ) → push (flow escape s) t ≡ and_then (push (flow_before escape (take n s) (drop n s)) t) (push (flow escape (from n s)))
  stretch_turn n =
      ap (λ (x : List ℕ). push (flow escape x) t) (sym (take-append-drop n s))
      ∙ ap (λ (x : List ℕ). push x t) (flow_split escape (take n s) (drop n s) ∙ ap (λ (x : List ℕ). flow_before escape (take n s) (drop n s) ++ flow escape x) (sym (from_is n s)))
      ∙ push_both (flow_before escape (take n s) (drop n s)) (flow escape (from n s)) t

-- nothing is left
pub flow_ended : (s : List ℕ) (escape : Bool) (t : List ℕ) → length s ≡ 0 → push (flow escape s) t ≡ push [] t
unfolding flow
flow_ended [] escape t h = refl
flow_ended (b ∷ s) escape t h = absurd (omega (arith, h))

-- the bytes from `at` to `mark` are the first of those from `at` on
pub part_flow : (s : List ℕ) (escape : Bool) (at mark : ℕ) → at ≤ mark → flow_before escape (slice at mark s) (slice mark (length s) s) ≡ flow_before escape (take (mark - at) (from at s)) (drop (mark - at) (from at s))
part_flow s escape at mark h =
    let z : at + (mark - at) ≡ mark = omega arith in
    ap₂ (λ (x y : List ℕ). flow_before escape x y) (sym (part_is at mark s)) (rest_is mark s ∙ ap (λ (j : ℕ). drop j s) (sym z) ∙ sym (drop-drop (mark - at) at s))
    ∙ ap (λ (x : List ℕ). flow_before escape (take (mark - at) x) (drop (mark - at) x)) (sym (from_is at s))
