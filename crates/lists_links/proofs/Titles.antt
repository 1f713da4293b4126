-- A string whose bytes are replaced one by one.
use Prim.Native.Nat.{ℕ, ◌+◌, ◌≤◌, ◌<◌}
use mathlib.Core.Path.{◌≡◌, sym, ap, ◌∙◌}
use mathlib.Core.List.{List, [], ◌∷◌}
use native.Mathlib.Numerals.{add-one}
use lib.ListN.{length, drop, get_or, drop_of_length-le}
use lib.Seq.{drop-cons}
use Rattle.spec.specs.Out.{and_then, push}
use Rattle.spec.specs.Md.TextUtils.{each_byte}
use Rattle.text.proofs.Writing.{push_both}

module _ (f : ℕ → List ℕ) (s t : List ℕ) (i : ℕ) where
  pub each_turn : i < length s → push (each_byte f (drop i s)) t ≡ and_then (push (f (get_or s i 0)) t) (push (each_byte f (drop (i + 1) s)))
  unfolding each_byte
  each_turn h =
      let c : drop i s ≡ get_or s i 0 ∷ drop (i + 1) s = drop-cons s i 0 h ∙ ap (λ (j : ℕ). get_or s i 0 ∷ drop j s) (sym (add-one i)) in
      ap (λ (x : List ℕ). push (each_byte f x) t) c ∙ push_both (f (get_or s i 0)) (each_byte f (drop (i + 1) s)) t

  pub each_end : length s ≤ i → push (each_byte f (drop i s)) t ≡ push [] t
  unfolding each_byte
  each_end h = ap (λ (x : List ℕ). push (each_byte f x) t) (drop_of_length-le s h)
