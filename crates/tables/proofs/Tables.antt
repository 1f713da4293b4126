-- A table from the texts of its cells: the room that it takes, and that it is the definition's.
use Prim.Native.Nat.{ℕ, ◌+◌, ◌-◌, ◌*◌, ◌≤◌, ◌<◌}
use native.Mathlib.Omega.{arith}
use mathlib.Core.Path.{◌≡◌, ap, ap₂, sym, subst, ◌∙◌}
use mathlib.Core.List.{List, [], ◌∷◌, ◌++◌}
use lib.ListN.{length, take, drop, replicate, length-append, length-drop}
use lib.Seq.{length-take-le, take-take, take_all}
use Rattle.spec.specs.Bytes.{Bytes}
use Rattle.spec.specs.Out.{and_then, push, beside}
use Rattle.spec.specs.Md.Elements.Table.{concat}
use Rattle.text.specs.Lifted.{Lifted}
use Rattle.text.specs.Writes.{Written, Refused, Writes}
use Rattle.text.proofs.Writing.{then}
use Rattle.text.specs.Writes.{Wrote}
use Rattle.tables.specs.Puts.{Puts, bar_line, bar_lines}
use Rattle.tables.specs.Spans.{sum, zeros, cuts, cut_rows, unders, marks, width, table_bytes}
use Rattle.tables.specs.TableSteps.{table_sized}
use Rattle.tables.proofs.Cutting.{row_put, rule_put, lines_length}

-- ---- the room

beside_written : {room end : ℕ} {mid : Bytes} (k : ℕ) (t x : Bytes) → length mid ≡ room → k + (length t + length x) ≤ room → end ≡ length (t ++ x) → take end mid ≡ t ++ x
    → Written room mid end (beside k (push x t))
unfolding beside push
beside_written k t x a b c d = record { long = a; fits = b; count = c; text_is = d }

module _ (l : List ℕ) (ls : List (List ℕ)) (s : Bytes) (e : length s ≡ sum l + sum (concat ls)) where
  sized_length : length (table_bytes l ls s) ≡ 5 + 2 * sum l + zeros l + 6 * length l + 8 * (width ls - length l) + sum (concat ls) + marks ls
  unfolding table_bytes
  sized_length =
      let b : ℕ = width ls - length l in
      let x : Bytes = bar_line (cuts l s ++ replicate b (32 ∷ [])) in
      let y : Bytes = bar_line (unders l ++ replicate b (45 ∷ [])) in
      let z : Bytes = bar_lines (cut_rows ls (drop (sum l) s)) in
      omega
      (arith, length-append x (y ++ z), length-append y z, row_put l s 32 b (omega arith), rule_put l 45 b, lines_length ls (drop (sum l) s) (omega (arith, length-drop (sum l) s)))

  -- so many bytes are wanted besides the text and the cells' texts
  abbrev wanted : ℕ
  wanted = sum l + sum (concat ls) + sum l + (5 + 6 * length l + 9 * (width ls - length l) + zeros l + marks ls)

  pub sized_full : (room : ℕ) (t : Bytes) → room < length t + length s + wanted → Refused room (table_sized l ls s t)
  unfolding table_sized and_then beside push
  sized_full room t h = record { over = omega (arith, sized_length) }

  module _ (d z : Bytes) (len n base : ℕ) (f : len + n + wanted ≤ length d) (g : n ≡ length s) (i : base ≡ length d - n) (p : Lifted d z len n base) (q : s ≡ take n (drop len d)) where
    lifted_is : drop base z ≡ s
    lifted_is = sym (take_all n (drop base z) (omega (arith, length-drop base z, p.long))) ∙ p.moved ∙ sym q

    -- the table stands in its place
    pub sized_done : {mid : Bytes} {end : ℕ} → Puts z mid len end (table_bytes l ls (drop base z)) → {after : Bytes} {r : Wrote} → Writes (length mid) after r (push (10 ∷ []) (take end mid))
        → Writes (length d) after r (table_sized l ls s (take len d))
    unfolding table_sized
    sized_done {mid} {end} w {after} {r} x =
        let long : length mid ≡ length d = w.long ∙ p.long in
        let front : take len z ≡ take len d =
        sym (take-take len base z (omega arith)) ∙ ap (take len) p.kept ∙ take-take len base d (omega arith) in
        let t : length (take len d) ≡ len = length-take-le len d (omega arith) in
        let c : table_bytes l ls (drop base z) ≡ table_bytes l ls s = ap (table_bytes l ls) lifted_is in
        let v : Written (length d) mid end (beside (sum l + sum (concat ls) + (width ls - length l)) (push (table_bytes l ls s) (take len d))) =
        beside_written (sum l + sum (concat ls) + (width ls - length l)) (take len d) (table_bytes l ls s) long (omega (arith, sized_length, t)) (w.count ∙ omega (arith, ap length c, t, length-append (take len d) (table_bytes l ls s))) (w.text_is ∙ ap₂ (λ (a b : Bytes). a ++ b) front c) in
        then (push (10 ∷ [])) v (subst (λ (k : ℕ). Writes k after r (push (10 ∷ []) (take end mid))) long x)
