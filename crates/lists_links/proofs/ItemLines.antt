-- The blocks of a list item.
use Prim.Native.Nat.{ℕ, ◌-◌, ◌≤◌, ◌<◌}
use mathlib.Core.Path.{◌≡◌, refl, sym, ap, ◌∙◌}
use mathlib.Core.Bool.{Bool, true, false, cond, ◌&&◌}
use mathlib.Core.List.{List, [], ◌∷◌, ◌++◌, append_assoc}
use native.Mathlib.Omega.{arith}
use borrow.Author.Tests.{eq-eqb}
use lib.Dec.{eqb}
use lib.ListN.{length, take, drop, get_or, replicate, length-drop, length-replicate}
use lib.Seq.{take-take}
use Rattle.spec.specs.Bytes.{blank, null, same, every, ends_with, one, parts, cut_at, split, trim_end_matches, trim_start_matches}
use Rattle.spec.specs.Out.{Out, and_then, push, beside}
use Rattle.spec.specs.Md.Ctx.{break_of}
use Rattle.spec.specs.Md.Elements.List as def
use Rattle.lists_links.specs.Items.{item_of, line_byte, block_text}
use Rattle.text.specs.Source.{WritesIn}
use Rattle.text.specs.Trimmed.{Trimmed, Skipped}
use Rattle.text.specs.Writes.{Says, Writes}
use Rattle.text.specs.Writes.{Wrote}
use Rattle.std.specs.Prelude.{Ok, Err}
use Rattle.lists_links.specs.declared.list.Item.{Item}
use Rattle.text.proofs.Reading.{ends_short, rest_part}
use Rattle.text.proofs.Writing.{push_both, reaches}

-- ---- the place where a block can begin

all_blank : (s : List ℕ) → same s (replicate (length s) 32) ≡ every blank s
unfolding same every blank
all_blank [] = refl
all_blank (b ∷ s) = ap (λ (t : Bool). eqb b 32 && t) (all_blank s)

module _ (t : List ℕ) (item : Item) where
  pub line_there : length t ≡ item.start → def.at_line_start (item_of item) t ≡ true
  unfolding def.at_line_start
  line_there e = rw (eq-eqb (length t) item.start e)

  module _ (ne : eqb (length t) item.start ≡ false) where
    pub line_short : length t < item.indent → def.at_line_start (item_of item) t ≡ false
    unfolding def.at_line_start
    line_short h = rw (ne, ends_short t (replicate item.indent 32) (omega (arith, length-replicate {A = ℕ} item.indent 32)))

    pub line_rest : item.indent ≤ length t → (a : Bool) → a ≡ every blank (take (length t - (length t - item.indent)) (drop (length t - item.indent) t))
        → def.at_line_start (item_of item) t ≡ a && ends_with (10 ∷ []) (take (length t - item.indent) t)
    unfolding def.at_line_start ends_with
    line_rest h a p =
        let k : ℕ = item.indent in
        let d : List ℕ = drop (length t - k) t in
        let l : length d ≡ k = omega (arith, length-drop (length t - k) t) in
        let e : same d (replicate k 32) ≡ a = ap (λ (j : ℕ). same d (replicate j 32)) (sym l) ∙ all_blank d ∙ sym (p ∙ ap (every blank) (rest_part (length t - k) t)) in
        rw (ne, length-replicate {A = ℕ} k 32, e)

-- ---- lines

-- what stands for a block whose first byte is b
lines_on : (item : def.Item) (b : ℕ) (s : List ℕ)
    → def.block_lines item (split def.is_line_end (b ∷ s)) ≡ line_byte item (null (parts def.is_line_end s).0) b ++ def.block_lines item (split def.is_line_end s)
unfolding def.block_lines def.more_lines def.is_line_end split parts cut_at
lines_on item b s = go (eqb b 10)
  where
    r : List ℕ × List (List ℕ)
    r = parts def.is_line_end s

    go : (t : Bool) → def.block_lines item ((cut_at t b r).0 ∷ (cut_at t b r).1) ≡ cond t (break_of item.ctx ++ cond (null r.0) [] item.indent) (b ∷ []) ++ (r.0 ++ def.more_lines item r.1)
    go true = sym (append_assoc (break_of item.ctx) (cond (null r.0) [] item.indent) (r.0 ++ def.more_lines item r.1))
    go false = refl

pub line_none : (s : List ℕ) → length s < 1 → null (parts def.is_line_end s).0 ≡ true
unfolding null parts
line_none [] h = refl
line_none (b ∷ s) h = absurd (omega arith)

pub line_first : (s : List ℕ) → 1 ≤ length s → null (parts def.is_line_end s).0 ≡ eqb (get_or s 0 0) 10
unfolding null parts cut_at def.is_line_end
line_first [] h = absurd (omega arith)
line_first (b ∷ s) h = go (eqb b 10)
  where
    go : (t : Bool) → null (cut_at t b (parts def.is_line_end s)).0 ≡ t
    go true = refl
    go false = refl

pub lines_turn : (item : def.Item) (s t : List ℕ) (e : Bool) → 1 ≤ length s → e ≡ null (parts def.is_line_end (drop 1 s)).0
    → push (def.block_lines item (split def.is_line_end s)) t ≡ and_then (push (line_byte item e (get_or s 0 0)) t) (push (def.block_lines item (split def.is_line_end (drop 1 s))))
lines_turn item [] t e h q = absurd (omega arith)
lines_turn item (b ∷ s) t e h q =
    ap (λ (x : List ℕ). push x t) (lines_on item b s ∙ ap (λ (z : Bool). line_byte item z b ++ def.block_lines item (split def.is_line_end s)) (sym q))
    ∙ push_both (line_byte item e b) (def.block_lines item (split def.is_line_end s)) t

pub lines_end : (item : def.Item) (s t : List ℕ) → length s < 1 → push (def.block_lines item (split def.is_line_end s)) t ≡ push [] t
unfolding def.block_lines def.more_lines split parts
lines_end item [] t h = refl
lines_end item (b ∷ s) t h = absurd (omega arith)

-- the block without the line ends around it, as the two trims cut it out
pub block_is : (s : List ℕ) (k j : ℕ) → Skipped s k (trim_start_matches (λ b. eqb b 10) s) → Trimmed (take (length s - k) (drop k s)) j (trim_end_matches (one (λ b. eqb b 10)) (take (length s - k) (drop k s)))
    → take j (take (length s - k) (drop k s)) ≡ block_text s
unfolding def.is_line_end
block_is s k j p q = q.is ∙ ap (trim_end_matches (one (λ b. eqb b 10))) (rest_part k s ∙ p.is)

-- ---- what is written before the block counts with it

pub beside_behind : {base : ℕ} {z final : List ℕ} {r : Wrote} {o : Out} → base ≤ length z → WritesIn base z final r o
    → Writes (length z) final r (beside (length (drop base z)) o)
unfolding beside
beside_behind {base} {z} {final} {r} {o} h v = record { says = go r v.writes.says }
  where
    go : (r : Wrote) → Says base (take base final) r o → Says (length z) final r (beside (length (drop base z)) o)
    go (Ok m) y =
        record {
          long = v.long;
          fits = omega (arith, y.fits, length-drop base z);
          count = y.count;
          text_is = sym (take-take m base final (omega (arith, reaches y, y.long))) ∙ y.text_is;
        }
    go (Err _) y = record { over = omega (arith, y.over, length-drop base z) }
