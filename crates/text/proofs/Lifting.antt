-- A temporary that was lifted to the end of the room: what is appended before it, then it, and what follows.
use Prim.Native.Nat.{ℕ, ◌+◌, ◌-◌, ◌≤◌, ◌<◌}
use mathlib.Core.Path.{◌≡◌, sym, ap, subst, subst₂, ◌∙◌}
use mathlib.Core.List.{List, ◌++◌}
use native.Mathlib.Omega.{arith}
use borrow.Rule.Slice.PartMut.{same_len_mid}
use lib.ListN.{length, take, drop, length-append, length-drop}
use lib.Seq.{length-take-le, take-take, take_all, take-append-add, take-append-le, drop-drop}
use Rattle.spec.specs.Out.{Out, Step, and_then, push, beside}
use Rattle.text.specs.Lifted.{Lifted}
use Rattle.text.specs.Source.{WritesIn}
use Rattle.text.specs.Writes.{Written, Refused, Says, Writes, Wrote}
use Rattle.std.specs.Prelude.{Ok, Err}
use Rattle.text.proofs.Reading.{rest_part}
use Rattle.text.proofs.Temporary.{lent, back}
use Rattle.text.proofs.Writing.{done, reaches}

-- ---- the n bytes at `from` are lifted

module _ {xs z : List ℕ} {len from n base : ℕ} (h : len ≤ from) (k : from + n ≤ length xs) (b : base ≡ length xs - n) (l : Lifted xs z from n base) where
  lifted_text : take len z ≡ take len xs
  lifted_text =
      let q : len ≤ base = omega arith in
      sym (take-take len base z q) ∙ ap (take len) l.kept ∙ take-take len base xs q

  lifted_temp : drop base z ≡ take n (drop from xs)
  lifted_temp = sym (take_all n (drop base z) (omega (arith, length-drop base z, l.long))) ∙ l.moved

  pub lifted_writes : (f : List ℕ → Step) {final : List ℕ} {r : Wrote} → Writes (length z) final r (f (drop base z) (take len z)) → Writes (length xs) final r (f (take n (drop from xs)) (take len xs))
  lifted_writes f {final} {r} w =
      subst (λ (j : ℕ). Writes j final r (f (take n (drop from xs)) (take len xs))) l.long (subst₂ (λ (c t : List ℕ). Writes (length z) final r (f c t)) lifted_temp lifted_text w)

-- ---- it is appended

module _ (d : List ℕ) (len base k : ℕ) (h : len ≤ base) (g : base ≤ length d) where
  pub lowered_full : base - len < k → Refused (length d) (beside k (push (drop base d) (take len d)))
  unfolding beside push
  lowered_full o = record { over = omega (arith, length-take-le len d (omega arith), length-drop base d) }

  lent_is : lent d len ≡ drop len d
  lent_is = rest_part len d

  module _ (ys : List ℕ) (e : length ys ≡ length (lent d len)) where
    ys_long : length ys ≡ length d - len
    ys_long = e ∙ ap length lent_is ∙ length-drop len d

    pub lowered_long : length (back d len ys) ≡ length d
    lowered_long = same_len_mid len (length d - len) d ys e

    pub lowered_done : k ≤ base - len → take (length d - base) ys ≡ take (length d - base) (drop (base - len) (lent d len))
        → Written (length d) (back d len ys) (len + (length d - base)) (beside k (push (drop base d) (take len d)))
    unfolding beside push
    lowered_done i m =
        let t : length (take len d) ≡ len = length-take-le len d (omega arith) in
        let c : length (drop base d) ≡ length d - base = length-drop base d in
        let q : len + (base - len) ≡ base = omega arith in
        let part : take (length d - base) (drop (base - len) (lent d len)) ≡ drop base d =
        ap (λ (l : List ℕ). take (length d - base) (drop (base - len) l)) lent_is
        ∙ ap (take (length d - base)) (drop-drop (base - len) len d ∙ ap (λ (j : ℕ). drop j d) q)
        ∙ take_all (length d - base) (drop base d) (omega arith) in
        record {
          long = lowered_long;
          fits = omega arith;
          count = omega (arith, length-append (take len d) (drop base d));
          text_is =
              ap (λ (j : ℕ). take (j + (length d - base)) (back d len ys)) (sym t)
              ∙ take-append-add (take len d) (ys ++ drop (length d - len) (drop len d)) (length d - base)
              ∙ ap (λ (l : List ℕ). take len d ++ l) (take-append-le (length d - base) ys (drop (length d - len) (drop len d)) (omega (arith, ys_long)) ∙ m ∙ part);
        }

-- ---- f of the text before it

abbrev pub joined : List ℕ → ℕ → ℕ → ℕ → Step → Out
joined d len base k f = beside k (and_then (f (take len d)) (push (drop base d)))

module _ (d : List ℕ) (len base k : ℕ) (h : len ≤ base) (g : base + k ≤ length d) (f : Step) where
  module _ {mid : List ℕ} {r : Wrote} {m : ℕ} (w : WritesIn base d mid r (f (take len d))) (e : r ≡ Ok m) where
    front : Written base (take base mid) m (f (take len d))
    front = done e w.writes

    pub joined_reach : m ≤ base
    joined_reach = omega (arith, reaches front, front.long)

    so_far : take m mid ≡ (f (take len d)).text
    so_far = sym (take-take m base mid joined_reach) ∙ front.text_is

    pub joined_writes : {after : List ℕ} {s : Wrote} → Writes (length mid) after s (beside k (push (drop base mid) (take m mid))) → Writes (length d) after s (joined d len base k f)
    unfolding and_then beside push
    joined_writes {after} {s} v =
        record {
          says = go s (subst (λ (j : ℕ). Says j after s (beside k (push (drop base d) (f (take len d)).text))) w.long
              (subst₂ (λ (c t : List ℕ). Says (length mid) after s (beside k (push c t))) w.behind so_far v.says));
        }
      where
        go : (s : Wrote) → Says (length d) after s (beside k (push (drop base d) (f (take len d)).text)) → Says (length d) after s (joined d len base k f)
        go (Ok j) u = record { long = u.long; fits = omega (arith, u.fits, front.fits); count = u.count; text_is = u.text_is }
        go (Err _) u = record { over = omega (arith, u.over) }

-- all of it counts
pub joined_full : (d : List ℕ) (len base : ℕ) → base ≤ length d → (f : Step) → Refused base (f (take len d)) → Refused (length d) (joined d len base (length (drop base d)) f)
unfolding and_then beside push
joined_full d len base g f v = record { over = omega (arith, v.over, length-drop base d) }

-- x stands before it, and has no room before it
pub before_full : (d : List ℕ) (len base k : ℕ) → base ≤ length d → (x : List ℕ) → Refused base (push x (take len d)) → Refused (length d) (joined d len base k (push x))
unfolding and_then beside push
before_full d len base k g x v = record { over = omega (arith, v.over, length-append (take len d) x, length-drop base d) }
