-- Parts of a text's room that are lent to a callee, and temporaries that are lifted to the room's end.
use Prim.Native.Nat.{ℕ, ◌+◌, ◌-◌, ◌≤◌}
use mathlib.Core.Path.{◌≡◌, sym, ap, subst, subst₂, ◌∙◌}
use mathlib.Core.List.{List, ◌++◌}
use native.Mathlib.Omega.{arith}
use borrow.Rule.Slice.PartMut.{same_len_mid}
use lib.ListN.{length, take, drop, length-drop}
use lib.Seq.{length-take-le, take-take, take_at, drop_at, take-append-le}
use Rattle.std.specs.Prelude.{Ok, Err}
use Rattle.std.specs.Result.{IsErr}
use Rattle.spec.specs.Out.{Out, Step, and_then, push, beside}
use Rattle.text.specs.declared.buffer.Full.{Full}
use Rattle.text.specs.declared.text.Text.{Text}
use Rattle.text.specs.Lifted.{Lifted}
use Rattle.text.specs.Source.{WritesIn}
use Rattle.text.specs.Texts.{bytes, wrote, WritesTo}
use Rattle.text.specs.Writes.{Refused, Writes, Wrote}
use Rattle.text.proofs.Lifting.{joined_writes, lifted_writes}
use Rattle.text.proofs.Reading.{rest_part}
use Rattle.text.proofs.Sourcing.{lent_front}
use Rattle.text.proofs.Temporary.{lent, back}
use Rattle.text.proofs.Texts.{Answer, as_stop}
use Rattle.text.proofs.Writing.{done, full, reaches}

-- ---- f is written to the text in the room before `base`; ys is that room then, and c the whole text

module _ (a : Text) (base : ℕ) (h : a.len ≤ base) (g : base ≤ length a.room.now) (f : Step) {ys : List ℕ} {r : Wrote} (l : length ys ≡ length (take base a.room.now))
    (w : Writes (length (take base a.room.now)) ys r (f (take a.len (take base a.room.now)))) where
  front_writes : WritesIn base a.room.now (ys ++ drop base a.room.now) r (f (bytes a))
  front_writes = lent_front base a.len a.room.now ys f h g l w

  pub front_full : {e : Full} → r ≡ Err e → Refused base (f (bytes a))
  front_full e = full e front_writes.writes

  pub front_stop : {c : Text} {s : Answer} {k : Step} {o : Out} → k (bytes a) ≡ o → Refused (length a.room.now) o → IsErr s → c.room.ghost_name ≡ a.room.ghost_name
      → c.room.now ≡ ys ++ drop base a.room.now → WritesTo a c s k
  front_stop z v e n q = as_stop n (ap length q ∙ front_writes.long) e (subst (Refused (length a.room.now)) (sym z) v)

  -- the temporary from `base` on is appended behind it
  pub front_joined : (k : ℕ) {m : ℕ} {c e : Text} {s : Answer} → base + k ≤ length a.room.now → r ≡ Ok m → WritesTo c e s (λ t. beside k (push (drop base c.room.now) t)) → c.len ≡ m
      → c.room.ghost_name ≡ a.room.ghost_name → c.room.now ≡ ys ++ drop base a.room.now → WritesTo a e s (λ t. beside k (and_then (f t) (push (drop base a.room.now))))
  front_joined k {m} {c} {e} {s} i z v n o q =
      let mid : List ℕ = ys ++ drop base a.room.now in
      let x : Writes (length mid) e.room.now (wrote e s) (beside k (push (drop base mid) (take m mid))) =
      subst₂ (λ (j : ℕ) (d : List ℕ). Writes (length d) e.room.now (wrote e s) (beside k (push (drop base d) (take j d)))) n q v.writes in
      record { room_is = v.room_is ∙ o; long = v.long ∙ ap length q ∙ front_writes.long; writes = joined_writes a.room.now a.len base k h i f front_writes z x }

-- ---- o is written to a text in the room from `from` on; ys is that room then, and c the whole text

module _ (a : Text) (from : ℕ) (h : a.len ≤ from) (g : from ≤ length a.room.now) {o : Out} {ys : List ℕ} {r : Wrote} (w : Writes (length (lent a.room.now from)) ys r o) (l : length ys ≡ length (lent a.room.now from)) where
  lent_long : length (lent a.room.now from) ≡ length a.room.now - from
  lent_long = ap length (rest_part from a.room.now) ∙ length-drop from a.room.now

  whole_long : length (back a.room.now from ys) ≡ length a.room.now
  whole_long = same_len_mid from (length a.room.now - from) a.room.now ys l

  pub behind_full : {e : Full} → r ≡ Err e → Refused (length a.room.now - from) o
  behind_full e = subst (λ (k : ℕ). Refused k o) lent_long (full e w)

  pub behind_stop : {c : Text} {s : Answer} {k : Step} → IsErr s → Refused (length a.room.now) (k (bytes a)) → c.room.ghost_name ≡ a.room.ghost_name → c.room.now ≡ back a.room.now from ys → WritesTo a c s k
  behind_stop e v n q = as_stop n (ap length q ∙ whole_long) e v

  -- it is lifted to the end of the room, and the whole goes on with it
  pub behind_lifted : (k : List ℕ → Step) {n base : ℕ} {c z : Text} {s : Answer} → r ≡ Ok n → Lifted (back a.room.now from ys) c.room.now from n base → base ≡ length (back a.room.now from ys) - n
      → WritesTo c z s (k (drop base c.room.now)) → c.len ≡ a.len → c.room.ghost_name ≡ a.room.ghost_name → WritesTo a z s (k o.text)
  behind_lifted k {n} {base} {c} {z} {s} e j u v m i =
      let d : List ℕ = back a.room.now from ys in
      let rest : List ℕ = drop (length a.room.now - from) (drop from a.room.now) in
      let before : length (take from a.room.now) ≡ from = length-take-le from a.room.now g in
      let y = done e w in
      let reach : from + n ≤ length d = omega (arith, reaches y, l, lent_long, whole_long) in
      let x : Writes (length d) z.room.now (wrote z s) (k (take n (drop from d)) (take a.len d)) =
      lifted_writes h reach u j k (subst (λ (p : ℕ). Writes (length c.room.now) z.room.now (wrote z s) (k (drop base c.room.now) (take p c.room.now))) m v.writes) in
      let part : take n (drop from d) ≡ o.text =
      ap (take n) (drop_at (take from a.room.now) (ys ++ rest) from before) ∙ take-append-le n ys rest (reaches y) ∙ y.text_is in
      let text : take a.len d ≡ bytes a =
      sym (take-take a.len from (take from a.room.now ++ (ys ++ rest)) h) ∙ ap (take a.len) (take_at (take from a.room.now) (ys ++ rest) from before) ∙ take-take a.len from a.room.now h in
      record {
        room_is = v.room_is ∙ i;
        long = v.long ∙ j.long ∙ whole_long;
        writes =
            subst (λ (p : ℕ). Writes p z.room.now (wrote z s) (k o.text (bytes a))) whole_long
            (subst₂ (λ (b t : List ℕ). Writes (length d) z.room.now (wrote z s) (k b t)) part text x);
      }

-- ---- the n bytes at `from` are lifted

module _ {a b : Text} {from n base : ℕ} (h : a.len ≤ from) (k : from + n ≤ length a.room.now) (q : base ≡ length a.room.now - n) (l : Lifted a.room.now b.room.now from n base) (m : b.len ≡ a.len)
    (o : b.room.ghost_name ≡ a.room.ghost_name) where
  pub lifted_to : (f : List ℕ → Step) {e : Text} {r : Answer} → WritesTo b e r (f (drop base b.room.now)) → WritesTo a e r (f (take n (drop from a.room.now)))
  lifted_to f {e} {r} w =
      record {
        room_is = w.room_is ∙ o;
        long = w.long ∙ l.long;
        writes = lifted_writes h k q l f (subst (λ (j : ℕ). Writes (length b.room.now) e.room.now (wrote e r) (f (drop base b.room.now) (take j b.room.now))) m w.writes);
      }
