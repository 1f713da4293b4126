-- A text begun behind the text, and a step that follows it.
use Prim.Native.Nat.{ℕ, ◌-◌, ◌≤◌}
use native.Mathlib.Omega.{arith}
use mathlib.Core.Path.{◌≡◌, ap, ◌∙◌, subst₂}
use mathlib.Core.List.{List, ◌++◌}
use lib.ListN.{length, take, drop, length-drop}
use lib.Seq.{length-take-le, take_at, drop_at, take-append-le}
use Rattle.spec.specs.Out.{Out, Step, nested, inside}
use Rattle.text.specs.declared.text.Text.{Text}
use Rattle.text.specs.Texts.{wrote, WritesTo}
use Rattle.text.specs.Writes.{Written, Says, Writes}
use Rattle.text.specs.Writes.{Wrote}
use Rattle.std.specs.Prelude.{Ok, Err}
use Rattle.text.proofs.Temporary.{lent, back, back_length}
use Rattle.text.proofs.Texts.{Answer}
use Rattle.text.proofs.Writing.{reaches}

module _ (xs : List ℕ) (len : ℕ) (h : len ≤ length xs) (o : Out) {ys : List ℕ} {n : ℕ} (w : Written (length (lent xs len)) ys n o) where
  abbrev behind : List ℕ
  behind = drop (length xs - len) (drop len xs)

  pub back_text : take len (back xs len ys) ≡ take len xs
  back_text = take_at (take len xs) (ys ++ behind) len (length-take-le len xs h)

  back_temp : take n (drop len (back xs len ys)) ≡ o.text
  back_temp =
      ap (take n) (drop_at (take len xs) (ys ++ behind) len (length-take-le len xs h)) ∙ (take-append-le n ys behind (reaches w) ∙ w.text_is)

  -- g of the temporary text follows
  pub nest_writes : (g : List ℕ → Step) {final : List ℕ} {r : Wrote} → Writes (length (back xs len ys)) final r (g (take n (drop len (back xs len ys))) (take len (back xs len ys)))
      → Writes (length xs) final r (nested o (g o.text) (take len xs))
  unfolding nested inside
  nest_writes g {final} {r} v =
      record { says = go r (subst₂ (λ (z t : List ℕ). Says (length (back xs len ys)) final r (g z t)) back_temp back_text v.says) }
    where
      room : length (lent xs len) ≡ length xs - len
      room = length-take-le (length xs - len) (drop len xs) (omega (arith, length-drop len xs))

      go : (r : Wrote) → Says (length (back xs len ys)) final r (g o.text (take len xs)) → Says (length xs) final r (nested o (g o.text) (take len xs))
      go (Ok m) y =
          record {
            long = y.long ∙ back_length xs len h o w;
            fits = omega (arith, y.fits, w.fits, room, back_length xs len h o w, length-take-le len xs h);
            count = y.count;
            text_is = y.text_is;
          }
      go (Err _) y = record { over = omega (arith, y.over, back_length xs len h o w) }

-- with a text
pub nest_to : {a m c : Text} {r : Answer} (o : Out) {ys : List ℕ} {n : ℕ} → Written (length (lent a.room.now a.len)) ys n o → m.len ≡ a.len → m.room.ghost_name ≡ a.room.ghost_name
    → m.room.now ≡ back a.room.now a.len ys → (g : List ℕ → Step) → WritesTo m c r (g (take n (drop a.len m.room.now))) → WritesTo a c r (nested o (g o.text))
nest_to {a} {m} {c} {r} o {ys} {n} w l q e g v =
    let d = back a.room.now a.len ys in
    let x : Writes (length d) c.room.now (wrote c r) (g (take n (drop a.len d)) (take a.len d)) =
    subst₂ (λ (z : List ℕ) (k : ℕ). Writes (length z) c.room.now (wrote c r) (g (take n (drop a.len z)) (take k z))) e l v.writes in
    record { room_is = v.room_is ∙ q; long = v.long ∙ (ap length e ∙ back_length a.room.now a.len a.fits o w); writes = nest_writes a.room.now a.len a.fits o w g x }
