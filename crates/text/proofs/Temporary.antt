-- A text begun behind the text, lifted to the end of the room, and appended from there.
use Prim.Native.Nat.{ℕ, ◌+◌, ◌-◌, ◌≤◌}
use mathlib.Core.Path.{◌≡◌, sym, ap, subst₂, ◌∙◌}
use mathlib.Core.List.{List, ◌++◌}
use native.Mathlib.Omega.{arith}
use borrow.Rule.Slice.PartMut.{same_len_mid}
use lib.ListN.{length, take, drop, length-drop}
use lib.Seq.{length-take-le, take_at, take_all, drop_at, take-append-le, take-take}
use Rattle.spec.specs.Out.{Out, Step, push, nested, inside, beside}
use Rattle.text.specs.Lifted.{Lifted}
use Rattle.text.specs.Source.{WritesIn}
use Rattle.text.specs.Writes.{Written, Refused, Says, Writes, Wrote}
use Rattle.std.specs.Prelude.{Ok, Err}
use Rattle.text.proofs.Writing.{reaches}

-- the part from len on, as `&mut text[len..]` lends it, and the memory with that part back as ys
abbrev pub lent : List ℕ → ℕ → List ℕ
lent xs len = take (length xs - len) (drop len xs)

abbrev pub back : List ℕ → ℕ → List ℕ → List ℕ
back xs len ys = take len xs ++ (ys ++ drop (length xs - len) (drop len xs))

module _ (xs : List ℕ) (len : ℕ) (h : len ≤ length xs) (o : Out) where
  lent_length : length (lent xs len) ≡ length xs - len
  lent_length = length-take-le (length xs - len) (drop len xs) (omega (arith, length-drop len xs))

  pub temp_full : (f : Step) → Refused (length (lent xs len)) o → Refused (length xs) (nested o f (take len xs))
  unfolding nested inside
  temp_full f w = record { over = omega (arith, w.over, lent_length, length-take-le len xs h) }

  module _ {ys : List ℕ} {n : ℕ} (w : Written (length (lent xs len)) ys n o) where
    pub back_length : length (back xs len ys) ≡ length xs
    back_length = same_len_mid len (length xs - len) xs ys w.long

    pub temp_fits : len + n ≤ length (back xs len ys)
    temp_fits = omega (arith, reaches w, back_length, w.long, lent_length)

    back_text : take len (back xs len ys) ≡ take len xs
    back_text = take_at (take len xs) (ys ++ drop (length xs - len) (drop len xs)) len (length-take-le len xs h)

    back_temp : take n (drop len (back xs len ys)) ≡ o.text
    back_temp =
        ap (take n) (drop_at (take len xs) (ys ++ drop (length xs - len) (drop len xs)) len (length-take-le len xs h))
        ∙ take-append-le n ys (drop (length xs - len) (drop len xs)) (reaches w) ∙ w.text_is

    -- z is the memory with the temporary text at its end
    module _ (base : ℕ) (b : base ≡ length (back xs len ys) - n) (z : List ℕ) (l : Lifted (back xs len ys) z len n base) where
      pub lifted_long : length z ≡ length xs
      lifted_long = l.long ∙ back_length

      text_kept : take len z ≡ take len xs
      text_kept =
          let q : len ≤ base = omega (arith, temp_fits) in
          sym (take-take len base z q) ∙ ap (take len) l.kept ∙ take-take len base (back xs len ys) q ∙ back_text

      temp_is : drop base z ≡ o.text
      temp_is = sym (take_all n (drop base z) (omega (arith, length-drop base z, l.long, temp_fits))) ∙ l.moved ∙ back_temp

      -- g of it is appended before it
      pub temp_writes : (g : List ℕ → List ℕ) {final : List ℕ} {r : Wrote} → WritesIn base z final r (push (g (drop base z)) (take len z))
          → Writes (length xs) final r (nested o (λ t. beside (length o.text) (push (g o.text) t)) (take len xs))
      unfolding nested inside beside push
      temp_writes g {final} {r} v = record { says = go r (subst₂ (λ (x y : List ℕ). Says base (take base final) r (push (g x) y)) temp_is text_kept v.writes.says) }
        where
          t : length (take len xs) ≡ len
          t = length-take-le len xs h

          go : (r : Wrote) → Says base (take base final) r (push (g o.text) (take len xs)) → Says (length xs) final r (nested o (λ t. beside (length o.text) (push (g o.text) t)) (take len xs))
          go (Ok m) y =
              record {
                long = v.long ∙ lifted_long;
                fits = omega (arith, y.fits, w.fits, w.count, lent_length, back_length, temp_fits, t);
                count = y.count;
                text_is = sym (take-take m base final (omega (arith, reaches y, y.long))) ∙ y.text_is;
              }
          go (Err _) y = record { over = omega (arith, y.over, w.count, back_length, temp_fits, t) }
