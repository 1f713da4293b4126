-- Texts begun behind the text, which stay there.
use Prim.Native.Nat.{ℕ, ◌+◌, ◌-◌, ◌≤◌, max}
use native.Mathlib.Omega.{arith}
use mathlib.Core.Path.{◌≡◌, refl, ap, sym, subst, ◌∙◌}
use mathlib.Core.List.{List, [], ◌∷◌, ◌++◌, append_assoc, append-nil}
use lib.ListN.{length, take, drop, length-append, length-drop}
use lib.Seq.{length-take-le, take-take, take_at, drop_at, take-append-le, take-append-add}
use Rattle.spec.specs.Bytes.{Bytes}
use Rattle.spec.specs.Out.{Out, Step, and_then, keep, inside, inside_all, nested_all}
use Rattle.spec.specs.Md.Elements.Table.{texts, concat}
use Rattle.text.specs.Writes.{Written, Refused, Says, Writes}
use Rattle.text.specs.Writes.{Wrote}
use Rattle.std.specs.Prelude.{Ok, Err}
use Rattle.text.proofs.Writing.{same_out, reaches}
use Rattle.text.proofs.Reading.{drop_take}
use Rattle.text.proofs.Temporary.{lent, back, back_length}
use Rattle.tables.specs.TableSteps.{behind}
use Rattle.tables.proofs.TableTexts.{bytes_both}

pub behind_none : (t : Bytes) → behind [] t ≡ keep t
unfolding behind keep inside_all texts concat
behind_none t = same_out (append-nil t) refl

inside_both : (t : Bytes) (os ps : List Out) → inside_all t (os ++ ps) ≡ max (inside_all t os) (inside_all (t ++ concat (texts os)) ps)
unfolding inside_all texts concat
inside_both t [] ps = ap (λ (z : Bytes). inside_all z ps) (sym (append-nil t)) ∙ omega arith
inside_both t (o ∷ os) ps =
    let e : inside_all ((t ++ o.text) ++ concat (texts os)) ps ≡ inside_all (t ++ (o.text ++ concat (texts os))) ps = ap (λ (z : Bytes). inside_all z ps) (append_assoc t o.text (concat (texts os))) in
    omega (arith, inside_both (t ++ o.text) os ps, e)

pub behind_both : (os ps : List Out) (t : Bytes) → behind (os ++ ps) t ≡ and_then (behind os t) (behind ps)
unfolding behind and_then
behind_both os ps t =
    same_out (ap (λ (z : Bytes). t ++ z) (bytes_both os ps) ∙ sym (append_assoc t (concat (texts os)) (concat (texts ps)))) (inside_both t os ps)

-- ---- one text, in the part that is lent from len on, which comes back as ys

module _ (xs : List ℕ) (len : ℕ) (h : len ≤ length xs) (o : Out) where
  lent_length : length (lent xs len) ≡ length xs - len
  lent_length = length-take-le (length xs - len) (drop len xs) (omega (arith, length-drop len xs))

  pub behind_full : Refused (length (lent xs len)) o → Refused (length xs) (behind (o ∷ []) (take len xs))
  unfolding behind inside_all inside
  behind_full w = record { over = omega (arith, w.over, lent_length, length-take-le len xs h) }

  pub behind_done : {ys : List ℕ} {n : ℕ} → Written (length (lent xs len)) ys n o → Written (length xs) (back xs len ys) (len + n) (behind (o ∷ []) (take len xs))
  unfolding behind inside_all inside texts concat
  behind_done {ys} {n} w =
      let t : length (take len xs) ≡ len = length-take-le len xs h in
      let e : o.text ++ [] ≡ o.text = append-nil o.text in
      record {
        long = back_length xs len h o w;
        fits = omega (arith, w.fits, lent_length, t, h);
        count = omega (arith, w.count, t, length-append (take len xs) (o.text ++ []), ap length e);
        text_is =
            ap (λ (k : ℕ). take (k + n) (back xs len ys)) (sym t)
            ∙ (take-append-add (take len xs) (ys ++ drop (length xs - len) (drop len xs)) n
            ∙ ap (λ (z : List ℕ). take len xs ++ z) (take-append-le n ys (drop (length xs - len) (drop len xs)) (reaches w) ∙ (w.text_is ∙ sym e)));
      }

-- ---- the texts stand from len up to m; what is made of them follows

module _ {room : ℕ} {mid : List ℕ} {m : ℕ} (d : List ℕ) (len : ℕ) (os : List Out) (h : len ≤ length d) (w : Written room mid m (behind os (take len d))) where
  pub behind_count : m ≡ len + length (concat (texts os))
  unfolding behind
  behind_count = omega (arith, w.count, length-append (take len d) (concat (texts os)), length-take-le len d h)

  pub behind_front : take len mid ≡ take len d
  unfolding behind
  behind_front =
      sym (take-take len m mid (omega (arith, behind_count)))
      ∙ (ap (take len) w.text_is ∙ take_at (take len d) (concat (texts os)) len (length-take-le len d h))

  pub behind_bytes : take (m - len) (drop len mid) ≡ concat (texts os)
  unfolding behind
  behind_bytes =
      sym (drop_take len m mid) ∙ (ap (drop len) w.text_is ∙ drop_at (take len d) (concat (texts os)) len (length-take-le len d h))

  pub behind_nested : (f : Step) {after : List ℕ} {r : Wrote} → Writes (length mid) after r (f (take len mid)) → Writes room after r (nested_all os f (take len d))
  unfolding nested_all behind
  behind_nested f {after} {r} x =
      record { says = go r (subst (λ (k : ℕ). Says k after r (f (take len d))) w.long (subst (λ (t : Bytes). Says (length mid) after r (f t)) behind_front x.says)) }
    where
      go : (r : Wrote) → Says room after r (f (take len d)) → Says room after r (nested_all os f (take len d))
      go (Ok k) y = record { long = y.long; fits = omega (arith, y.fits, w.fits); count = y.count; text_is = y.text_is }
      go (Err _) y = record { over = omega (arith, y.over) }

pub behind_refused : {room : ℕ} (os : List Out) (f : Step) (t : Bytes) → Refused room (behind os t) → Refused room (nested_all os f t)
unfolding nested_all behind
behind_refused os f t w = record { over = omega (arith, w.over) }
