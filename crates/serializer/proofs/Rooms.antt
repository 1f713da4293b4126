-- A text keeps its room, and the answers on a text in the words of memory and length.
use mathlib.Core.Path.{◌≡◌, refl, ap, sym, ◌∙◌}
use mathlib.Core.Bool.{Bool, false≢true}
use mathlib.Core.List.{List}
use Prim.Native.Nat.{ℕ, ◌-◌}
use borrow.Rule.Slice.PartMut.{same_len_mid}
use lib.ListN.{length}
use Rattle.spec.specs.Out.{Step}
use Rattle.std.specs.Prelude.{Result, Ok, Err}
use Rattle.std.specs.Result.{IsErr}
use Rattle.text.specs.declared.buffer.Full.{Full}
use Rattle.text.specs.declared.text.Text.{Text}
use Rattle.text.specs.Texts.{WritesTo, wrote}
use Rattle.text.specs.Writes.{Wrote}
use Rattle.text.proofs.Texts.{Answer}
use Rattle.text.proofs.Temporary.{lent, back}
use Rattle.serializer.specs.declared.progress.Going.{Going}
use Rattle.serializer.specs.Writers.{SameRoom, Went, going_of}

pub room_same : (a : Text) → SameRoom a a
room_same a = record { room_is = refl; long = refl }

pub leaf_room : {a b : Text} {r : Answer} {f : Step} → WritesTo a b r f → SameRoom a b
leaf_room w = record { room_is = w.room_is; long = w.long }

pub room_on : {a b c : Text} → SameRoom a b → SameRoom b c → SameRoom a c
room_on p q = record { room_is = q.room_is ∙ p.room_is; long = q.long ∙ p.long }

-- ys comes back as the part of the room behind the text
pub back_same : (xs : List ℕ) (len : ℕ) (ys : List ℕ) → length ys ≡ length (lent xs len) → length (back xs len ys) ≡ length xs
back_same xs len ys e = same_len_mid len (length xs - len) xs ys e

pub room_behind : {a b : Text} (ys : List ℕ) → b.room.ghost_name ≡ a.room.ghost_name → b.room.now ≡ back a.room.now a.len ys → length ys ≡ length (lent a.room.now a.len) → SameRoom a b
room_behind {a} {b} ys n e l = record { room_is = n; long = ap length e ∙ back_same a.room.now a.len ys l }

-- ---- where `?` goes on, and where it returns early

-- `wrote` and `gone` look at the length alone
abbrev pub told : ℕ → Answer → Wrote
told n (Ok _) = Ok n
told n (Err e) = Err e

abbrev pub told_going : ℕ → Result Going Full → Went
told_going n (Ok g) = Ok (record { len = n; first = g.first; due = g.due })
told_going n (Err e) = Err e

pub wrote_err : (n : ℕ) (r : Answer) → IsErr r → IsErr (told n r)
wrote_err n (Ok u) h = absurd (false≢true h)
wrote_err n (Err e) h = h

pub gone_err : (n : ℕ) (r : Result Going Full) → IsErr r → IsErr (told_going n r)
gone_err n (Ok g) h = absurd (false≢true h)
gone_err n (Err e) h = h

pub going_ok : (t : Text) (isFirst due : Bool) {r : Answer} {u : Unit {0}} → r ≡ Ok u → ◌≡◌ {A = Went} (Ok (record { len = t.len; first = isFirst; due = due })) (going_of (wrote t r) isFirst due)
going_ok t isFirst due e = sym (ap (λ (x : Answer). going_of (wrote t x) isFirst due) e)

pub going_err : (n m : ℕ) (isFirst due : Bool) (r : Result Going Full) {q : Answer} {x : Full} → IsErr r → q ≡ Err x → told_going n r ≡ going_of (told m q) isFirst due
going_err n m isFirst due r {q} {x} h e = go r h ∙ sym (ap (λ (y : Answer). going_of (told m y) isFirst due) e)
  where
    go : (r : Result Going Full) → IsErr r → told_going n r ≡ Err x
    go (Ok g) h = absurd (false≢true h)
    go (Err e) h = refl
