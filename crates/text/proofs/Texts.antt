-- How the answers of methods that write to a text go together.
use Prim.Native.Nat.{ℕ, ◌+◌, ◌-◌, ◌≤◌, ◌<◌}
use mathlib.Core.Path.{◌≡◌, refl, sym, subst, subst₂, ap, ◌∙◌}
use mathlib.Core.Bool.{false≢true}
use mathlib.Core.List.{List, [], ◌++◌}
use borrow.Rule.Slice.PartMut.{put_mid}
use lib.ListN.{length, take}
use Rattle.std.specs.Prelude.{Result, Ok, Err}
use Rattle.std.specs.Result.{IsErr}
use Rattle.spec.specs.Out.{Step, and_then, cut, keep, push}
use Rattle.text.specs.declared.buffer.Full.{Full}
use Rattle.text.specs.declared.text.Text.{Text}
use Rattle.text.specs.Trimmed.{Trimmed}
use Rattle.text.specs.Writes.{Written, Refused, Says, Writes}
use Rattle.text.specs.Texts.{bytes, wrote, WritesTo}
use Rattle.text.proofs.Pushing.{put_done, push_full}
use Rattle.text.proofs.Spaces.{cut_done}
use Rattle.text.proofs.Writing.{alike, then, refused, keeps, keeps_nothing, push_both}

abbrev pub Answer : Type 0
Answer = Result (Unit {0}) Full

-- an answer stays one for an equal step
pub as_step : {a b : Text} {r : Answer} {f g : Step} → g (bytes a) ≡ f (bytes a) → WritesTo a b r f → WritesTo a b r g
as_step e w = record { room_is = w.room_is; long = w.long; writes = alike e w.writes }

-- what an answer says where `?` goes on
pub done : {a b : Text} {r : Answer} {u : Unit {0}} {f : Step} → r ≡ Ok u → WritesTo a b r f → Written (length a.room.now) b.room.now b.len (f (bytes a))
done {a} {b} {r} {u} {f} q w = subst (λ (x : Answer). Says (length a.room.now) b.room.now (wrote b x) (f (bytes a))) q w.writes.says

-- f was written, and g behind it
pub next : {a b c : Text} {q r : Answer} {u : Unit {0}} {f g : Step} → q ≡ Ok u → WritesTo a b q f → WritesTo b c r g → WritesTo a c r (λ t. and_then (f t) g)
next {a} {b} {c} {q} {r} {u} {f} {g} e v w =
    record {
      room_is = w.room_is ∙ v.room_is;
      long = w.long ∙ v.long;
      writes = then g (done e v) (subst (λ (k : ℕ). Writes k c.room.now (wrote c r) (g (take b.len b.room.now))) v.long w.writes);
    }

-- where `?` returns early, whatever g is to come
pub stop : {a b : Text} {q r : Answer} {x : Full} {f : Step} (g : Step) → q ≡ Err x → WritesTo a b q f → IsErr r → WritesTo a b r (λ t. and_then (f t) g)
stop {a} {b} {q} {r} {x} {f} g e w h = go r h
  where
    over : Refused (length a.room.now) (f (bytes a))
    over = subst (λ (y : Answer). Says (length a.room.now) b.room.now (wrote b y) (f (bytes a))) e w.writes.says

    go : (r : Answer) → IsErr r → WritesTo a b r (λ t. and_then (f t) g)
    go (Ok n) h = absurd (false≢true h)
    go (Err y) h = record { room_is = w.room_is; long = w.long; writes = record { says = refused g over } }

-- nothing is written
pub kept : (a : Text) → WritesTo a a (Ok tt) keep
kept a = record { room_is = refl; long = refl; writes = record { says = keeps a.room.now a.len a.fits } }

pub pushes_nothing : (a : Text) → WritesTo a a (Ok tt) (push [])
pushes_nothing a = record { room_is = refl; long = refl; writes = record { says = keeps_nothing a.room.now a.len a.fits } }

-- s is put at the end
pub puts : {a b : Text} {x s : List ℕ} {k : ℕ} → x ≡ s → k ≡ length s → a.len + k ≤ length a.room.now
    → b.room.now ≡ put_mid a.len (a.len + k - a.len) a.room.now x → b.len ≡ a.len + k → b.room.ghost_name ≡ a.room.ghost_name → WritesTo a b (Ok tt) (push s)
puts {a} {b} {x} {s} {k} p q h e l n =
    let w : Written (length a.room.now) b.room.now b.len (push s (bytes a)) =
    subst₂ (λ (d : List ℕ) (m : ℕ). Written (length a.room.now) d m (push s (bytes a))) (ap (put_mid a.len (a.len + k - a.len) a.room.now) (sym p) ∙ sym e) (sym l)
    (put_done a.room.now s a.len k q h) in
    record { room_is = n; long = w.long; writes = record { says = w } }

-- s has no room
pub full_for : {a : Text} (s : List ℕ) → length a.room.now - a.len < length s → WritesTo a a (Err (record {})) (push s)
full_for {a} s h = record { room_is = refl; long = refl; writes = record { says = push_full a.room.now s a.len a.fits h } }

-- it is done, or has no room, as the memory and the length say
pub as_done : {a b : Text} {f : Step} → b.room.ghost_name ≡ a.room.ghost_name → Written (length a.room.now) b.room.now b.len (f (bytes a)) → WritesTo a b (Ok tt) f
as_done n w = record { room_is = n; long = w.long; writes = record { says = w } }

pub as_full : {a b : Text} {f : Step} → b.room.ghost_name ≡ a.room.ghost_name → length b.room.now ≡ length a.room.now → Refused (length a.room.now) (f (bytes a)) → WritesTo a b (Err (record {})) f
as_full n l w = record { room_is = n; long = l; writes = record { says = w } }

-- where a function over the memory says that there is no room
pub as_over : {a b : Text} {r : Answer} {f : Step} → b.room.ghost_name ≡ a.room.ghost_name → length b.room.now ≡ length a.room.now → Refused (length a.room.now) (f (bytes a)) → IsErr r → WritesTo a b r f
as_over {a} {b} {r} {f} n l w h = go r h
  where
    go : (r : Answer) → IsErr r → WritesTo a b r f
    go (Ok u) h = absurd (false≢true h)
    go (Err e) h = record { room_is = n; long = l; writes = record { says = w } }

-- the text is made shorter: s is what was read of it
pub cuts : {a b : Text} {s : List ℕ} {n : ℕ} (g : List ℕ → List ℕ) → s ≡ bytes a → Trimmed s n (g s) → b.room.ghost_name ≡ a.room.ghost_name → b.room.now ≡ a.room.now → b.len ≡ n → WritesTo a b (Ok tt) (cut g)
cuts {a} {b} {s} {n} g e t i d l =
    as_done i (subst₂ (λ (x : List ℕ) (k : ℕ). Written (length a.room.now) x k (cut g (bytes a))) (sym d) (sym l) (cut_done g a.room.now a.len n a.fits (subst (λ (x : List ℕ). Trimmed x n (g x)) e t)))

-- two strings, one behind the other
pub pushes_both : {a b c : Text} {q r : Answer} {u : Unit {0}} (x y : List ℕ) → q ≡ Ok u → WritesTo a b q (push x) → WritesTo b c r (push y) → WritesTo a c r (push (x ++ y))
pushes_both {a} x y e v w = as_step (push_both x y (bytes a)) (next e v w)

pub pushes_stop : {a b : Text} {q r : Answer} {f : Full} (x y : List ℕ) → q ≡ Err f → WritesTo a b q (push x) → IsErr r → WritesTo a b r (push (x ++ y))
pushes_stop {a} x y e w h = as_step (push_both x y (bytes a)) (stop (push y) e w h)

-- ---- what is left to be done: whoever writes `rest` on from b answers for `whole` from a
pub record Owes (a b : Text) (rest whole : Step) : Type 0 where
  pub goes : (c : Text) (r : Answer) → WritesTo b c r rest → WritesTo a c r whole

-- at the beginning the whole is left
pub owes_all : (a : Text) (f : Step) → Owes a a f f
owes_all a f = record { goes = λ c r w. w }

module _ {a b : Text} {rest whole : Step} (p : Owes a b rest whole) where
  -- f was the next step, and g comes behind it
  pub owes_step : {c : Text} {q : Answer} {u : Unit {0}} {f : Step} (g : Step) → rest (bytes b) ≡ and_then (f (bytes b)) g → q ≡ Ok u → WritesTo b c q f → Owes a c g whole
  owes_step g e q w = record { goes = λ d r x. p.goes d r (as_step e (next q w x)) }

  pub owes_stop : {c : Text} {q r : Answer} {x : Full} {f : Step} (g : Step) → rest (bytes b) ≡ and_then (f (bytes b)) g → q ≡ Err x → WritesTo b c q f → IsErr r → WritesTo a c r whole
  owes_stop {c} {q} {r} g e q' w h = p.goes c r (as_step e (stop g q' w h))

  -- the last step
  pub owes_last : {c : Text} {r : Answer} {f : Step} → rest (bytes b) ≡ f (bytes b) → WritesTo b c r f → WritesTo a c r whole
  owes_last {c} {r} e w = p.goes c r (as_step e w)

  -- nothing is left
  pub owes_none : rest (bytes b) ≡ keep (bytes b) → WritesTo a b (Ok tt) whole
  owes_none e = owes_last e (kept b)

-- ---- one push after another
module _ {a b : Text} {q : Answer} (x y : List ℕ) where
  pub push_next : {c : Text} {r : Answer} {u : Unit {0}} → q ≡ Ok u → WritesTo a b q (push x) → WritesTo b c r (push y) → WritesTo a c r (push (x ++ y))
  push_next e v w = as_step (push_both x y (bytes a)) (next e v w)

  pub push_stopped : {r : Answer} {f : Full} → q ≡ Err f → WritesTo a b q (push x) → IsErr r → WritesTo a b r (push (x ++ y))
  push_stopped e v h = as_step (push_both x y (bytes a)) (stop (push y) e v h)

-- it has no room, where an answer is an `Err`
pub as_stop : {a b : Text} {r : Answer} {f : Step} → b.room.ghost_name ≡ a.room.ghost_name → length b.room.now ≡ length a.room.now → IsErr r → Refused (length a.room.now) (f (bytes a))
    → WritesTo a b r f
as_stop {a} {b} {r} {f} n l h w = go r h
  where
    go : (r : Answer) → IsErr r → WritesTo a b r f
    go (Ok u) h = absurd (false≢true h)
    go (Err e) h = record { room_is = n; long = l; writes = record { says = w } }
