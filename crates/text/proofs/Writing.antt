-- How the answers of functions that write go together.
use Prim.Native.Nat.{ℕ, ◌≤◌}
use mathlib.Core.Path.{◌≡◌, refl, sym, ap, subst, subst₂}
use mathlib.Core.Bool.{Bool, true, false, cond, false≢true}
use mathlib.Core.List.{List, [], ◌++◌, append_assoc, append-nil}
use native.Mathlib.Omega.{arith}
use lib.ListN.{length, take, length-append, length-take}
use lib.Seq.{length-take-le}
use Rattle.spec.specs.Out.{Out, Step, and_then, keep, push}
use Rattle.text.specs.Writes.{Written, Refused, Says, Writes, Wrote}
use Rattle.std.specs.Prelude.{Ok, Err}
use Rattle.std.specs.Result.{IsErr}
use Rattle.text.specs.declared.buffer.Full.{Full}

-- what a test chooses
pub yes : {A : Type 0} {b : Bool} (x y : A) → b ≡ true → cond b x y ≡ x
yes {A} {b} x y e = ap (λ (t : Bool). cond t x y) e

pub no : {A : Type 0} {b : Bool} (x y : A) → b ≡ false → cond b x y ≡ y
no {A} {b} x y e = ap (λ (t : Bool). cond t x y) e

-- what an answer says in the arm of a `match` that has it
pub done : {room : ℕ} {after : List ℕ} {r : Wrote} {n : ℕ} {o : Out} → r ≡ Ok n → Writes room after r o → Written room after n o
done {room} {after} {r} {n} {o} e w = subst (λ (x : Wrote). Says room after x o) e w.says

pub full : {room : ℕ} {after : List ℕ} {r : Wrote} {e : Full} {o : Out} → r ≡ Err e → Writes room after r o → Refused room o
full {room} {after} {r} {e} {o} q w = subst (λ (x : Wrote). Says room after x o) q w.says

-- an answer stays one for an equal outcome
pub alike : {room : ℕ} {after : List ℕ} {r : Wrote} {o p : Out} → o ≡ p → Writes room after r p → Writes room after r o
alike {room} {after} {r} {o} {p} e w = subst (λ (x : Out). Writes room after r x) (sym e) w

-- an outcome stays one for an equal answer
pub alike_answer : {room : ℕ} {after : List ℕ} {r s : Wrote} {o : Out} → r ≡ s → Writes room after s o → Writes room after r o
alike_answer {room} {after} {r} {s} {o} e w = subst (λ (x : Wrote). Writes room after x o) (sym e) w

-- where `?` returns early
pub stops : {room : ℕ} {after : List ℕ} {s : Wrote} {o : Out} → IsErr s → Writes room after (Err (record {})) o → Writes room after s o
stops {room} {after} {s} {o} h w = go s h
  where
    go : (s : Wrote) → IsErr s → Writes room after s o
    go (Ok n) h = absurd (false≢true h)
    go (Err e) h = w

-- ---- sequencing

pub then_done : {room : ℕ} {mid after : List ℕ} {n m : ℕ} {o : Out} (f : Step) → Written room mid n o → Written room after m (f (take n mid)) → Written room after m (and_then o f)
unfolding and_then
then_done {room} {mid} {after} {n} {m} {o} f w x =
    let y : Written room after m (f o.text) = subst (λ (t : List ℕ). Written room after m (f t)) w.text_is x in
    record { long = y.long; fits = omega (arith, w.fits, y.fits); count = y.count; text_is = y.text_is }

pub then_full : {room : ℕ} {mid : List ℕ} {n : ℕ} {o : Out} (f : Step) → Written room mid n o → Refused room (f (take n mid)) → Refused room (and_then o f)
unfolding and_then
then_full {room} {mid} {n} {o} f w x =
    let y : Refused room (f o.text) = subst (λ (t : List ℕ). Refused room (f t)) w.text_is x in
    record { over = omega (arith, y.over) }

pub then : {room : ℕ} {mid after : List ℕ} {n : ℕ} {o : Out} {r : Wrote} (f : Step) → Written room mid n o → Writes room after r (f (take n mid)) → Writes room after r (and_then o f)
then {room} {mid} {after} {n} {o} {r} f w x = record { says = go r x.says }
  where
    go : (r : Wrote) → Says room after r (f (take n mid)) → Says room after r (and_then o f)
    go (Ok m) y = then_done f w y
    go (Err _) y = then_full f w y

-- a refusal on the way is a refusal of the whole
pub refused : {room : ℕ} {o : Out} (f : Step) → Refused room o → Refused room (and_then o f)
unfolding and_then
refused f h = record { over = omega (arith, h.over) }

-- what is written stands in the memory
pub reaches : {room : ℕ} {after : List ℕ} {n : ℕ} {o : Out} → Written room after n o → n ≤ length after
reaches {room} {after} {n} {o} w = omega (arith, length-take n after, w.count, ap length w.text_is)

-- ---- what is left to be done: whoever writes `rest` behind the first n bytes of `mid` answers for `whole`
pub record Owes (room : ℕ) (mid : List ℕ) (n : ℕ) (rest : Step) (whole : Out) : Type 0 where
  pub long : length mid ≡ room
  pub reach : n ≤ length mid
  pub goes : (after : List ℕ) (r : Wrote) → Writes room after r (rest (take n mid)) → Writes room after r whole

-- at the beginning the whole is left
pub owes_all : (d : List ℕ) (len : ℕ) (rest : Step) {whole : Out} → len ≤ length d → whole ≡ rest (take len d) → Owes (length d) d len rest whole
owes_all d len rest {whole} h e = record { long = refl; reach = h; goes = λ after r w. alike e w }

module _ {room : ℕ} {mid : List ℕ} {n : ℕ} {rest : Step} {whole : Out} (p : Owes room mid n rest whole) where
  -- the last step
  pub owes_last : {after : List ℕ} {r : Wrote} → Writes (length mid) after r (rest (take n mid)) → Writes room after r whole
  owes_last {after} {r} w = p.goes after r (subst (λ (k : ℕ). Writes k after r (rest (take n mid))) p.long w)

  -- f is a step of what is left, and g comes behind it
  module _ (f g : Step) (e : rest (take n mid) ≡ and_then (f (take n mid)) g) where
    pub owes_on : {after : List ℕ} {m : ℕ} → Written (length mid) after m (f (take n mid)) → Owes room after m g whole
    owes_on {after} {m} w =
        let v : Written room after m (f (take n mid)) = subst (λ (k : ℕ). Written k after m (f (take n mid))) p.long w in
        record {
          long = v.long;
          reach = reaches v;
          goes = λ after r x. p.goes after r (alike e (then g v x));
        }

    pub owes_over : {after : List ℕ} {y : Full} → Refused (length mid) (f (take n mid)) → Writes room after (Err y) whole
    owes_over {after} {y} w =
        let v : Refused room (f (take n mid)) = subst (λ (k : ℕ). Refused k (f (take n mid))) p.long w in
        p.goes after (Err y) (alike e (record { says = refused g v }))

    pub owes_step : {after : List ℕ} {m : ℕ} {r : Wrote} → r ≡ Ok m → Writes (length mid) after r (f (take n mid)) → Owes room after m g whole
    owes_step q w = owes_on (done q w)

    pub owes_stop : {after z : List ℕ} {r : Wrote} {x y : Full} → r ≡ Err x → Writes (length mid) after r (f (take n mid)) → Writes room z (Err y) whole
    owes_stop q w = owes_over (full q w)

-- nothing is left
pub keeps : (d : List ℕ) (n : ℕ) → n ≤ length d → Written (length d) d n (keep (take n d))
unfolding keep
keeps d n h = record { long = refl; fits = omega arith; count = sym (length-take-le n d h); text_is = refl }

pub keeps_nothing : (d : List ℕ) (n : ℕ) → n ≤ length d → Written (length d) d n (push [] (take n d))
unfolding push
keeps_nothing d n h =
    let l : length (take n d) ≡ n = length-take-le n d h in
    record { long = refl; fits = omega arith; count = omega (arith, length-append (take n d) []); text_is = sym (append-nil (take n d)) }

pub owes_none : {room : ℕ} {mid : List ℕ} {n : ℕ} {rest : Step} {whole : Out} → Owes room mid n rest whole → rest (take n mid) ≡ keep (take n mid)
    → Writes room mid (Ok n) whole
owes_none {room} {mid} {n} p e = owes_last p (alike e (record { says = keeps mid n p.reach }))

-- ---- steps in equal forms

pub same_out : {a b : List ℕ} {p q : ℕ} → a ≡ b → p ≡ q → ◌≡◌ {A = Out} (record { text = a; peak = p }) (record { text = b; peak = q })
same_out {a} {b} {p} {q} e f = subst₂ (λ (x : List ℕ) (k : ℕ). ◌≡◌ {A = Out} (record { text = a; peak = p }) (record { text = x; peak = k })) e f refl

pub push_both : (x y t : List ℕ) → push (x ++ y) t ≡ and_then (push x t) (push y)
unfolding push and_then
push_both x y t = same_out (sym (append_assoc t x y)) (omega (arith, length-append x y, length-append t x))

pub keep_then : (t : List ℕ) (f : Step) → and_then (keep t) f ≡ f t
unfolding keep and_then
keep_then t f = same_out refl (omega arith)

pub then_assoc : (o : Out) (f g : Step) → and_then (and_then o f) g ≡ and_then o (λ t. and_then (f t) g)
unfolding and_then
then_assoc o f g = same_out refl (omega arith)
