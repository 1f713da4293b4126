-- Bytes put one behind the other.
use Prim.Native.Nat.{ℕ, zero, suc, ◌+◌, ◌-◌, ◌*◌, ◌≤◌}
use mathlib.Core.Path.{◌≡◌, refl, sym, ap, subst, subst₂, ◌∙◌}
use mathlib.Core.List.{List, [], ◌∷◌, ◌++◌, append_assoc, append-nil}
use native.Mathlib.Omega.{arith}
use lib.ListN.{length, take, drop, replicate, length-append, length-take, length-drop, drop_of_length-le, replicate-append-replicate}
use borrow.Rule.Slice.PartMut.{put_mid, same_len_mid}
use Rattle.std.proofs.lemmas.Slice.{take-put_mid, drop-put_mid}
use lib.Seq.{length-take-le, drop-drop}
use Rattle.spec.specs.Bytes.{Bytes}
use Rattle.text.specs.declared.text.Text.{Text}
use Rattle.text.proofs.Reading.{rest_part}
use Rattle.text.proofs.Temporary.{lent, back}
use Rattle.tables.specs.Puts.{Puts, PutsTo, bar, bars}

-- what is the same from n on is the same from m on
pub drop_later : (a b : List ℕ) (n m : ℕ) → n ≤ m → drop n b ≡ drop n a → drop m b ≡ drop m a
drop_later a b n m l e =
    let k : n + (m - n) ≡ m = omega arith in
    subst (λ (j : ℕ). drop j b ≡ drop j a) k (sym (drop-drop (m - n) n b) ∙ ap (drop (m - n)) e ∙ drop-drop (m - n) n a)

pub puts_none : (d : List ℕ) (len : ℕ) → Puts d d len len []
puts_none d len = record { long = refl; count = omega arith; text_is = sym (append-nil (take len d)); behind = refl }

pub puts_then : {a b c : List ℕ} {len m n : ℕ} {x y : List ℕ} → Puts a b len m x → Puts b c m n y → Puts a c len n (x ++ y)
puts_then {a} {b} {c} {len} {m} {n} {x} {y} p q =
    record {
      long = q.long ∙ p.long;
      count = omega (arith, p.count, q.count, length-append x y);
      text_is = q.text_is ∙ ap (λ (t : List ℕ). t ++ y) p.text_is ∙ append_assoc (take len a) x y;
      behind = q.behind ∙ drop_later a b m n (omega (arith, q.count)) p.behind;
    }

-- the bytes in other words
pub puts_as : {a b : List ℕ} {len m : ℕ} {x y : List ℕ} → x ≡ y → Puts a b len m x → Puts a b len m y
puts_as {a} {b} {len} {m} e p = subst (λ (z : List ℕ). Puts a b len m z) e p

pub part_length : (d : List ℕ) (src n : ℕ) → src + n ≤ length d → length (take n (drop src d)) ≡ n
part_length d src n h = length-take-le n (drop src d) (omega (arith, length-drop src d))

-- what is read behind is as it was
pub puts_behind : {a b : Text} {x : List ℕ} (src : ℕ) → PutsTo a b x → b.len ≤ src → drop src b.room.now ≡ drop src a.room.now
puts_behind {a} {b} src p h = drop_later a.room.now b.room.now b.len src h p.puts.behind

-- the bytes from `len` on are replaced by s, as a write to `text[len..len + k]` leaves them
pub puts_mid : (d s : List ℕ) (len k : ℕ) → k ≡ length s → len + k ≤ length d → Puts d (put_mid len (len + k - len) d s) len (len + k) s
puts_mid d s len k q h =
    record {
      long = same_len_mid len (len + k - len) d s (omega (arith, length-take (len + k - len) (drop len d), length-drop len d));
      count = omega arith;
      text_is = take-put_mid len (len + k - len) d s (len + k) (omega arith) (omega arith);
      behind = drop-put_mid len (len + k - len) d s (len + k) (omega arith) (omega arith) (omega arith);
    }

-- the n bytes at `src` were moved to the front of `text[len..]`, which is ys now
pub puts_moved : (d ys : List ℕ) (len src n i : ℕ) → len ≤ src → src + n ≤ length d → i ≡ n → ys ≡ take i (drop (src - len) (lent d len)) ++ drop i (lent d len)
    → Puts d (back d len ys) len (len + n) (take n (drop src d))
puts_moved d ys len src n i le fits all e =
    let s : List ℕ = take n (drop src d) in
    let k : len + n - len ≡ n = omega arith in
    let at : len + (src - len) ≡ src = omega arith in
    let none : drop (length d - len) (drop len d) ≡ [] = drop_of_length-le (drop len d) {i = length d - len} (omega (arith, length-drop len d)) in
    let part : take n (drop (src - len) (drop len d)) ≡ s = ap (take n) (drop-drop (src - len) len d ∙ ap (λ (j : ℕ). drop j d) at) in
    let is : ys ≡ s ++ drop (len + n - len) (drop len d) =
    e ∙ ap (λ (j : ℕ). take j (drop (src - len) (lent d len)) ++ drop j (lent d len)) all
    ∙ ap (λ (l : List ℕ). take n (drop (src - len) l) ++ drop n l) (rest_part len d)
    ∙ ap (λ (l : List ℕ). l ++ drop n (drop len d)) part ∙ ap (λ (j : ℕ). s ++ drop j (drop len d)) (sym k) in
    subst (λ (l : List ℕ). Puts d l len (len + n) s) (sym (ap (λ (l : List ℕ). take len d ++ (ys ++ l)) none ∙ ap (λ (l : List ℕ). take len d ++ l) (append-nil ys ∙ is)))
    (puts_mid d s len n (sym (part_length d src n fits)) (omega arith))

-- ---- puts to a text

pub puts_next : {a b c : Text} {x y : List ℕ} → PutsTo a b x → PutsTo b c y → PutsTo a c (x ++ y)
puts_next p q = record { room_is = q.room_is ∙ p.room_is; puts = puts_then p.puts q.puts }

pub puts_text : {a b : Text} {x y : List ℕ} → x ≡ y → PutsTo a b x → PutsTo a b y
puts_text e p = record { room_is = p.room_is; puts = puts_as e p.puts }

-- how far the text reaches then
pub puts_end : {a b : Text} {x : List ℕ} → PutsTo a b x → b.len ≡ a.len + length x
puts_end p = p.puts.count

pub puts_long : {a b : Text} {x : List ℕ} → PutsTo a b x → length b.room.now ≡ length a.room.now
puts_long p = p.puts.long

-- ---- a loop that puts `whole`, of which `rest` is left
pub record Due (before now : Text) (rest whole : List ℕ) : Type 0 where
  pub done : List ℕ
  pub puts : PutsTo before now done
  pub whole_is : whole ≡ done ++ rest

pub puts_nothing : (a : Text) → PutsTo a a []
puts_nothing a = record { room_is = refl; puts = puts_none a.room.now a.len }

pub due_all : (a : Text) (x : List ℕ) → Due a a x x
due_all a x = record { done = []; puts = puts_nothing a; whole_is = refl }

module _ {a b : Text} {rest whole : List ℕ} (p : Due a b rest whole) where
  pub due_room : b.len + length rest ≡ a.len + length whole
  due_room = omega (arith, puts_end p.puts, length-append p.done rest, ap length p.whole_is)

  pub due_on : {c : Text} {x y : List ℕ} → rest ≡ x ++ y → PutsTo b c x → Due a c y whole
  due_on {c} {x} {y} e q =
      record {
        done = p.done ++ x;
        puts = puts_next p.puts q;
        whole_is = p.whole_is ∙ ap (λ (z : List ℕ). p.done ++ z) e ∙ sym (append_assoc p.done x y);
      }

  -- in other words
  pub due_as : {c : Text} {x : List ℕ} → c ≡ b → rest ≡ x → Due a c x whole
  due_as {c} {x} q e = subst₂ (λ (t : Text) (r : List ℕ). Due a t r whole) (sym q) e p

  pub due_done : rest ≡ [] → PutsTo a b whole
  due_done e = puts_text (sym (p.whole_is ∙ ap (λ (z : List ℕ). p.done ++ z) e ∙ append-nil p.done)) p.puts

-- ---- cells

pub bar_is : (x : Bytes) → (32 ∷ []) ++ (x ++ (32 ∷ 124 ∷ [])) ≡ bar x
unfolding bar
bar_is x = refl

pub length_bar : (x : Bytes) → length (bar x) ≡ length x + 3
unfolding bar
length_bar x = omega (arith, length-append x (32 ∷ 124 ∷ []))

pub bars_both : (xs ys : List Bytes) → bars (xs ++ ys) ≡ bars xs ++ bars ys
unfolding bars
bars_both [] ys = refl
bars_both (x ∷ xs) ys = ap (λ (z : Bytes). bar x ++ z) (bars_both xs ys) ∙ sym (append_assoc (bar x) (bars xs) (bars ys))

bars_one : (x : Bytes) → bars (x ∷ []) ≡ bar x
unfolding bars
bars_one x = append-nil (bar x)

-- one more at the end
pub bars_more : (x : Bytes) (n : ℕ) → bars (replicate n x) ++ bar x ≡ bars (replicate (n + 1) x)
bars_more x n =
    ap (λ (z : Bytes). bars (replicate n x) ++ z) (sym (bars_one x)) ∙ sym (bars_both (replicate n x) (x ∷ []))
    ∙ ap bars (replicate-append-replicate n 1 x)

pub length_bars_bytes : (b n : ℕ) → length (bars (replicate n (b ∷ []))) ≡ 4 * n
unfolding bars
length_bars_bytes b zero = refl
length_bars_bytes b (suc n) = omega (arith, length-append (bar (b ∷ [])) (bars (replicate n (b ∷ []))), length_bar (b ∷ []), length_bars_bytes b n)
