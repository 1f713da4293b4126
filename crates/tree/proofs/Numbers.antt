-- Numbers of several bytes in memory: reading them, and storing them.
use Prim.Native.Nat.{ℕ, ◌+◌, ◌≤◌, ◌<◌}
use native.Mathlib.Omega.{arith}
use mathlib.Core.Path.{◌≡◌, ◌∙◌}
use lib.ListN.{length, get_or}
use Rattle.spec.specs.Bytes.{Bytes}
use Rattle.spec.specs.Fields.{word}
use Rattle.std.specs.Int.{w64, from_le_bytes, to_le_bytes}
use Rattle.std.proofs.Common.{add-zero, mul_assoc, add_assoc, pow-suc, zero, suc, refl, sym, ◌∙◌, ap, length-drop, length-append, zero-add, zero-mul, suc-mul, ◌*◌, ◌-◌, ◌^◌, ◌++◌, drop, take, replicate}
use Rattle.std.proofs.lemmas.List.{get_or_append_left, get_or-append_right, get_or-take, get_or-drop}
use Rattle.std.proofs.lemmas.Nat.{from_le_bytes-to_le_bytes_8}
use lib.Seq.{length-take-le, drop-drop}
use borrow.Rule.Slice.PartMut.{put_mid}
use Rattle.tree.specs.Memory.{number_in, word_at, quad_at, long_at, Stored}

-- the w bytes at j are the same
abbrev pub Agree : Bytes → Bytes → ℕ → ℕ → Type 0
Agree a b j w = (i : ℕ) → j ≤ i → i < j + w → get_or b i 0 ≡ get_or a i 0

pub word_same : (a b : Bytes) (j : ℕ) → Agree a b j 2 → word_at b j ≡ word_at a j
unfolding word_at word
word_same a b j g =
    let p : get_or b j 0 ≡ get_or a j 0 = g j (omega arith) (omega arith) in
    let q : get_or b (j + 1) 0 ≡ get_or a (j + 1) 0 = g (j + 1) (omega arith) (omega arith) in
    cc

pub quad_same : (a b : Bytes) (j : ℕ) → Agree a b j 4 → quad_at b j ≡ quad_at a j
unfolding quad_at
quad_same a b j g =
    let p : word_at b j ≡ word_at a j = word_same a b j (λ i l h. g i l (omega arith)) in
    let q : word_at b (j + 2) ≡ word_at a (j + 2) = word_same a b (j + 2) (λ i l h. g i (omega arith) (omega arith)) in
    cc

-- ---- the number in n bytes

number_same : (n : ℕ) (a b : Bytes) (i j : ℕ) → ((k : ℕ) → k < n → get_or a (i + k) 0 ≡ get_or b (j + k) 0) → number_in n a i ≡ number_in n b j
unfolding number_in
number_same zero a b i j h = refl
number_same (suc n) a b i j h =
    let p : get_or a i 0 ≡ get_or b j 0 = simp add-zero at (h 0 (omega arith)) in
    let q : number_in n a (i + 1) ≡ number_in n b (j + 1) =
    number_same n a b (i + 1) (j + 1) (λ k l. rw (add_assoc i 1 k, add_assoc j 1 k) (h (1 + k) (omega arith))) in
    cc

number_zero : (n : ℕ) (x : Bytes) (j : ℕ) → ((k : ℕ) → j ≤ k → get_or x k 0 ≡ 0) → number_in n x j ≡ 0
unfolding number_in
number_zero zero x j h = refl
number_zero (suc n) x j h = omega (arith, h j (omega arith), number_zero n x (j + 1) (λ k l. h k (omega arith)))

number_low : (n : ℕ) (x : Bytes) (j : ℕ) → ((k : ℕ) → get_or x k 0 < 256) → number_in n x j < 256 ^ n
unfolding number_in
number_low zero x j h = omega arith
number_low (suc n) x j h = omega (arith, pow-suc 256 n, h j, number_low n x (j + 1) h)

-- the first n of t bytes, and those behind them
number_split : (n t : ℕ) (x : Bytes) (j : ℕ) → n ≤ t → number_in t x j ≡ number_in n x j + number_in (t - n) x (j + n) * 256 ^ n
unfolding number_in
number_split zero t x j l =
    let d : t - 0 ≡ t = omega arith in
    let e : j + 0 ≡ j = omega arith in
    rw (d, e) (omega arith)
number_split (suc n) zero x j l = absurd (omega arith)
number_split (suc n) (suc t) x j l =
    let d : suc t - suc n ≡ t - n = omega arith in
    let e : j + suc n ≡ j + 1 + n = omega arith in
    let m : number_in (suc t - suc n) x (j + suc n) * 256 ^ suc n ≡ number_in (t - n) x (j + 1 + n) * 256 ^ n * 256 =
    rw (d, e, pow-suc 256 n) (sym (mul_assoc (number_in (t - n) x (j + 1 + n)) (256 ^ n) 256)) in
    omega (arith, number_split n t x (j + 1) (omega arith), m)

-- ---- the laws of words, quads and longs

pub word_is : (m : Bytes) (j : ℕ) → number_in 2 m j ≡ word_at m j
unfolding number_in word_at word
word_is m j = omega arith

pub quad_is : (m : Bytes) (j : ℕ) → number_in 4 m j ≡ quad_at m j
unfolding quad_at
quad_is m j = omega (arith, number_split 2 4 m j (omega arith), word_is m j, word_is m (j + 2))

pub long_is : (m : Bytes) (j : ℕ) → number_in 8 m j ≡ long_at m j
unfolding long_at
long_is m j = omega (arith, number_split 4 8 m j (omega arith), quad_is m j, quad_is m (j + 4))

-- what is stored as a number in so many bytes is stored as a word, a quad or a long
stored_as : (n : ℕ) (as_read : Bytes → ℕ → ℕ) → ((m : Bytes) (i : ℕ) → number_in n m i ≡ as_read m i) → {w j v : ℕ} {a b : Bytes}
    → Stored (number_in n) w j v a b → Stored as_read w j v a b
stored_as n as_read law {w} {j} {v} {a} {b} s =
    record { same_long = s.same_long; value = sym (law b j) ∙ s.value; before = s.before; behind = s.behind }

pub stored_word : {w j v : ℕ} {a b : Bytes} → Stored (number_in 2) w j v a b → Stored word_at w j v a b
stored_word s = stored_as 2 word_at word_is s

pub stored_quad : {w j v : ℕ} {a b : Bytes} → Stored (number_in 4) w j v a b → Stored quad_at w j v a b
stored_quad s = stored_as 4 quad_at quad_is s

pub stored_long : {w j v : ℕ} {a b : Bytes} → Stored (number_in 8) w j v a b → Stored long_at w j v a b
stored_long s = stored_as 8 long_at long_is s

-- ---- reading

le_number : (x : Bytes) → from_le_bytes w64 x ≡ number_in 8 x 0
unfolding number_in
le_number x = omega arith

zero_read : (n k : ℕ) → get_or (replicate {A = ℕ} n 0) k 0 ≡ 0
zero_read zero k = refl
zero_read (suc n) zero = refl
zero_read (suc n) (suc k) = zero_read n k

module _ (n j : ℕ) (ns ys : Bytes) (l : j + n ≤ length ns) (m : n ≤ 8) (e : ys ≡ take (j + n - j) (drop j ns)) where
  here : ys ≡ take n (drop j ns)
  here = let d : j + n - j ≡ n = omega arith in rw d at e

  long_here : length ys ≡ n
  long_here = omega (arith, ap length here, length-take-le n (drop j ns) (omega (arith, length-drop j ns)))

  pub read_is : from_le_bytes w64 (ys ++ drop n (replicate 8 0)) ≡ number_in n ns j
  read_is =
      let zs : Bytes = replicate 8 0 in
      let x : Bytes = ys ++ drop n zs in
      let i : length ys ≡ n = long_here in
      let f : (k : ℕ) → k < n → get_or x (0 + k) 0 ≡ get_or ns (j + k) 0 =
      λ k o. rw (zero-add k) (get_or_append_left ys (drop n zs) 0 k (omega arith) ∙ ap (λ (z : Bytes). get_or z k 0) here ∙ get_or-take n (drop j ns) k 0 o ∙ get_or-drop j ns k 0) in
      let g : (k : ℕ) → 0 + n ≤ k → get_or x k 0 ≡ 0 =
      λ k o. get_or-append_right ys (drop n zs) n k 0 i (omega arith) ∙ get_or-drop n zs (k - n) 0 ∙ zero_read 8 (n + (k - n)) in
      let z : number_in (8 - n) x (0 + n) ≡ 0 = number_zero (8 - n) x (0 + n) g in
      let q : number_in n x 0 ≡ number_in n ns j = number_same n x ns 0 j f in
      le_number x ∙ number_split n 8 x 0 m ∙ rw z (omega (arith, q))

pub read_low : (n j : ℕ) (ns : Bytes) → ((k : ℕ) → get_or ns k 0 < 256) → number_in n ns j < 256 ^ n
read_low n j ns h = number_low n ns j h

-- ---- storing

stored_number : (n v : ℕ) → n ≤ 8 → v < 2 ^ 64 → v < 256 ^ n → number_in n (to_le_bytes w64 v) 0 ≡ v
stored_number n v m f l =
    let x : Bytes = to_le_bytes w64 v in
    let p : number_in n x 0 + number_in (8 - n) x (0 + n) * 256 ^ n ≡ v =
    sym (number_split n 8 x 0 m) ∙ sym (le_number x) ∙ from_le_bytes-to_le_bytes_8 v f in
    p_none (number_in n x 0) (number_in (8 - n) x (0 + n)) (256 ^ n) v p l
  where
    p_none : (a r b v : ℕ) → a + r * b ≡ v → v < b → a ≡ v
    p_none a zero b v e l = omega (arith, zero-mul b)
    p_none a (suc r) b v e l = absurd (omega (arith, suc-mul r b))

module _ (n j v : ℕ) (ns ys : Bytes) (l : j + n ≤ length ns) (m : n ≤ 8) (f : v < 2 ^ 64) (low : v < 256 ^ n) (e : ys ≡ take n (to_le_bytes w64 v)) where
  long_stored : length ys ≡ n
  long_stored = omega (arith, ap length e, length-take-le n (to_le_bytes w64 v) m)

  -- ys in the place of the n bytes at j
  pub stored_is : Stored (number_in n) n j v ns (put_mid j (j + n - j) ns ys)
  stored_is =
      let b : Bytes = put_mid j (j + n - j) ns ys in
      let d : j + (j + n - j) ≡ j + n = omega arith in
      let w : b ≡ take j ns ++ (ys ++ drop (j + n) ns) = ap (λ (x : Bytes). take j ns ++ (ys ++ x)) (drop-drop (j + n - j) j ns ∙ ap (λ (k : ℕ). drop k ns) d) in
      let i : length ys ≡ n = long_stored in
      let t : length (take j ns) ≡ j = length-take-le j ns (omega arith) in
      let rest : Bytes = ys ++ drop (j + n) ns in
      let q : (k : ℕ) → k < n → get_or b (j + k) 0 ≡ get_or (to_le_bytes w64 v) (0 + k) 0 =
      λ k o.
      let z : j + k - j ≡ k = omega arith in
      ap (λ (x : Bytes). get_or x (j + k) 0) w ∙ get_or-append_right (take j ns) rest j (j + k) 0 t (omega arith)
      ∙ rw (z, zero-add k) (get_or_append_left ys (drop (j + n) ns) 0 k (omega arith) ∙ ap (λ (x : Bytes). get_or x k 0) e ∙ get_or-take n (to_le_bytes w64 v) k 0 o) in
      record {
        same_long = ap length w ∙ omega (arith, length-append (take j ns) rest, length-append ys (drop (j + n) ns), length-drop (j + n) ns);
        value = number_same n b (to_le_bytes w64 v) j 0 q ∙ stored_number n v m f low;
        before = λ k o. ap (λ (x : Bytes). get_or x k 0) w ∙ get_or_append_left (take j ns) rest 0 k (omega arith) ∙ get_or-take j ns k 0 o;
        behind = λ k o.
            let z : j + n + (k - j - n) ≡ k = omega arith in
            ap (λ (x : Bytes). get_or x k 0) w ∙ get_or-append_right (take j ns) rest j k 0 t (omega arith)
            ∙ get_or-append_right ys (drop (j + n) ns) n (k - j) 0 i (omega arith) ∙ get_or-drop (j + n) ns (k - j - n) 0 ∙ ap (λ (x : ℕ). get_or ns x 0) z;
      }
