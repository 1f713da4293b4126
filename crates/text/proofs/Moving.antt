-- Bytes moved within a text, and a byte put into it.
use Prim.Native.Nat.{ℕ, suc, ◌+◌, ◌-◌, ◌≤◌, ◌<◌}
use mathlib.Core.Path.{◌≡◌, sym, ap, ◌∙◌}
use mathlib.Core.List.{List, [], ◌∷◌, ◌++◌, append_assoc}
use native.Mathlib.Numerals.{add-one}
use native.Mathlib.Omega.{arith}
use lib.ListN.{length, take, drop, set, get_or, length-set, length-take, length-drop, length-append, take-append-drop, drop_of_length-le, get_or-append}
use Rattle.std.proofs.lemmas.List.{get_or-append_right}
use lib.Seq.{length-take-le, take-take, take-suc, take_at, drop_at, drop-drop, set_at, set_split, take-append-add, drop-cons, get_or-take, get_or-drop}
use Rattle.spec.specs.Out.{replace}
use Rattle.text.specs.Writes.{Written, Refused}
use Rattle.text.proofs.Reading.{drop_take}
use Rattle.text.specs.Lifted.{Lifted}

-- ---- moved to the front, the first byte first

pub moved_on : (d text : List ℕ) (from i : ℕ) → from + i < length d → text ≡ take i (drop from d) ++ drop i d
    → set text i (get_or text (from + i) 0) ≡ take (i + 1) (drop from d) ++ drop (i + 1) d
moved_on d text from i lt e =
    let s : List ℕ = drop from d in
    let within : i < length d = omega arith in
    let long : length (take i s) ≡ i = length-take-le i s (omega (arith, length-drop from d)) in
    let at : i + (from + i - i) ≡ from + i = omega arith in
    let x : get_or (take i s ++ drop i d) (from + i) 0 ≡ get_or s i 0 =
    get_or-append_right (take i s) (drop i d) i (from + i) 0 long (omega arith) ∙ get_or-drop i d (from + i - i) 0
    ∙ ap (λ (k : ℕ). get_or d k 0) at ∙ sym (get_or-drop from d i 0) in
    rw (e, x, add-one, drop-cons d i 0)
    (set_at (take i s) (get_or d i 0) (drop (suc i) d) (get_or s i 0) i long
    ∙ sym (append_assoc (take i s) (get_or s i 0 ∷ []) (drop (suc i) d))
    ∙ ap (λ (l : List ℕ). l ++ drop (suc i) d) (sym (take-suc s i 0 (omega (arith, length-drop from d)))))

-- ---- moved up, the last byte first: those from i on are moved

module _ (d : List ℕ) (from n to : ℕ) where
  abbrev pub raised : ℕ → List ℕ
  raised i = take (to + i) d ++ (drop i (take n (drop from d)) ++ drop (to + n) d)

  pub raised_none : d ≡ raised n
  raised_none =
      sym (ap (λ (l : List ℕ). take (to + n) d ++ (l ++ drop (to + n) d)) (drop_of_length-le (take n (drop from d)) {i = n} (omega (arith, length-take n (drop from d))))
      ∙ take-append-drop (to + n) d)

  module _ (le : from ≤ to) (fits : to + n ≤ length d) (text : List ℕ) where
    long : length (take n (drop from d)) ≡ n
    long = length-take-le n (drop from d) (omega (arith, length-drop from d))

    pub raised_on : (i : ℕ) → 0 < i → i ≤ n → text ≡ raised i → set text (to + (i - 1)) (get_or text (from + (i - 1)) 0) ≡ raised (i - 1)
    raised_on i pos within e =
        let j : ℕ = i - 1 in
        let part : List ℕ = take n (drop from d) in
        let rest : List ℕ = drop i part ++ drop (to + n) d in
        let at : to + i ≡ suc (to + j) = omega arith in
        let next : suc j ≡ i = omega arith in
        let x : get_or (raised i) (from + j) 0 ≡ get_or part j 0 =
        get_or-append (take (to + i) d) rest 0 (from + j) (omega (arith, length-take (to + i) d)) ∙ get_or-take (to + i) d (from + j) 0 (omega arith)
        ∙ sym (get_or-drop from d j 0) ∙ sym (get_or-take n (drop from d) j 0 (omega arith)) in
        let front : raised i ≡ take (to + j) d ++ (get_or d (to + j) 0 ∷ rest) =
        ap (λ (l : List ℕ). l ++ rest) (ap (λ (k : ℕ). take k d) at ∙ take-suc d (to + j) 0 (omega arith)) ∙ append_assoc (take (to + j) d) (get_or d (to + j) 0 ∷ []) rest in
        let behind : get_or part j 0 ∷ drop i part ≡ drop j part =
        ap (λ (k : ℕ). get_or part j 0 ∷ drop k part) (sym next) ∙ sym (drop-cons part j 0 (omega (arith, long))) in
        rw (e, x, front)
        (set_at (take (to + j) d) (get_or d (to + j) 0) rest (get_or part j 0) (to + j) (length-take-le (to + j) d (omega arith))
        ∙ ap (λ (l : List ℕ). take (to + j) d ++ (l ++ drop (to + n) d)) behind)

    pub raised_all : (i : ℕ) → i ≤ 0 → text ≡ raised i → Lifted d text from n to
    raised_all i none e =
        let part : List ℕ = take n (drop from d) in
        let zero : i ≡ 0 = omega arith in
        let at : to + 0 ≡ to = omega arith in
        let before : length (take to d) ≡ to = length-take-le to d (omega arith) in
        let is : text ≡ take to d ++ (part ++ drop (to + n) d) =
        e ∙ ap raised zero ∙ ap (λ (k : ℕ). take k d ++ (part ++ drop (to + n) d)) at in
        let behind : drop to text ≡ part ++ drop (to + n) d = ap (drop to) is ∙ drop_at (take to d) (part ++ drop (to + n) d) to before in
        record {
          long = omega (arith, ap length is, length-append (take to d) (part ++ drop (to + n) d), length-append part (drop (to + n) d), length-drop (to + n) d, before, long);
          kept = ap (take to) is ∙ take_at (take to d) (part ++ drop (to + n) d) to before;
          moved = ap (take n) behind ∙ take_at part (drop (to + n) d) n long;
          behind = sym (drop-drop n to text) ∙ ap (drop n) behind ∙ drop_at part (drop (to + n) d) n long;
        }

-- ---- a byte put between

module _ (d : List ℕ) (len at b : ℕ) (h : at ≤ len) (k : len ≤ length d) where
  wider : length (take at (take len d) ++ (b ∷ drop at (take len d))) ≡ len + 1
  wider =
      omega
      (arith, length-append (take at (take len d)) (b ∷ drop at (take len d)), length-take-le at (take len d) (omega (arith, length-take-le len d k)), length-drop at (take len d), length-take-le len d k)

  pub insert_full : len ≡ length d → Refused (length d) (replace (λ t. take at t ++ (b ∷ drop at t)) (take len d))
  unfolding replace
  insert_full e = record { over = omega (arith, wider) }

  pub insert_done : (e : List ℕ) → (len ≡ length d → ⊥) → Lifted d e at (len - at) (at + 1)
      → Written (length d) (set e at b) (len + 1) (replace (λ t. take at t ++ (b ∷ drop at t)) (take len d))
  unfolding replace
  insert_done e ne p =
      let q : at < length e = omega (arith, p.long) in
      let front : take at e ≡ take at (take len d) =
      sym (take-take at (at + 1) e (omega arith)) ∙ ap (take at) p.kept ∙ take-take at (at + 1) d (omega arith) ∙ sym (take-take at len d h) in
      let behind : take (len - at) (drop (at + 1) e) ≡ drop at (take len d) = p.moved ∙ sym (drop_take at len d) in
      let m : len + 1 ≡ at + suc (len - at) = omega arith in
      record {
        long = length-set e at b ∙ p.long;
        fits = omega (arith, wider);
        count = sym wider;
        text_is =
            ap (λ (l : List ℕ). take (len + 1) l) (set_split e at b q)
            ∙ ap (λ (j : ℕ). take j (take at e ++ (b ∷ drop (suc at) e))) (m ∙ ap (λ (j : ℕ). j + suc (len - at)) (sym (length-take-le at e (omega arith))))
            ∙ take-append-add (take at e) (b ∷ drop (suc at) e) (suc (len - at))
            ∙ ap (λ (l : List ℕ). l ++ (b ∷ take (len - at) (drop (suc at) e))) front
            ∙ ap (λ (l : List ℕ). take at (take len d) ++ (b ∷ l)) (ap (λ (j : ℕ). take (len - at) (drop j e)) (sym (add-one at)) ∙ behind);
      }
