-- Pipes escaped in place: the bytes move up from the last on.
use Prim.Native.Nat.{ℕ, zero, suc, ◌+◌, ◌-◌, ◌≤◌, ◌<◌}
use mathlib.Core.Path.{◌≡◌, refl, sym, ap, subst, ◌∙◌}
use mathlib.Core.Bool.{Bool, true, false, cond, not, ◌&&◌}
use mathlib.Core.List.{List, [], ◌∷◌, ◌++◌, append_assoc, map-id}
use native.Mathlib.Omega.{arith}
use native.Mathlib.Numerals.{add-one}
use lib.ListN.{length, take, drop, get_or, length-append}
use lib.Seq.{length-take-le, take-take, take_at, get_or-take}
use lib.Dec.{eqb}
use Rattle.std.proofs.lemmas.List.FromFn.{filter_of_map_range_with_len_more}
use Rattle.std.specs.List.{range_with_len}
use Rattle.std.specs.Prelude.{filter}
use Rattle.spec.specs.Bytes.{ascii, same, ends_with}
use Rattle.spec.specs.Out.{replace}
use Rattle.spec.specs.Md.Elements.Emphasis.{drop_end}
use Rattle.spec.specs.Md.Elements.Table.{pipes_escaped}
use Rattle.marks.specs.Pipes.{bare_pipe, escaped_byte, PutBefore}
use Rattle.text.specs.Writes.{Written, Refused}
use Rattle.text.proofs.Reading.{ends_byte}

-- ---- one byte more

-- a backslash stands before the byte at j; `before` says so of the first byte
abbrev behind : Bool → List ℕ → ℕ → Bool
behind before s zero = before
behind before s (suc k) = eqb (get_or s k 0) 92

shift : (before : Bool) (x : ℕ) (s : List ℕ) (j : ℕ) → behind (eqb x 92) s j ≡ behind before (x ∷ s) (suc j)
shift before x s zero = refl
shift before x s (suc k) = refl

snoc : (before : Bool) (s : List ℕ) (j : ℕ) → j < length s
    → pipes_escaped before (take (suc j) s) ≡ pipes_escaped before (take j s) ++ escaped_byte (eqb (get_or s j 0) 124 && not (behind before s j)) (get_or s j 0)
unfolding pipes_escaped
snoc before [] j h = absurd (omega arith)
snoc before (x ∷ s) zero h = refl
snoc before (x ∷ s) (suc j) h =
    let lead : List ℕ = cond (eqb x 124 && not before) (ascii "\\") [] in
    ap (λ (l : List ℕ). lead ++ (x ∷ l))
    (snoc (eqb x 92) s j (omega arith)
    ∙ ap (λ (t : Bool). pipes_escaped (eqb x 92) (take j s) ++ escaped_byte (eqb (get_or s j 0) 124 && not t) (get_or s j 0)) (shift before x s j))
    ∙ sym (append_assoc lead (x ∷ pipes_escaped (eqb x 92) (take j s)) _)

ends_at : (s : List ℕ) (k b : ℕ) → k < length s → ends_with (b ∷ []) (take (suc k) s) ≡ eqb (get_or s k 0) b
ends_at s k b h =
    let l : length (take (suc k) s) ≡ suc k = length-take-le (suc k) s (omega arith) in
    let q : length (take (suc k) s) - 1 ≡ k = omega arith in
    sym (ends_byte (take (suc k) s) b (λ z. omega arith)) ∙ ap (λ (n : ℕ). eqb (get_or (take (suc k) s) n 0) b) q ∙ ap (λ (x : ℕ). eqb x b) (get_or-take (suc k) s k 0 (omega arith))

behind_is : (s : List ℕ) (j : ℕ) → j ≤ length s → ends_with (ascii "\\") (take j s) ≡ behind false s j
unfolding ends_with same
behind_is s zero h = refl
behind_is s (suc k) h = ends_at s k 92 (omega arith)

bare_is : (s : List ℕ) (j : ℕ) → j < length s → bare_pipe (take (suc j) s) ≡ eqb (get_or s j 0) 124 && not (behind false s j)
unfolding drop_end
bare_is s j h =
    let l : length (take (suc j) s) ≡ suc j = length-take-le (suc j) s (omega arith) in
    let q : length (take (suc j) s) - 1 ≡ j = omega arith in
    let e : take (length (take (suc j) s) - 1) (take (suc j) s) ≡ take j s = ap (λ (n : ℕ). take n (take (suc j) s)) q ∙ take-take j (suc j) s (omega arith) in
    rw (ends_at s j 124 h, e, behind_is s j (omega arith))

pipes_on : (s : List ℕ) (i j : ℕ) → i ≡ suc j → i ≤ length s → pipes_escaped false (take i s) ≡ pipes_escaped false (take j s) ++ escaped_byte (bare_pipe (take i s)) (get_or s j 0)
pipes_on s i j e h =
    subst (λ (k : ℕ). pipes_escaped false (take k s) ≡ pipes_escaped false (take j s) ++ escaped_byte (bare_pipe (take k s)) (get_or s j 0)) (sym e)
    (snoc false s j (omega arith) ∙ ap (λ (t : Bool). pipes_escaped false (take j s) ++ escaped_byte t (get_or s j 0)) (sym (bare_is s j (omega arith))))

-- ---- the count

wide : (t : Bool) (b : ℕ) → length (escaped_byte t b) ≡ cond t 2 1
wide true b = refl
wide false b = refl

pipes_more : (s : List ℕ) (i j : ℕ) (t : Bool) → i ≡ suc j → i ≤ length s → bare_pipe (take i s) ≡ t → length (pipes_escaped false (take i s)) ≡ length (pipes_escaped false (take j s)) + cond t 2 1
pipes_more s i j t e h q =
    ap length (pipes_on s i j e h) ∙ length-append (pipes_escaped false (take j s)) (escaped_byte (bare_pipe (take i s)) (get_or s j 0))
    ∙ ap (λ (k : ℕ). length (pipes_escaped false (take j s)) + k) (wide (bare_pipe (take i s)) (get_or s j 0) ∙ ap (λ (z : Bool). cond z 2 1) q)

range_more : (p : ℕ → Bool) (n : ℕ) → filter p (range_with_len 0 (suc n)) ≡ filter p (range_with_len 0 n) ++ cond (p n) (n ∷ []) []
range_more p n =
    ap (λ (k : ℕ). filter p (range_with_len 0 k)) (sym (add-one n)) ∙ ap (filter p) (sym (map-id (range_with_len 0 (n + 1)))) ∙ filter_of_map_range_with_len_more p (λ x. x) 0 n n (omega arith)
    ∙ ap (λ (xs : List ℕ). filter p xs ++ cond (p n) (n ∷ []) []) (map-id (range_with_len 0 n))

pub bare_count : (s : List ℕ) (n : ℕ) → n ≤ length s → n + length (filter (λ i. bare_pipe (take (i + 1) s)) (range_with_len 0 n)) ≡ length (pipes_escaped false (take n s))
unfolding pipes_escaped
bare_count s zero h = refl
bare_count s (suc n) h =
    let p : ℕ → Bool = λ i. bare_pipe (take (i + 1) s) in
    omega (
      arith,
      bare_count s n (omega arith),
      pipes_more s (suc n) n (p n) refl h (ap (λ (k : ℕ). bare_pipe (take k s)) (sym (add-one n))),
      ap length (range_more p n),
      length-append (filter p (range_with_len 0 n)) (cond (p n) (n ∷ []) []),
      one_more (p n),
    )
  where
    one_more : (t : Bool) → length (cond t (n ∷ []) []) + 1 ≡ cond t 2 1
    one_more true = refl
    one_more false = refl

-- ---- the bytes from the i-th on are moved

-- no text gets shorter
pipes_long : (before : Bool) (s : List ℕ) → length s ≤ length (pipes_escaped before s)
unfolding pipes_escaped
pipes_long before [] = omega arith
pipes_long before (b ∷ s) =
    omega (arith, pipes_long (eqb b 92) s, length-append (cond (eqb b 124 && not before) (ascii "\\") []) (b ∷ pipes_escaped (eqb b 92) s))

-- a text that gains nothing stays as it is
pub pipes_none : (before : Bool) (s : List ℕ) → length (pipes_escaped before s) ≡ length s → pipes_escaped before s ≡ s
unfolding pipes_escaped
pipes_none before [] h = refl
pipes_none before (b ∷ s) h = go (pipes_none (eqb b 92) s) (pipes_long (eqb b 92) s) (eqb b 124 && not before) h
  where
    go : (length (pipes_escaped (eqb b 92) s) ≡ length s → pipes_escaped (eqb b 92) s ≡ s) → length s ≤ length (pipes_escaped (eqb b 92) s) → (t : Bool)
        → length (cond t (ascii "\\") [] ++ (b ∷ pipes_escaped (eqb b 92) s)) ≡ length (b ∷ s) → cond t (ascii "\\") [] ++ (b ∷ pipes_escaped (eqb b 92) s) ≡ b ∷ s
    go f l true h = absurd (omega arith)
    go f l false h = ap (λ (x : List ℕ). b ∷ x) (f (omega arith))

pub record Escaping (d text : List ℕ) (len end i at : ℕ) : Type 0 where
  pub long : length text ≡ length d
  pub within : i ≤ len
  pub place : at ≡ length (pipes_escaped false (take i d))
  pub above : i ≤ at
  pub under : at ≤ end
  pub kept : take at text ≡ take at d
  pub joined : pipes_escaped false (take i d) ++ drop at text ≡ pipes_escaped false (take len d) ++ drop end d

module _ (d : List ℕ) {len : ℕ} (h : len ≤ length d) where
  above_is : (i : ℕ) → i ≤ len → i ≤ length (pipes_escaped false (take i d))
  above_is i k = omega (arith, pipes_long false (take i d), length-take-le i d (omega arith))

  module _ {text : List ℕ} {end i at : ℕ} (p : Escaping d text len end i at) where
    front : take i text ≡ take i d
    front = sym (take-take i at text p.above) ∙ ap (take i) p.kept ∙ take-take i at d p.above

    module _ (j : ℕ) (e : i ≡ suc j) (t : Bool) (f : t ≡ bare_pipe (take i text)) where
      byte : get_or text j 0 ≡ get_or d j 0
      byte =
          let q : j < at = omega (arith, p.above) in
          sym (get_or-take at text j 0 q) ∙ ap (λ (l : List ℕ). get_or l j 0) p.kept ∙ get_or-take at d j 0 q

      abbrev piece : List ℕ
      piece = escaped_byte t (get_or text j 0)

      one_more : pipes_escaped false (take i d) ≡ pipes_escaped false (take j d) ++ piece
      one_more =
          pipes_on d i j e (omega (arith, p.within))
          ∙ ap (λ (z : Bool). pipes_escaped false (take j d) ++ escaped_byte z (get_or d j 0)) (ap bare_pipe (sym front) ∙ sym f)
          ∙ ap (λ (b : ℕ). pipes_escaped false (take j d) ++ escaped_byte t b) (sym byte)

      sum : at ≡ length (pipes_escaped false (take j d)) + length piece
      sum = p.place ∙ ap length one_more ∙ length-append (pipes_escaped false (take j d)) piece

      pub piece_fits : length piece ≤ at
      piece_fits = omega (arith, sum)

      pub escaping_on : {after : List ℕ} {r : ℕ} → PutBefore text after at r piece → Escaping d after len end j r
      escaping_on {after} {r} q =
          let k : r ≤ at = omega (arith, q.begins) in
          record {
            long = q.long ∙ p.long;
            within = omega (arith, p.within);
            place = omega (arith, q.begins, sum);
            above = omega (arith, q.begins, sum, above_is j (omega (arith, p.within)));
            under = omega (arith, p.under);
            kept = q.kept ∙ sym (take-take r at text k) ∙ ap (take r) p.kept ∙ take-take r at d k;
            joined =
                ap (λ (l : List ℕ). pipes_escaped false (take j d) ++ l) q.behind ∙ sym (append_assoc (pipes_escaped false (take j d)) piece (drop at text))
                ∙ ap (λ (l : List ℕ). l ++ drop at text) (sym one_more) ∙ p.joined;
          }

    pub escaping_all : i ≡ 0 → end ≡ length (pipes_escaped false (take len d)) → end ≤ length d → Written (length d) text end (replace (pipes_escaped false) (take len d))
    unfolding replace pipes_escaped
    escaping_all z e k =
        let none : pipes_escaped false (take i d) ≡ [] = ap (λ (n : ℕ). pipes_escaped false (take n d)) z in
        let q : at ≡ 0 = p.place ∙ ap length none in
        let whole : text ≡ pipes_escaped false (take len d) ++ drop end d =
        sym (ap (λ (l : List ℕ). l ++ drop at text) none ∙ ap (λ (n : ℕ). drop n text) q) ∙ p.joined in
        record {
          long = p.long;
          fits = omega arith;
          count = e;
          text_is = ap (take end) whole ∙ take_at (pipes_escaped false (take len d)) (drop end d) end (sym e);
        }

  pub escaping_full : {extra : ℕ} → len + extra ≡ length (pipes_escaped false (take len d)) → length d - len < extra → Refused (length d) (replace (pipes_escaped false) (take len d))
  unfolding replace
  escaping_full e k = record { over = omega arith }
