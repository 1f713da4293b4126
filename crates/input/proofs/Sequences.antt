-- A lead byte and the bytes that are due, against Table 3-7.
use Prim.Native.Nat.{ℕ, zero, suc, ◌+◌, ◌-◌, ◌<◌, ◌≤◌}
use native.Mathlib.Omega.{arith}
use mathlib.Core.Path.{◌≡◌, refl, ap, ap₂, ◌∙◌, sym}
use mathlib.Core.Bool.{Bool, true, false, cond, not, ◌&&◌, and-eq-true_iff, and_assoc, and-true, false≢true}
use mathlib.Core.List.{List, [], ◌∷◌, ◌++◌, append-nil, append_assoc}
use lib.ListN.{length, get_or, take, drop, replicate, drop_of_length-le}
use lib.Seq.{drop-cons}
use native.Mathlib.Numerals.{add-one}
use lib.Dec.{eqb, leb, ltb, eqb-suc-zero}
use borrow.Author.Tests.{eqb-true, eqb-false, not-true, ltb-true, ltb-false, lt-ltb, le-leb, lt-leb}
use Rattle.std.specs.Prelude.{Option, None, Some}
use Rattle.spec.specs.Bytes.{Bytes, every}
use Rattle.spec.specs.Utf8.{Range, to, row, sequences, within, begins, following, fits, due_after, well_formed, is_utf8}
use Rattle.spec.proofs.Order.{one_less}
use Rattle.input.specs.Lead.{make, lead_of, next_of, ranges_of, due, after, Behind, is_ascii}
use Rattle.input.specs.declared.utf8.Lead.{Lead}

same_ranges : List Range → List Range → Bool
same_ranges [] [] = true
same_ranges [] (r ∷ rs) = false
same_ranges (q ∷ qs) [] = false
same_ranges (q ∷ qs) (r ∷ rs) = (eqb q.low r.low && eqb q.high r.high) && same_ranges qs rs

ranges_same : (qs rs : List Range) → same_ranges qs rs ≡ true → qs ≡ rs
unfolding same_ranges
ranges_same [] [] e = refl
ranges_same [] (r ∷ rs) e = absurd (false≢true e)
ranges_same (q ∷ qs) [] e = absurd (false≢true e)
ranges_same (q ∷ qs) (r ∷ rs) e =
    let p : (eqb q.low r.low && eqb q.high r.high ≡ true) × (same_ranges qs rs ≡ true) = (and-eq-true_iff _ _).0 e in
    let b : (eqb q.low r.low ≡ true) × (eqb q.high r.high ≡ true) = (and-eq-true_iff _ _).0 p.0 in
    ap₂ ◌∷◌ (ap₂ (λ (x y : ℕ). record { low = x; high = y }) (eqb-true _ _ b.0) (eqb-true _ _ b.1)) (ranges_same qs rs p.1)

lead_like : ℕ → Option Lead → Bool
lead_like b None = not (begins b sequences)
lead_like b (Some d) = begins b sequences && same_ranges (following b sequences) (due d)

-- what `lead_of` says of a byte is what the table says
lead_right : ℕ → Bool
lead_right b = lead_like b (lead_of b)

unfoldable pub below : (ℕ → Bool) → ℕ → Bool
below p zero = true
below p (suc n) = p n && below p n

last_or_less : (p : ℕ → Bool) (n b : ℕ) (t : Bool) → eqb b n ≡ t → b < suc n → p n ≡ true → (b < n → p b ≡ true) → p b ≡ true
last_or_less p n b true q h last less = ap p (eqb-true b n q) ∙ last
last_or_less p n b false q h last less = less (lt_of (eqb-false b n q))
  where
    lt_of : (b ≡ n → ⊥) → b < n
    lt_of ne = omega arith

pub below_at : (p : ℕ → Bool) (n b : ℕ) → below p n ≡ true → b < n → p b ≡ true
unfolding below
below_at p zero b e h = absurd (omega arith)
below_at p (suc n) b e h =
    let parts : (p n ≡ true) × (below p n ≡ true) = (and-eq-true_iff _ _).0 e in
    last_or_less p n b (eqb b n) refl h parts.0 (below_at p n b parts.1)

all_leads : below lead_right 256 ≡ true
unfolding below lead_right lead_like begins following sequences to row within same_ranges ranges_of
all_leads = refl

lead_law : (b : ℕ) (s : Bytes) → b < 256 → well_formed [] (b ∷ s) ≡ after (lead_of b) s
unfolding well_formed fits due_after lead_right lead_like
lead_law b s h = go (lead_of b) (below_at lead_right 256 b all_leads h)
  where
    go : (d : Option Lead) → lead_like b d ≡ true → (begins b sequences && well_formed (following b sequences) s) ≡ after d s
    go None e = rw (not-true (begins b sequences) e)
    go (Some d) e =
        let p : (begins b sequences ≡ true) × (same_ranges (following b sequences) (due d) ≡ true) = (and-eq-true_iff _ _).0 e in
        rw (p.0, ranges_same (following b sequences) (due d) p.1)

continued : (n : ℕ) → ranges_of n 0x80 0xBF ≡ replicate n (to 0x80 0xBF)
unfolding ranges_of
continued zero = refl
continued (suc n) = refl

more_law : (n low high b : ℕ) (s : Bytes)
    → well_formed (ranges_of (suc n) low high) (b ∷ s)
    ≡ after (cond (ltb b low) None (cond (ltb high b) None (Some (make (suc n - 1) 0x80 0xBF)))) s
unfolding well_formed ranges_of fits due_after within to
more_law n low high b s = go (ltb b low) (ltb high b) refl refl
  where
    go : (t u : Bool) → ltb b low ≡ t → ltb high b ≡ u
        → ((leb low b && leb b high) && well_formed (replicate n (record { low = 0x80; high = 0xBF })) s)
        ≡ after (cond t None (cond u None (Some (make (suc n - 1) 0x80 0xBF)))) s
    go true u p q = rw (lt-leb low b (ltb-true b low p))
    go false true p q = rw (le-leb low b (ltb-false b low p), lt-leb b high (ltb-true high b q))
    go false false p q =
        rw (le-leb low b (ltb-false b low p), le-leb b high (ltb-false high b q), one_less n, continued n)

pub next_law : (d : Lead) (b : ℕ) (s : Bytes) → b < 256 → well_formed (due d) (b ∷ s) ≡ after (next_of d b) s
unfolding ranges_of
next_law d b s k = go d.more
  where
    go : (n : ℕ) → well_formed (ranges_of n d.low d.high) (b ∷ s) ≡ after (next_of (make n d.low d.high) b) s
    go zero = lead_law b s k
    go (suc n) = rw (eqb-suc-zero n) (more_law n d.low d.high b s)

-- an ASCII byte where nothing is due
ascii_law : (d : Lead) (b : ℕ) (s : Bytes) → d.more ≡ 0 → b < 0x80 → well_formed (due d) (b ∷ s) ≡ well_formed (due d) s
unfolding ranges_of
ascii_law d b s e h = rw e (lead_law b s (omega arith) ∙ rw (lt-ltb b 0x80 h))

-- bytes of ASCII where nothing is due
pub ascii_on : (d : Lead) (part : Bytes) → d.more ≡ 0 → every is_ascii part ≡ true → Behind d part (Some d)
unfolding every
ascii_on d [] e h rest = refl
ascii_on d (b ∷ s) e h rest =
    let p : (ltb b 0x80 ≡ true) × (every is_ascii s ≡ true) = (and-eq-true_iff _ _).0 h in
    ascii_law d b (s ++ rest) e (ltb-true b 0x80 p.0) ∙ ascii_on d s e p.1 rest

-- a test of every byte, one after the other
module _ (p : ℕ → Bool) (s : Bytes) (all : Bool) (i : ℕ) (so_far : every p s ≡ (all && every p (drop i s))) where
  pub all_turn : i < length s → every p s ≡ ((all && p (get_or s i 0)) && every p (drop (i + 1) s))
  unfolding every
  all_turn h = so_far ∙ rw (add-one, drop-cons s i 0 h) (sym (and_assoc all _ _))

  pub all_end : length s ≤ i → all ≡ every p s
  unfolding every
  all_end h = sym (so_far ∙ rw (drop_of_length-le s h) (and-true all))

-- the first n bytes are ASCII where the first m are
pub ascii_less : (n m : ℕ) (s : Bytes) → n ≤ m → every is_ascii (take m s) ≡ true → every is_ascii (take n s) ≡ true
unfolding every
ascii_less zero m s l h = refl
ascii_less (suc n) zero s l h = absurd (omega arith)
ascii_less (suc n) (suc m) [] l h = refl
ascii_less (suc n) (suc m) (b ∷ s) l h =
    let p : (ltb b 0x80 ≡ true) × (every is_ascii (take m s) ≡ true) = (and-eq-true_iff _ _).0 h in
    (and-eq-true_iff _ _).1 (p.0, ascii_less n m s (omega arith) p.1)

pub all_ascii : (s : Bytes) → every is_ascii s ≡ true → true ≡ is_utf8 s
unfolding is_utf8 well_formed ranges_of
all_ascii s h = sym (ap (well_formed []) (sym (append-nil s)) ∙ ascii_on (make 0 0x80 0xBF) s refl h [])

-- ---- from byte to byte of a part, and from block to block

module _ (d : Lead) (part : Bytes) (i : ℕ) (rest : Bytes) (h : i < length part) where
  parted : drop i part ++ rest ≡ get_or part i 0 ∷ (drop (i + 1) part ++ rest)
  parted = rw add-one (ap (λ (l : Bytes). l ++ rest) (drop-cons part i 0 h))

  turn : get_or part i 0 < 256
      → well_formed (due d) (drop i part ++ rest) ≡ after (next_of d (get_or part i 0)) (drop (i + 1) part ++ rest)
  turn small =
      ap (well_formed (due d)) parted ∙ next_law d (get_or part i 0) (drop (i + 1) part ++ rest) small

  pub wrong_byte : get_or part i 0 < 256 → next_of d (get_or part i 0) ≡ None → well_formed (due d) (drop i part ++ rest) ≡ false
  wrong_byte small e = turn small ∙ ap (λ (r : Option Lead). after r (drop (i + 1) part ++ rest)) e

  pub right_byte : (e : Lead) → get_or part i 0 < 256 → next_of d (get_or part i 0) ≡ Some e
      → well_formed (due d) (drop i part ++ rest) ≡ well_formed (due e) (drop (i + 1) part ++ rest)
  right_byte e small q = turn small ∙ ap (λ (r : Option Lead). after r (drop (i + 1) part ++ rest)) q

  pub ascii_byte : (eqb d.more 0 && is_ascii (get_or part i 0)) ≡ true
      → well_formed (due d) (drop i part ++ rest) ≡ well_formed (due d) (drop (i + 1) part ++ rest)
  ascii_byte e =
      let p : (eqb d.more 0 ≡ true) × (ltb (get_or part i 0) 0x80 ≡ true) = (and-eq-true_iff _ _).0 e in
      ap (well_formed (due d)) parted
      ∙ ascii_law d (get_or part i 0) (drop (i + 1) part ++ rest) (eqb-true d.more 0 p.0) (ltb-true (get_or part i 0) 0x80 p.1)

pub block_turn : (d : Lead) (r : Option Lead) (all block behind rest : Bytes) → all ≡ block ++ behind → Behind d block r
    → well_formed (due d) (all ++ rest) ≡ after r (behind ++ rest)
block_turn d r all block behind rest e h = ap (λ (l : Bytes). well_formed (due d) (l ++ rest)) e ∙ ap (well_formed (due d)) (append_assoc block behind rest) ∙ h (behind ++ rest)

-- ---- at the end

ended : (n low high : ℕ) → well_formed (ranges_of n low high) [] ≡ eqb n 0
unfolding well_formed ranges_of
ended zero low high = refl
ended (suc n) low high = sym (eqb-suc-zero n)

pub at_end : (s : Bytes) (r : Option Lead) → Behind (make 0 0x80 0xBF) s r → is_utf8 s ≡ after r []
unfolding is_utf8 ranges_of
at_end s r h = ap (well_formed []) (sym (append-nil s)) ∙ h []

pub none_due : (d : Lead) → well_formed (due d) [] ≡ eqb d.more 0
none_due d = ended d.more d.low d.high
