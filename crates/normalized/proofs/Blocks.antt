-- Blocks of bytes that are appended without a branch.
use Prim.Native.Nat.{ℕ, zero, suc, ◌+◌, ◌*◌, ◌≤◌, ◌<◌}
use mathlib.Core.Path.{◌≡◌, refl, sym, ap, ap₂, subst, subst₂, ◌∙◌}
use mathlib.Core.Bool.{Bool, true, false, cond, not, ◌&&◌, ◌||◌, and-false, and-eq-true_iff}
use mathlib.Core.List.{List, [], ◌∷◌, ◌++◌, append_assoc, append-nil}
use native.Mathlib.Omega.{arith}
use native.Mathlib.Numerals.{add-one}
use lib.ListN.{length, take, drop, get_or, set, length-set, length-append}
use lib.Seq.{slice, slice_empty, length-slice, length-take-le, take-suc-set, take-set-le, drop-set-lt, take-take, get_or-take, take-append-add, drop-drop}
use borrow.Rule.Slice.PartMut.{put_mid}
use Rattle.std.proofs.lemmas.Slice.{take-put_mid}
use Rattle.std.proofs.lemmas.List.{get_or-set_other}
use Rattle.std.proofs.lemmas.Grind.{get_or-set_at}
use mir.Val.{bool_byte}
use lib.Dec.{eqb}
use borrow.Author.Tests.{eqb-true, not-true}
use Rattle.spec.specs.Bytes.{Bytes, ascii, isin, starts_with, white}
use Rattle.spec.specs.Out.{push}
use Rattle.spec.specs.Md.Constants.{ALWAYS_ESCAPED}
use Rattle.spec.specs.Md.TextUtils.{is_escaped}
use Rattle.normalized.specs.Blocks.{signed, Signs, BlockOf, Appends}
use Rattle.text.specs.Flow.{added, flow_before, plain, Plain}
use Rattle.text.specs.Writes.{Written}
use Rattle.normalized.specs.declared.fast_copy.Block.{Block}
use Rattle.text.proofs.Ordinary.{not_escaped}
use Rattle.normalized.proofs.Flowing.{blank_added, block_plain, less_or_not, next_byte}
use Rattle.text.proofs.Sourcing.{slice_on, follows_some}
use Rattle.normalized.proofs.Streaming.{added_black, slice_join, rest_is}

-- ---- what a byte adds

-- a byte that is not white or a blank before a word adds itself, behind a backslash if it is escaped
spaced_added : (escape : Bool) (b c : ℕ) (rest : Bytes) → plain false b c ≡ true → added escape b (c ∷ rest) ≡ cond (escape && is_escaped false false false b (c ∷ rest)) (ascii "\\") [] ++ (b ∷ [])
unfolding isin
spaced_added escape b c rest = on (white b) refl
  where
    on : (t : Bool) → white b ≡ t → not t || (eqb b 32 && not (white c)) ≡ true → added escape b (c ∷ rest) ≡ cond (escape && is_escaped false false false b (c ∷ rest)) (ascii "\\") [] ++ (b ∷ [])
    on false e h = added_black escape b (c ∷ rest) e refl
    on true e h =
        let q = (and-eq-true_iff (eqb b 32) (not (white c))).0 h in
        let z = eqb-true b 32 q.0 in
        let n : is_escaped false false false b (c ∷ rest) ≡ false = not_escaped false b (c ∷ rest) (ap (λ (x : ℕ). isin x ALWAYS_ESCAPED) z) (ap (λ (x : ℕ). eqb x 33) z) in
        blank_added escape b c rest q.0 (not-true (white c) q.1) ∙ rw (n, and-false escape) refl

-- ---- what a block adds

flow_snoc : (escape : Bool) (part : Bytes) (b : ℕ) (rest : Bytes) → flow_before escape (part ++ (b ∷ [])) rest ≡ flow_before escape part (b ∷ rest) ++ added escape b rest
unfolding flow_before
flow_snoc escape [] b rest = append-nil (added escape b rest)
flow_snoc escape (a ∷ part) b rest =
    ap (λ (x : Bytes). added escape a x ++ flow_before escape (part ++ (b ∷ [])) rest) (append_assoc part (b ∷ []) rest)
    ∙ ap (λ (x : Bytes). added escape a (part ++ (b ∷ rest)) ++ x) (flow_snoc escape part b rest)
    ∙ sym (append_assoc (added escape a (part ++ (b ∷ rest))) (flow_before escape part (b ∷ rest)) (added escape b rest))

pub slice_snoc : (s : Bytes) (at i : ℕ) → at ≤ i → i < length s → slice at (i + 1) s ≡ slice at i s ++ (get_or s i 0 ∷ [])
slice_snoc s at i h k =
    sym (slice_join s at i (i + 1) h (omega arith))
    ∙ ap (λ (x : Bytes). slice at i s ++ x) (slice_on s i (i + 1) (omega arith) (omega arith) ∙ ap (λ (x : Bytes). get_or s i 0 ∷ x) (slice_empty (i + 1) s))

module _ {escape : Bool} {s : Bytes} {signs : List Bool} {n : ℕ} (f : Signs escape s signs n) (even : (i : ℕ) → i < n → Plain false s i) (h : n < length s) where
  byte_adds : (i : ℕ) → i < n → cond (get_or signs i false) (ascii "\\") [] ++ (get_or s i 0 ∷ []) ≡ added escape (get_or s i 0) (slice (i + 1) (length s) s)
  byte_adds i l =
      let b = get_or s i 0 in
      let c = get_or s (i + 1) 0 in
      let more = slice (i + 1 + 1) (length s) s in
      let e : slice (i + 1) (length s) s ≡ c ∷ more = slice_on s (i + 1) (length s) (omega arith) (omega arith) in
      ap (λ (v : Bool). cond v (ascii "\\") [] ++ (b ∷ [])) (f.each i l (slice (i + 1) (length s) s) (follows_some (i + 1) (length s) 91 s (omega arith) (omega arith)))
      ∙ ap (λ (x : Bytes). cond (escape && is_escaped false false false b x) (ascii "\\") [] ++ (b ∷ [])) e
      ∙ sym (ap (added escape b) e ∙ spaced_added escape b c more (even i l).adds_itself)

  signed_to : (i : ℕ) → i ≤ n → signed signs s i ≡ flow_before escape (take i s) (slice i (length s) s)
  unfolding signed flow_before
  signed_to zero l = refl
  signed_to (suc i) l =
      let b = get_or s i 0 in
      let z : suc i ≡ i + 1 = omega arith in
      let rest = slice (i + 1) (length s) s in
      ap (λ (x : Bytes). x ++ (cond (get_or signs i false) (ascii "\\") [] ++ (b ∷ []))) (signed_to i (omega arith))
      ∙ ap (λ (x : Bytes). flow_before escape (take i s) (slice i (length s) s) ++ x) (byte_adds i (omega arith))
      ∙ ap (λ (x : Bytes). flow_before escape (take i s) x ++ added escape b rest) (slice_on s i (length s) (omega arith) (omega arith))
      ∙ sym (flow_snoc escape (take i s) b rest)
      ∙ ap (λ (x : Bytes). flow_before escape x rest) (sym (slice_snoc s 0 i (omega arith) (omega arith)))
      ∙ ap (λ (j : ℕ). flow_before escape (take j s) (slice j (length s) s)) (sym z)

  -- a block of bytes that add themselves
  pub signed_flow : signed signs s n ≡ flow_before escape (take n s) (drop n s)
  signed_flow = signed_to n (omega arith) ∙ ap (flow_before escape (take n s)) (rest_is n s)

-- one sign more
pub signs_next : {escape sign : Bool} {s : Bytes} {signs : List Bool} (i k : ℕ) → i < length signs → i < k → Signs escape s signs i
    → ((rest : Bytes) → eqb (get_or (take k (drop 1 s)) i 0) 91 ≡ starts_with (ascii "[") rest → sign ≡ is_escaped false false false (get_or s i 0) rest) → Signs escape s (set signs i (escape && sign)) (i + 1)
signs_next {escape} {sign} {s} {signs} i k h l f here =
    record {
      each = λ j m rest e. less_or_not j i (λ b. get_or-set_other signs i j (escape && sign) false (λ z. absurd (omega (arith, z, b))) ∙ f.each j b rest e)
          (λ b. let z : j ≡ i = omega arith in
          get_or-set_at signs i j (escape && sign) false z h ∙ ap (λ (t : Bool). escape && t) (here rest (ap (λ (x : ℕ). eqb x 91) (next_byte s i k l ∙ ap (λ (n : ℕ). get_or s (n + 1) 0) (sym z)) ∙ e))
          ∙ ap (λ (n : ℕ). escape && is_escaped false false false (get_or s n 0) rest) (sym z));
    }

-- ---- the first bytes, as a block of their own

-- the first n bytes of s with their signs are those of a front of it that is as long or longer
pub signed_front : (signs : List Bool) (s : Bytes) (m n : ℕ) → n ≤ m → signed signs (take m s) n ≡ signed signs s n
unfolding signed
signed_front signs s m zero l = refl
signed_front signs s m (suc n) l =
    ap₂ (λ (x : Bytes) (c : ℕ). x ++ (cond (get_or signs n false) (ascii "\\") [] ++ (c ∷ []))) (signed_front signs s m n (omega arith)) (get_or-take m s n 0 (omega arith))

-- b is the first 17 bytes of s: 16, and the byte behind them, on which it depends what the last of them adds
module _ (s b : Bytes) (e : b ≡ take 17 s) where
  byte_of : (i : ℕ) → i < 17 → get_or b i 0 ≡ get_or s i 0
  byte_of i l = ap (λ (x : Bytes). get_or x i 0) e ∙ get_or-take 17 s i 0 l

  pub signs_of : {escape : Bool} {signs : List Bool} → Signs escape b signs 16 → Signs escape s signs 16
  signs_of {escape} {signs} f =
      record {
        each = λ i l rest q.
            f.each i l rest (ap (λ (c : ℕ). eqb c 91) (byte_of (i + 1) (omega arith)) ∙ q)
            ∙ ap (λ (c : ℕ). escape && is_escaped false false false c rest) (byte_of i (omega arith));
      }

  -- the first n bytes of b, with their signs, are those of s
  pub signed_of : (signs : List Bool) (n : ℕ) → n < 18 → signed signs b n ≡ signed signs s n
  signed_of signs n l = ap (λ (x : Bytes). signed signs x n) e ∙ signed_front signs s 17 n (omega arith)

-- ---- how it is appended

pub appends_none : (d : Bytes) (len : ℕ) → Appends d d len len 0 []
appends_none d len = record { long = refl; reach = omega arith; text_is = sym (append-nil (take len d)); behind = refl }

-- a backslash and a byte; the byte takes the backslash's place where its sign is not set
module _ {d now : Bytes} {len n most : ℕ} {x : Bytes} (p : Appends d now len n most x) (h : len + most + 2 ≤ length d) where
  front : (sign : Bool) → take (n + bool_byte sign) (set now n 92) ≡ take len d ++ (x ++ cond sign (ascii "\\") [])
  front false =
      let z : n + 0 ≡ n = omega arith in
      ap (λ (j : ℕ). take j (set now n 92)) z ∙ take-set-le n now n 92 (omega arith) ∙ p.text_is ∙ ap (λ (y : Bytes). take len d ++ y) (sym (append-nil x))
  front true =
      let z : n + 1 ≡ suc n = omega arith in
      ap (λ (j : ℕ). take j (set now n 92)) z ∙ take-suc-set now n 92 (omega (arith, p.reach, p.long)) ∙ ap (λ (y : Bytes). y ++ (92 ∷ [])) p.text_is ∙ append_assoc (take len d) x (92 ∷ [])

  one_most : (sign : Bool) → bool_byte sign ≤ 1
  one_most false = omega arith
  one_most true = omega arith

  appends_next : (sign : Bool) (b : ℕ) → Appends d (set (set now n 92) (n + bool_byte sign) b) len (n + bool_byte sign + 1) (most + 2) (x ++ (cond sign (ascii "\\") [] ++ (b ∷ [])))
  appends_next sign b =
      let k = one_most sign in
      let y = cond sign (ascii "\\") [] in
      let i = n + bool_byte sign in
      let l : length (set now n 92) ≡ length d = length-set now n 92 ∙ p.long in
      let z : i + 1 ≡ suc i = omega arith in
      let m : len + (most + 2) ≡ len + most + 2 = omega arith in
      record {
        long = length-set (set now n 92) i b ∙ l;
        reach = omega (arith, p.reach, k);
        text_is = ap (λ (j : ℕ). take j (set (set now n 92) i b)) z ∙ take-suc-set (set now n 92) i b (omega (arith, p.reach, l, k)) ∙ ap (λ (w : Bytes). w ++ (b ∷ [])) (front sign)
            ∙ append_assoc (take len d) (x ++ y) (b ∷ []) ∙ ap (λ (w : Bytes). take len d ++ w) (append_assoc x y (b ∷ []));
        behind = ap (λ (j : ℕ). drop j (set (set now n 92) i b)) m ∙ drop-set-lt (len + most + 2) (set now n 92) i b (omega (arith, p.reach, k)) ∙ drop-set-lt (len + most + 2) now n 92 (omega (arith, p.reach))
            ∙ sym (drop-drop 2 (len + most) now) ∙ ap (drop 2) p.behind ∙ drop-drop 2 (len + most) d ∙ ap (λ (j : ℕ). drop j d) (sym m);
      }

-- one byte more of a block
pub block_step : {d now : Bytes} {len n : ℕ} (signs : List Bool) (s : Bytes) (i : ℕ) → Appends d now len n (2 * i) (signed signs s i) → len + 2 * i + 2 ≤ length d
    → Appends d (set (set now n 92) (n + bool_byte (get_or signs i false)) (get_or s i 0)) len (n + bool_byte (get_or signs i false) + 1) (2 * (i + 1)) (signed signs s (i + 1))
unfolding signed
block_step {d} {now} {len} {n} signs s i p h =
    let k = n + bool_byte (get_or signs i false) in
    let z : 2 * i + 2 ≡ 2 * (i + 1) = omega arith in
    subst₂ (λ (m j : ℕ). Appends d (set (set now n 92) k (get_or s i 0)) len (k + 1) m (signed signs s j)) z (sym (add-one i)) (appends_next p h (get_or signs i false) (get_or s i 0))

-- what is appended where there is room for the most that it may be
pub appends_done : {d after : Bytes} {len n most : ℕ} {x : Bytes} → Appends d after len n most x → len + most ≤ length d → Written (length d) after n (push x (take len d))
unfolding push
appends_done {d} {after} {len} {n} {most} {x} p h =
    let c : n ≡ length (take len d ++ x) = sym (length-take-le n after (omega (arith, p.reach, p.long))) ∙ ap length p.text_is in
    record { long = p.long; fits = omega (arith, c, p.reach, length-append (take len d) x); count = c; text_is = p.text_is }

-- ---- a stretch that is a block

-- the first 16 bytes of b, appended with their signs, are what these bytes of s add
pub block_writes : {escape : Bool} (s : Bytes) {b text after : Bytes} {n len m : ℕ} {block : Block} → n ≡ 16 → 17 ≤ length s → len + 32 ≤ length text → b ≡ take 17 s → BlockOf escape b block → block.even ≡ true
    → Appends text after len m 32 (signed block.signs b 16) → Written (length text) after m (push (flow_before escape (take n s) (drop n s)) (take len text))
block_writes {escape} s {b} {text} {after} {n} {len} {m} {block} z h k e v q a =
    let even = λ (i : ℕ) (l : i < 16). block_plain s b 0 h e (v.spaced q) i (omega arith) l in
    subst (λ (x : Bytes). Written (length text) after m (push x (take len text)))
    (signed_of s b e block.signs 16 (omega arith) ∙ signed_flow (signs_of s b e v.marked) even (omega (arith, h)) ∙ ap (λ (j : ℕ). flow_before escape (take j s) (drop j s)) (sym z))
    (appends_done a k)

-- the law for `push_block`, which takes these 16 bytes alone
pub own_writes : {escape : Bool} (s : Bytes) {b own text after : Bytes} {n len m : ℕ} {block : Block} → n ≡ 16 → 17 ≤ length s → len + 32 ≤ length text → b ≡ take 17 s → own ≡ take 16 s → BlockOf escape b block
    → block.even ≡ true → Appends text after len m 32 (signed block.signs own 16) → Written (length text) after m (push (flow_before escape (take n s) (drop n s)) (take len text))
own_writes s {b} {own} {text} {after} {n} {len} {m} {block} z h k e o v q a =
    let front : signed block.signs own 16 ≡ signed block.signs b 16 =
    ap (λ (x : Bytes). signed block.signs x 16) o ∙ signed_front block.signs s 16 16 (omega arith) ∙ sym (signed_of s b e block.signs 16 (omega arith)) in
    block_writes s z h k e v q (subst (λ (x : Bytes). Appends text after len m 32 x) front a)

-- ---- bytes that are copied in blocks, the last of which may reach behind them

module _ (d s : List ℕ) (len : ℕ) where
  -- the first i bytes stand behind the first len bytes
  abbrev pub Copied : List ℕ → ℕ → Type 0
  Copied now i = take (len + i) now ≡ take len d ++ take i s

  pub block_on : (now ys : List ℕ) (i k : ℕ) → len + i + 16 ≤ length now → i + 16 ≤ length s → ys ≡ slice i (i + 16) s → Copied now i → Copied (put_mid (len + i) k now ys) (i + 16)
  block_on now ys i k h l e was =
      take-put_mid (len + i) k now ys (len + (i + 16)) (omega (arith, ap length e, length-slice i (i + 16) s l)) (omega arith)
      ∙ ap₂ (λ (x y : List ℕ). x ++ y) was e
      ∙ append_assoc (take len d) (take i s) (slice i (i + 16) s)
      ∙ ap (λ (x : List ℕ). take len d ++ x) (slice_join s 0 i (i + 16) (omega arith) (omega arith))

  -- fewer of them
  pub block_cut : (now : List ℕ) (n i : ℕ) → n ≤ i → len ≤ length d → Copied now i → Copied now n
  block_cut now n i h l was =
      let x = take i s in
      let k : length (take len d) ≡ len = length-take-le len d l in
      sym (take-take (len + n) (len + i) now (omega arith)) ∙ ap (take (len + n)) was
      ∙ ap (λ (j : ℕ). take (j + n) (take len d ++ x)) (sym k) ∙ take-append-add (take len d) x n
      ∙ ap (λ (y : List ℕ). take len d ++ y) (take-take n i s h)

  pub copied_done : (now : List ℕ) (n : ℕ) → n ≤ length s → len + n ≤ length d → length now ≡ length d → Copied now n
      → Written (length d) now (len + n) (push (take n s) (take len d))
  unfolding push
  copied_done now n t h l was =
      let k : length (take len d) ≡ len = length-take-le len d (omega arith) in
      let q : length (take n s) ≡ n = length-take-le n s t in
      record { long = l; fits = omega (arith, q, k); count = omega (arith, length-append (take len d) (take n s), q, k); text_is = was }
