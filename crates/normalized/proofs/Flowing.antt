-- Laws of `flow`.
use Prim.Native.Nat.{ℕ, zero, suc, ◌+◌, ◌-◌, ◌≤◌, ◌<◌}
use mathlib.Core.Path.{◌≡◌, refl, sym, ap, ap₂, subst, ◌∙◌}
use mathlib.Core.Bool.{Bool, true, false, cond, not, ◌&&◌, ◌||◌, false≢true, and-false, or-true, and-eq-true_iff}
use mathlib.Core.Logic.{⊎_elim}
use mathlib.Core.List.{List, [], ◌∷◌, ◌++◌, append_assoc}
use native.Mathlib.Omega.{arith}
use lib.ListN.{length, take, drop, get_or, drop_of_length-le, length-take, length-drop}
use lib.Seq.{get_or-drop, get_or-take}
use lib.Seq.{drop-cons, take-suc, take_all, length-take-le, slice, length-slice}
use lib.Dec.{eqb, leb}
use borrow.Author.Tests.{eqb-true, eqb-false, ne_eqb, not-true}
use Rattle.spec.specs.Bytes.{Bytes, ascii, null, same, isin, every, starts_with, ends_with, white, digit, is_blank, words, split, parts, cut_at, filled, one, trim_end_matches, trim_ascii_end}
use Rattle.spec.specs.Md.Constants.{ALWAYS_ESCAPED}
use Rattle.spec.specs.Md.TextUtils as def
use Rattle.spec.specs.declared.ctx.FormatOpts as Opts
use Rattle.text.specs.Class.{ordinary}
use Rattle.text.specs.Flow.{starts_black, MayStart, added, flow, flow_before, kept, plain, Plain, Flows}
use Rattle.text.specs.Marks.{marks}
use Rattle.normalized.specs.Verbatim.{Whole}
use Rattle.spec.proofs.Order.{le_or_lt}
use Rattle.text.proofs.Reading.{same_self, not_long}
use Rattle.text.proofs.Sourcing.{part_byte, part_is}
use Rattle.normalized.proofs.Wording.{slice_front}
use Rattle.text.proofs.Trimming.{trim_less, trim_whole, trim_long}
use Rattle.text.proofs.Ordinary.{ordinary_parts, not_escaped, inner_chunk, bare_chunk}

-- ---- plain bytes

pub added_ordinary : (escape : Bool) (b : ℕ) (rest : Bytes) → ordinary b ≡ true → added escape b rest ≡ b ∷ []
unfolding added
added_ordinary escape b rest h =
    let r = ordinary_parts (white b) (isin b ALWAYS_ESCAPED) (eqb b 33) h in
    rw (r.0, not_escaped false b rest r.1 r.2, and-false escape)

-- nothing is escaped but where signs are
added_kept : (signs escape : Bool) (b : ℕ) (rest : Bytes) → (escape ≡ true → signs ≡ true) → kept signs b ≡ true → added escape b rest ≡ b ∷ []
unfolding added
added_kept true escape b rest only h = added_ordinary escape b rest h
added_kept false true b rest only h = absurd (false≢true (only refl))
added_kept false false b rest only h = rw (not-true (white b) h)

blank_white : (b : ℕ) → eqb b 32 ≡ true → white b ≡ true
unfolding white isin
blank_white b e = ap white (eqb-true b 32 e)

pub blank_added : (escape : Bool) (b c : ℕ) (rest : Bytes) → eqb b 32 ≡ true → white c ≡ false → added escape b (c ∷ rest) ≡ b ∷ []
unfolding added starts_black
blank_added escape b c rest e f = rw (blank_white b e, f, eqb-true b 32 e)

plain_added : (signs escape : Bool) (b c : ℕ) (rest : Bytes) → (escape ≡ true → signs ≡ true) → plain signs b c ≡ true → added escape b (c ∷ rest) ≡ b ∷ []
plain_added signs escape b c rest only = on (kept signs b) refl
  where
    on : (t : Bool) → kept signs b ≡ t → t || (eqb b 32 && not (white c)) ≡ true → added escape b (c ∷ rest) ≡ b ∷ []
    on true e h = added_kept signs escape b (c ∷ rest) only e
    on false e h = let q = (and-eq-true_iff (eqb b 32) (not (white c))).0 h in blank_added escape b c rest q.0 (not-true (white c) q.1)

flows_rest : {signs : Bool} {b : ℕ} {s : Bytes} {n : ℕ} → Flows signs (b ∷ s) (suc n) → Flows signs s n
flows_rest {signs} {b} {s} {n} f =
    record {
      within = omega (arith, f.within);
      each = λ i h.
          let p = f.each (suc i) (omega arith) in
          let e : suc i + 1 ≡ suc (i + 1) = omega arith in
          record { followed = omega (arith, p.followed); adds_itself = subst (λ (k : ℕ). plain signs (get_or s i 0) (get_or (b ∷ s) k 0) ≡ true) e p.adds_itself };
    }

module _ {signs : Bool} (escape : Bool) (only : escape ≡ true → signs ≡ true) where
  front_flow : (s : Bytes) (n : ℕ) → Flows signs s n → flow escape s ≡ take n s ++ flow escape (drop n s)
  unfolding flow
  front_flow s zero f = refl
  front_flow [] (suc n) f = absurd (omega (arith, f.within))
  front_flow (b ∷ []) (suc n) f = absurd (omega (arith, (f.each 0 (omega arith)).followed))
  front_flow (b ∷ c ∷ s) (suc n) f =
      ap (λ (x : Bytes). x ++ flow escape (c ∷ s)) (plain_added signs escape b c s only (f.each 0 (omega arith)).adds_itself)
      ∙ ap (λ (x : Bytes). b ∷ x) (front_flow (c ∷ s) n (flows_rest f))

  pub flows_flow : {s : Bytes} {n : ℕ} → Flows signs s n → flow escape s ≡ take n s ++ flow escape (drop n s)
  flows_flow {s} {n} f = front_flow s n f

-- below k, or not
pub less_or_not : {A : Type 0} (i k : ℕ) → (i < k → A) → (k ≤ i → A) → A
less_or_not i k f g = ⊎_elim g f (le_or_lt k i)

-- a byte stands behind them
pub flows_short : {signs : Bool} {s : Bytes} {n : ℕ} → Flows signs s n → 0 < length s → n < length s
flows_short {signs} {s} {n} f h = less_or_not n (length s) (λ k. k) (λ k. absurd (omega (arith, (f.each (length s - 1) (omega arith)).followed)))

-- further bytes
pub flows_on : {signs : Bool} {s : Bytes} {m n : ℕ} → Flows signs s m → n ≤ length s → ((i : ℕ) → m ≤ i → i < n → Plain signs s i) → Flows signs s n
flows_on {signs} {s} {m} {n} f h more = record { within = h; each = λ i k. less_or_not i m (f.each i) (λ l. more i l k) }

pub flows_next : {signs : Bool} {s : Bytes} {i : ℕ} → Flows signs s i → Plain signs s i → Flows signs s (i + 1)
flows_next {signs} {s} f p = flows_on f (omega (arith, p.followed)) (λ j h k. subst (Plain signs s) (omega arith) p)

-- `&s[1..]` holds the byte behind each
pub next_byte : (s : Bytes) (i k : ℕ) → i < k → get_or (take k (drop 1 s)) i 0 ≡ get_or s (i + 1) 0
next_byte s i k h = get_or-take k (drop 1 s) i 0 h ∙ get_or-drop 1 s i 0 ∙ ap (λ (j : ℕ). get_or s j 0) (omega arith)

-- one byte more of a block, `one` said with that byte
pub block_next : {signs : Bool} {s : Bytes} {all one : Bool} (i k : ℕ) → i + 1 < length s → i < k → (all ≡ true → (j : ℕ) → j < i → Plain signs s j)
    → (one ≡ true → plain signs (get_or s i 0) (get_or (take k (drop 1 s)) i 0) ≡ true) → all && one ≡ true → (j : ℕ) → j < i + 1 → Plain signs s j
block_next {signs} {s} {all} {one} i k h l before here e j m =
    let q = (and-eq-true_iff all one).0 e in
    less_or_not j i (before q.0 j)
    (λ b. subst (Plain signs s) (omega arith) (record { followed = h; adds_itself = subst (λ (x : ℕ). plain signs (get_or s i 0) x ≡ true) (next_byte s i k l) (here q.1) }))

-- one byte more of a block of which the first n bytes count: `all` says that those before it are plain, `past` that it is none of
-- them, and `one` that it is plain
pub front_next : {signs : Bool} {s : Bytes} {all past one : Bool} (i n w : ℕ) → i + 1 < length s → i < w → (all ≡ true → (j : ℕ) → j < i → j < n → Plain signs s j)
    → (past ≡ true → n ≤ i) → (one ≡ true → plain signs (get_or s i 0) (get_or (take w (drop 1 s)) i 0) ≡ true) → all && (past || one) ≡ true
    → (j : ℕ) → j < i + 1 → j < n → Plain signs s j
front_next {signs} {s} {all} {past} {one} i n w h l before gone here e j m k =
    let q = (and-eq-true_iff all (past || one)).0 e in
    less_or_not j i (λ b. before q.0 j b k) (λ b. subst (Plain signs s) (omega arith) (record { followed = h; adds_itself = subst (λ (x : ℕ). plain signs (get_or s i 0) x ≡ true) (next_byte s i w l) (here (on past one gone (omega arith) q.1)) }))
  where
    on : (p o : Bool) → (p ≡ true → n ≤ i) → i < n → p || o ≡ true → o ≡ true
    on true o g less t = absurd (omega (arith, g refl))
    on false o g less t = t

module _ (signs : Bool) (s : Bytes) (from to i : ℕ) (h : to ≤ length s) where
  bytes_here : from + i + 1 < to → plain signs (get_or (slice from to s) i 0) (get_or (slice from to s) (i + 1) 0) ≡ plain signs (get_or s (from + i) 0) (get_or s (from + i + 1) 0)
  bytes_here k =
      let z : from + (i + 1) ≡ from + i + 1 = omega arith in
      ap₂ (λ (x y : ℕ). plain signs x y) (part_byte s from to i (omega arith)) (part_byte s from to (i + 1) (omega arith) ∙ ap (λ (j : ℕ). get_or s j 0) z)

  -- a plain byte of a part
  pub plain_part : from + i + 1 < to → Plain signs s (from + i) → Plain signs (slice from to s) i
  plain_part k p = record { followed = omega (arith, length-slice from to s h); adds_itself = bytes_here k ∙ p.adds_itself }

  pub plain_here : Plain signs (slice from to s) i → Plain signs s (from + i)
  plain_here p =
      let k : from + i + 1 < to = omega (arith, length-slice from to s h, p.followed) in
      record { followed = omega arith; adds_itself = sym (bytes_here k) ∙ p.adds_itself }

-- the plain bytes of a block
pub block_plain : {signs : Bool} (s b : Bytes) (at : ℕ) → at + 17 ≤ length s → b ≡ slice at (at + 17) s → ((i : ℕ) → i < 16 → Plain signs b i) → (j : ℕ) → at ≤ j → j < at + 16 → Plain signs s j
block_plain {signs} s b at h e f j l m =
    subst (Plain signs s) (omega arith) (plain_here signs s at (at + 17) (j - at) h (subst (λ (x : Bytes). Plain signs x (j - at)) e (f (j - at) (omega arith))))

-- `&s[at..]` begins with it
pub block_first : (s b : Bytes) (at : ℕ) → 17 ≤ length (take (length s - at) (drop at s)) → b ≡ take 17 (take (length s - at) (drop at s)) → (at + 17 ≤ length s) × (b ≡ slice at (at + 17) s)
block_first s b at h e =
    let k : at + 17 ≤ length s = omega (arith, length-take (length s - at) (drop at s), length-drop at s) in
    (k, e ∙ ap (take 17) (part_is at (length s) s) ∙ slice_front s at (length s) 17 k)

pub flow_split : (escape : Bool) (part rest : Bytes) → flow escape (part ++ rest) ≡ flow_before escape part rest ++ flow escape rest
unfolding flow flow_before
flow_split escape [] rest = refl
flow_split escape (b ∷ part) rest =
    ap (λ (x : Bytes). added escape b (part ++ rest) ++ x) (flow_split escape part rest)
    ∙ sym (append_assoc (added escape b (part ++ rest)) (flow_before escape part rest) (flow escape rest))

-- ---- words

bracket_black : (b : ℕ) → white b ≡ true → eqb b 91 ≡ false
unfolding white isin
bracket_black b e = ne_eqb b 91 (λ q. false≢true (sym (ap white q) ∙ e))

-- the first part begins as the text does, up to a white byte
bracket_first : (s : Bytes) → starts_with (ascii "[") s ≡ starts_with (ascii "[") (parts white s).0
unfolding starts_with parts cut_at same
bracket_first [] = refl
bracket_first (b ∷ s) = on (white b) refl
  where
    on : (t : Bool) → white b ≡ t → starts_with (ascii "[") (b ∷ s) ≡ starts_with (ascii "[") (cut_at t b (parts white s)).0
    on true e = rw (bracket_black b e)
    on false e = refl

pub null_first : (s : Bytes) → null (parts white s).0 ≡ not (starts_black s)
unfolding parts cut_at null starts_black
null_first [] = refl
null_first (b ∷ s) = on (white b)
  where
    on : (t : Bool) → null (cut_at t b (parts white s)).0 ≡ not (not t)
    on true = refl
    on false = refl

marks_none : (escape : Bool) → marks escape false false false [] ≡ []
unfolding def.escaped_from
marks_none true = refl
marks_none false = refl

-- one byte more of a word
marks_on : (escape : Bool) (b : ℕ) (s more : Bytes) → (cond (escape && def.is_escaped false false false b s) (ascii "\\") [] ++ (b ∷ [])) ++ (marks escape false false false (parts white s).0 ++ more)
    ≡ marks escape false false false (b ∷ (parts white s).0) ++ more
unfolding def.escaped_from def.is_escaped
marks_on true b s more = rw (bracket_first s) (simp append_assoc)
marks_on false b s more = refl

-- a text is the rest of a word and the words behind it
abbrev Parted : Bool → Bytes → Type 0
Parted escape s = flow escape s ≡ marks escape false false false (parts white s).0 ++ def.more_words escape (filled (parts white s).1)

words_parted : (escape : Bool) (s : Bytes) → Parted escape s → def.more_words escape (words s) ≡ cond (starts_black s) (ascii " ") [] ++ flow escape s
unfolding words split filled null def.more_words
words_parted escape s = on (parts white s).0 (starts_black s) (null_first s)
  where
    more : List Bytes
    more = filled (parts white s).1

    on : (w : Bytes) (t : Bool) → null w ≡ not t → flow escape s ≡ marks escape false false false w ++ def.more_words escape more
        → def.more_words escape (cond (null w) more (w ∷ more)) ≡ cond t (ascii " ") [] ++ flow escape s
    on [] true e h = absurd (false≢true (sym e))
    on [] false e h = sym (h ∙ ap (λ (x : Bytes). x ++ def.more_words escape more) (marks_none escape))
    on (c ∷ w) true e h = ap (λ (x : Bytes). ascii " " ++ (x ++ def.more_words escape more)) (inner_chunk (c ∷ w) escape) ∙ ap (λ (x : Bytes). ascii " " ++ x) (sym h)
    on (c ∷ w) false e h = absurd (false≢true e)

parted : (escape : Bool) (s : Bytes) → Parted escape s
unfolding flow added parts cut_at filled words split def.more_words
parted escape [] = sym (ap (λ (x : Bytes). x ++ []) (marks_none escape))
parted escape (b ∷ s) = on (white b) (parted escape s)
  where
    on : (t : Bool) → Parted escape s → cond t (cond (starts_black s) (ascii " ") []) (cond (escape && def.is_escaped false false false b s) (ascii "\\") [] ++ (b ∷ [])) ++ flow escape s
        ≡ marks escape false false false (cut_at t b (parts white s)).0 ++ def.more_words escape (filled (cut_at t b (parts white s)).1)
    on true h = sym (ap (λ (x : Bytes). x ++ def.more_words escape (words s)) (marks_none escape) ∙ words_parted escape s h)
    on false h =
        ap (λ (x : Bytes). (cond (escape && def.is_escaped false false false b s) (ascii "\\") [] ++ (b ∷ [])) ++ x) h
        ∙ marks_on escape b s (def.more_words escape (filled (parts white s).1))

-- words from one on, each behind a blank
pub words_flow : (s : Bytes) → starts_black s ≡ true → (escape : Bool) → def.more_words escape (words s) ≡ ascii " " ++ flow escape s
words_flow s black escape = words_parted escape s (parted escape s) ∙ ap (λ (t : Bool). cond t (ascii " ") [] ++ flow escape s) black

-- ---- a whole text of plain bytes

-- a byte that adds itself, or is a blank, adds itself anyway if it is not white
black_kept : (signs : Bool) (b : ℕ) (e : Bool) → (e ≡ true → eqb b 32 ≡ true) → kept signs b || e ≡ true → white b ≡ false → kept signs b ≡ true
black_kept signs b e is h w = on (kept signs b) h
  where
    on : (o : Bool) → o || e ≡ true → o ≡ true
    on true h = refl
    on false h = absurd (false≢true (sym w ∙ blank_white b (is h)))

-- so that those of the first word do
kept_first : (signs : Bool) (s : Bytes) → ((i : ℕ) → i < length s → white (get_or s i 0) ≡ false → kept signs (get_or s i 0) ≡ true) → every (kept signs) (parts white s).0 ≡ true
unfolding parts cut_at every
kept_first signs [] h = refl
kept_first signs (b ∷ s) h = on (white b) refl (kept_first signs s (λ i q. h (suc i) (omega arith)))
  where
    on : (t : Bool) → white b ≡ t → every (kept signs) (parts white s).0 ≡ true → every (kept signs) (cut_at t b (parts white s)).0 ≡ true
    on true e r = refl
    on false e r = ap₂ (λ (x y : Bool). x && y) (h 0 (omega arith) e) r

kept_black : (signs : Bool) (b : ℕ) → kept signs b ≡ true → white b ≡ false
kept_black true b h = (ordinary_parts (white b) (isin b ALWAYS_ESCAPED) (eqb b 33) h).0
kept_black false b h = not-true (white b) h

-- the last byte, and the blank that stands for white bytes at the end
last_flow : (signs escape : Bool) (b : ℕ) → (escape ≡ true → signs ≡ true) → kept signs b || eqb b 32 ≡ true → flow escape (b ∷ []) ++ cond (white b) (ascii " ") [] ≡ b ∷ []
unfolding flow added starts_black
last_flow signs escape b only h = on (white b) refl
  where
    on : (t : Bool) → white b ≡ t → flow escape (b ∷ []) ++ cond t (ascii " ") [] ≡ b ∷ []
    on true w = rw w (ap (λ (x : ℕ). x ∷ []) (sym (eqb-true b 32 (blank (kept signs b) refl h))))
      where
        blank : (o : Bool) → kept signs b ≡ o → o || eqb b 32 ≡ true → eqb b 32 ≡ true
        blank true q k = absurd (false≢true (sym (kept_black signs b q) ∙ w))
        blank false q k = k
    on false w = ap (λ (x : Bytes). (x ++ []) ++ []) (added_kept signs escape b [] only (black_kept signs b (eqb b 32) (λ e. e) h w))

-- a text ends white where its last byte is
ends_last : (s : Bytes) (n : ℕ) → length s ≡ n + 1 → def.ends_with_white s ≡ white (get_or s n 0)
unfolding def.ends_with_white trim_ascii_end
ends_last s n long = on (white (get_or s n 0)) refl
  where
    on : (t : Bool) → white (get_or s n 0) ≡ t → not (same (trim_end_matches (one white) s) s) ≡ t
    on true w =
        let all : take (suc n) s ≡ s = take_all (suc n) s (omega arith) in
        let e : n ≡ suc n - 1 = omega arith in
        let q = ap (trim_end_matches (one white)) (sym all) ∙ trim_less white s (suc n) (omega arith) (omega arith) (subst (λ (k : ℕ). white (get_or s k 0) ≡ true) e w) ∙ ap (λ (k : ℕ). trim_end_matches (one white) (take k s)) (sym e) in
        ap not (not_long (trim_end_matches (one white) s) s (λ h. omega (arith, h, ap length q, trim_long (one white) (take n s), length-take-le n s (omega arith))))
    on false w = ap (λ (x : Bytes). not (same x s)) (trim_whole white s n long w) ∙ ap not (same_self s)

-- what stands from the last byte on
pub drop_last : (s : Bytes) (n : ℕ) → length s ≡ n + 1 → drop n s ≡ get_or s n 0 ∷ []
drop_last s n long = drop-cons s n 0 (omega arith) ∙ ap (λ (r : Bytes). get_or s n 0 ∷ r) (drop_of_length-le s {i = suc n} (omega arith))

-- no backslash stands before the first word
no_lead : (escape dot digits : Bool) → (escape ≡ true → dot ≡ false) → escape && (dot && digits) ≡ false
no_lead true dot digits h = rw (h refl)
no_lead false dot digits h = refl

normal_words : (opts : Opts.FormatOpts) (text s w : Bytes) (ws : List Bytes) → def.starts_with_white s ≡ false → (not opts.skip_escape ≡ true → same w (ascii ".") || same w (ascii ")") ≡ false)
    → ((start : Bool) → def.escaped_chunk w (not opts.skip_escape) start ≡ w) → def.normalized_words opts text s (w ∷ ws) ≡ w ++ (def.more_words (not opts.skip_escape) ws ++ cond (def.ends_with_white s) (ascii " ") [])
unfolding def.normalized_words
normal_words opts text s w ws a b c =
    simp (a, no_lead (not opts.skip_escape) (same w (ascii ".") || same w (ascii ")")) (def.ends_with_marker_digits text) b, c, and-false)

-- each byte of a text adds itself, but a last blank, which is added behind the words
flow_whole : (signs escape : Bool) (s : Bytes) (n : ℕ) → length s ≡ n + 1 → Flows signs s n → kept signs (get_or s n 0) || eqb (get_or s n 0) 32 ≡ true → (escape ≡ true → signs ≡ true)
    → flow escape s ++ cond (def.ends_with_white s) (ascii " ") [] ≡ s
flow_whole signs escape s n long f last only =
    let x = get_or s n 0 in
    ap₂ (λ (r : Bytes) (t : Bool). r ++ cond t (ascii " ") []) (flows_flow escape only f ∙ ap (λ (r : Bytes). take n s ++ flow escape r) (drop_last s n long)) (ends_last s n long)
    ∙ append_assoc (take n s) (flow escape (x ∷ [])) (cond (white x) (ascii " ") [])
    ∙ ap (λ (r : Bytes). take n s ++ r) (last_flow signs escape x only last)
    ∙ sym (take-suc s n 0 (omega arith)) ∙ take_all (suc n) s (omega arith)

module _ (b : ℕ) (s : Bytes) (black : white b ≡ false) where
  abbrev first : Bytes
  first = b ∷ (parts white s).0

  abbrev more : List Bytes
  more = filled (parts white s).1

  parts_are : parts white (b ∷ s) ≡ (first, (parts white s).1)
  unfolding parts cut_at
  parts_are = ap (λ (t : Bool). cut_at t b (parts white s)) black

  words_are : words (b ∷ s) ≡ first ∷ more
  unfolding words split filled null
  words_are = rw parts_are

  -- the words, none of which begins a line, are what the bytes add
  words_flow_is : (escape : Bool) → def.escaped_chunk first escape false ++ def.more_words escape more ≡ flow escape (b ∷ s)
  words_flow_is escape =
      ap (λ (x : Bytes). x ++ def.more_words escape more) (inner_chunk first escape)
      ∙ ap (λ (r : Bytes × List Bytes). marks escape false false false r.0 ++ def.more_words escape (filled r.1)) (sym parts_are)
      ∙ sym (parted escape (b ∷ s))

module _ (signs : Bool) (b : ℕ) (s : Bytes) (n : ℕ) (long : length (b ∷ s) ≡ n + 1) (black : white b ≡ false) (starts : signs ≡ true → MayStart (b ∷ (parts white s).0)) (f : Flows signs (b ∷ s) n) (last : kept signs (get_or (b ∷ s) n 0) || eqb (get_or (b ∷ s) n 0) 32 ≡ true) where
  first_kept : every (kept signs) (first b s black) ≡ true
  first_kept =
      ap (λ (r : Bytes × List Bytes). every (kept signs) r.0) (sym (parts_are b s black))
      ∙ kept_first signs (b ∷ s) (λ i h w. on i h w (eqb i n) refl)
    where
      on : (i : ℕ) → i < length (b ∷ s) → white (get_or (b ∷ s) i 0) ≡ false → (t : Bool) → eqb i n ≡ t → kept signs (get_or (b ∷ s) i 0) ≡ true
      on i h w true e =
          let z = eqb-true i n e in
          ap (λ (j : ℕ). kept signs (get_or (b ∷ s) j 0)) z
          ∙ black_kept signs (get_or (b ∷ s) n 0) (eqb (get_or (b ∷ s) n 0) 32) (λ k. k) last (subst (λ (j : ℕ). white (get_or (b ∷ s) j 0) ≡ false) z w)
      on i h w false e =
          let ne = eqb-false i n e in
          let x = get_or (b ∷ s) i 0 in
          let y = not (white (get_or (b ∷ s) (i + 1) 0)) in
          black_kept signs x (eqb x 32 && y) (λ k. ((and-eq-true_iff (eqb x 32) y).0 k).0) (f.each i (omega arith)).adds_itself w

  no_dot : MayStart (first b s black) → same (first b s black) (ascii ".") || same (first b s black) (ascii ")") ≡ false
  unfolding same
  no_dot m = rw (ne_eqb b 46 (λ q. omega (arith, m.above_dot)), ne_eqb b 41 (λ q. omega (arith, m.above_dot)))

  module _ (escape : Bool) (only : escape ≡ true → signs ≡ true) where
    first_bare : (start : Bool) → def.escaped_chunk (first b s black) escape start ≡ first b s black
    first_bare start =
        bare_chunk (first b s black) escape start (λ e. subst (λ (t : Bool). every (kept t) (first b s black) ≡ true) (only e) first_kept) (λ e h k. starts (only e))

    words_back : first b s black ++ (def.more_words escape (more b s black) ++ cond (def.ends_with_white (b ∷ s)) (ascii " ") []) ≡ b ∷ s
    words_back =
        sym (append_assoc (first b s black) (def.more_words escape (more b s black)) (cond (def.ends_with_white (b ∷ s)) (ascii " ") []))
        ∙ ap (λ (x : Bytes). (x ++ def.more_words escape (more b s black)) ++ cond (def.ends_with_white (b ∷ s)) (ascii " ") []) (sym (first_bare false))
        ∙ ap (λ (x : Bytes). x ++ cond (def.ends_with_white (b ∷ s)) (ascii " ") []) (words_flow_is b s black escape)
        ∙ flow_whole signs escape (b ∷ s) n long f last only

  bare_from : (opts : Opts.FormatOpts) (text : List ℕ) → (not opts.skip_escape ≡ true → signs ≡ true) → def.normalized opts text (b ∷ s) ≡ b ∷ s
  unfolding def.normalized def.starts_with_white is_blank every null
  bare_from opts text only =
      let escape = not opts.skip_escape in
      rw (black, and-false, words_are b s black)
      (normal_words opts text (b ∷ s) (first b s black) (more b s black) black (λ e. no_dot (starts (only e))) (first_bare escape only) ∙ words_back escape only)

-- a text of plain bytes, of which the last may be a blank, is appended as it is: where signs are escaped, if its first word
-- may start a line
pub bare_flow : {signs : Bool} (s : Bytes) → Whole signs s → white (get_or s 0 0) ≡ false → (signs ≡ true → MayStart (parts white s).0)
    → (opts : Opts.FormatOpts) (text : List ℕ) → (not opts.skip_escape ≡ true → signs ≡ true) → def.normalized opts text s ≡ s
unfolding parts cut_at
bare_flow [] v black starts = absurd (omega (arith, v.long))
bare_flow {signs} (b ∷ s) v black starts =
    bare_from signs b s v.last v.long black (λ e. subst (λ (t : Bool). MayStart (cut_at t b (parts white s)).0) black (starts e)) v.flows v.ends

-- ---- behind a text that ends inside a line

-- no line begins behind it, and no marker's number ends it
pub record Inside (text : Bytes) : Type 0 where
  pub line : ends_with (ascii "\n") text ≡ false
  pub blank : ends_with (ascii " ") text ≡ false
  pub some : null text ≡ false
  pub digits : def.ends_with_marker_digits text ≡ false

-- so it is where the last byte is neither white nor a digit
pub inside_of : (text : Bytes) (n : ℕ) → length text ≡ n + 1 → white (get_or text n 0) ≡ false → digit (get_or text n 0) ≡ false → Inside text
unfolding ends_with same null white isin def.ends_with_marker_digits
inside_of text n long black other =
    let x = get_or text n 0 in
    let z : length text - 1 ≡ n = omega arith in
    let ends : (y : ℕ) → (x ≡ y → ⊥) → same (drop (length text - 1) text) (y ∷ []) ≡ false = λ y h. ap (λ (k : ℕ). same (drop k text) (y ∷ [])) z ∙ ap (λ (r : Bytes). same r (y ∷ [])) (drop_last text n long) ∙ rw (ne_eqb x y h) in
    let stem = trim_whole digit text n long other in
    let none : length text - length (trim_end_matches (one digit) text) ≡ 0 = omega (arith, ap length stem) in
    record {
      line = ends 10 (λ h. false≢true (sym black ∙ ap white h));
      blank = ends 32 (λ h. false≢true (sym black ∙ ap white h));
      some = not_empty text (omega arith);
      digits = ap (λ (k : ℕ). (leb 1 k && leb k 9) && def.at_indent (def.before_marker (trim_end_matches (one digit) text))) none;
    }
  where
    not_empty : (t : Bytes) → 0 < length t → null t ≡ false
    not_empty [] h = absurd (omega arith)
    not_empty (b ∷ t) h = refl

inner_words : (opts : Opts.FormatOpts) (text s w : Bytes) (ws : List Bytes) → Inside text → opts.list_item ≡ false
    → def.normalized_words opts text s (w ∷ ws) ≡ cond (def.starts_with_white s) (ascii " ") [] ++ (def.escaped_chunk w (not opts.skip_escape) false ++ (def.more_words (not opts.skip_escape) ws ++ cond (def.ends_with_white s) (ascii " ") []))
unfolding def.normalized_words
inner_words opts text s w ws h l = simp (h.line, h.blank, h.some, h.digits, l, and-false, or-true)

module _ (opts : Opts.FormatOpts) (text : Bytes) (h : Inside text) (l : opts.list_item ≡ false) where
  abbrev escape : Bool
  escape = not opts.skip_escape

  abbrev end : Bytes → Bytes
  end s = cond (def.ends_with_white s) (ascii " ") []

  -- the words behind what stands before them
  inner_from : (t : Bool) (b : ℕ) (s : Bytes) (black : white b ≡ false) (e : Bytes) → cond t (ascii " ") [] ++ (def.escaped_chunk (first b s black) escape false ++ (def.more_words escape (more b s black) ++ e)) ≡ cond t (ascii " ") [] ++ (flow escape (b ∷ s) ++ e)
  inner_from t b s black e =
      ap (λ (x : Bytes). cond t (ascii " ") [] ++ x)
      (sym (append_assoc (def.escaped_chunk (first b s black) escape false) (def.more_words escape (more b s black)) e) ∙ ap (λ (x : Bytes). x ++ e) (words_flow_is b s black escape))

  inner_black : (b : ℕ) (s : Bytes) → white b ≡ false → def.normalized opts text (b ∷ s) ≡ flow escape (b ∷ s) ++ end (b ∷ s)
  unfolding def.normalized def.starts_with_white is_blank every null
  inner_black b s black =
      rw (black, and-false, words_are b s black)
      (inner_words opts text (b ∷ s) (first b s black) (more b s black) h l ∙ inner_from (white b) b s black (end (b ∷ s)) ∙ ap (λ (t : Bool). cond t (ascii " ") [] ++ (flow escape (b ∷ s) ++ end (b ∷ s))) black)

  words_blank : (b : ℕ) (s : Bytes) (black : white b ≡ false) → words (32 ∷ b ∷ s) ≡ first b s black ∷ more b s black
  unfolding words split filled null parts cut_at white isin
  words_blank b s black = rw black

  flow_blank : (b : ℕ) (s : Bytes) → white b ≡ false → ascii " " ++ flow escape (b ∷ s) ≡ flow escape (32 ∷ b ∷ s)
  unfolding flow added starts_black white isin
  flow_blank b s black = ap (λ (t : Bool). cond (not t) (ascii " ") [] ++ flow escape (b ∷ s)) (sym black)

  inner_blank : (b : ℕ) (s : Bytes) → white b ≡ false → def.normalized opts text (32 ∷ b ∷ s) ≡ flow escape (32 ∷ b ∷ s) ++ end (32 ∷ b ∷ s)
  unfolding def.normalized def.starts_with_white is_blank every null white isin
  inner_blank b s black =
      rw (black, and-false, words_blank b s black)
      (inner_words opts text (32 ∷ b ∷ s) (first b s black) (more b s black) h l ∙ inner_from true b s black (end (32 ∷ b ∷ s)) ∙ ap (λ (x : Bytes). x ++ end (32 ∷ b ∷ s)) (flow_blank b s black))

-- a blank that is plain stands before a word
plain_blank : (signs : Bool) (b y : ℕ) → white b ≡ true → plain signs b y ≡ true → (b ≡ 32) × (white y ≡ false)
plain_blank signs b y w h = on (kept signs b) refl h
  where
    on : (o : Bool) → kept signs b ≡ o → o || (eqb b 32 && not (white y)) ≡ true → (b ≡ 32) × (white y ≡ false)
    on true k h = absurd (false≢true (sym (kept_black signs b k) ∙ w))
    on false k h = let q = (and-eq-true_iff (eqb b 32) (not (white y))).0 h in (eqb-true b 32 q.0, not-true (white y) q.1)

-- a text of plain bytes, of which the last may be a blank, is appended as it is behind a text that ends inside a line, unless it is a
-- blank alone
pub inner_flow : {signs : Bool} (s : Bytes) → Whole signs s → eqb (length s) 1 && eqb (get_or s 0 0) 32 ≡ false
    → (opts : Opts.FormatOpts) (text : Bytes) → (not opts.skip_escape ≡ true → signs ≡ true) → Inside text → opts.list_item ≡ false → def.normalized opts text s ≡ s
inner_flow {signs} s v more opts text only h l = go s v more
  where
    whole : (s : Bytes) → Whole signs s → flow (escape opts text h l) s ++ end opts text h l s ≡ s
    whole s v = flow_whole signs (escape opts text h l) s v.last v.long v.flows v.ends only

    behind : (b c : ℕ) (r : Bytes) → b ≡ 32 → white c ≡ false → Whole signs (b ∷ c ∷ r) → def.normalized opts text (b ∷ c ∷ r) ≡ b ∷ c ∷ r
    behind b c r e w =
        subst (λ (x : ℕ). Whole signs (x ∷ c ∷ r) → def.normalized opts text (x ∷ c ∷ r) ≡ x ∷ c ∷ r) (sym e) (λ v. inner_blank opts text h l c r w ∙ whole (32 ∷ c ∷ r) v)

    go : (s : Bytes) → Whole signs s → eqb (length s) 1 && eqb (get_or s 0 0) 32 ≡ false → def.normalized opts text s ≡ s
    go [] v more = absurd (omega (arith, v.long))
    go (b ∷ s) v more = on (white b) refl s v more
      where
        on : (t : Bool) → white b ≡ t → (s : Bytes) → Whole signs (b ∷ s) → eqb (length (b ∷ s)) 1 && eqb b 32 ≡ false → def.normalized opts text (b ∷ s) ≡ b ∷ s
        on false w s v more = inner_black opts text h l b s w ∙ whole (b ∷ s) v
        on true w [] v more = absurd (alone (kept signs b) refl (subst (λ (k : ℕ). kept signs (get_or (b ∷ []) k 0) || eqb (get_or (b ∷ []) k 0) 32 ≡ true) z v.ends))
          where
            z : v.last ≡ 0
            z = omega (arith, v.long)

            alone : (o : Bool) → kept signs b ≡ o → o || eqb b 32 ≡ true → ⊥
            alone true k e = false≢true (sym (kept_black signs b k) ∙ w)
            alone false k e = false≢true (sym more ∙ e)
        on true w (c ∷ s) v more =
            let q = plain_blank signs b c w (v.flows.each 0 (omega (arith, v.long))).adds_itself in behind b c s q.0 q.1 v
