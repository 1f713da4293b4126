-- Texts whose emphasis a reader finds: escaped words, and escaped words between marks beside which the flanking rules hold.
use Rattle.std.specs.Prelude.{ℕ, zero, suc, ◌≤◌, ◌≡◌, refl, Bool, true, false, cond, not, ◌&&◌, ◌||◌, List, [], ◌∷◌, ◌++◌, map, eqb, leb, replicate}
use Rattle.std.proofs.Common.{arith, ◌∙◌, subst, true≢false, append-nil, append_assoc, leb-true, le-leb}
use Rattle.std.proofs.Math.Path.{ap}
use Rattle.std.proofs.lemmas.Bool.{false≢true, lt-leb, not-true}
use Rattle.std.proofs.Math.Bool.{and-false}
use Rattle.std.proofs.Math.Option.{some}
use Rattle.spec.specs.Bytes.{Bytes, null, same, isin, every, starts_with, white, digit}
use Rattle.spec.specs.Reading.Lines.{punctuation, letter, letter_or_digit, head_is}
use Rattle.spec.specs.Reading.Inline as reading
use Rattle.spec.specs.Reading.Inline.{escaped, slashed, anywhere, Beside, beside_white, left_flanking, may_open}
use Rattle.spec.specs.Pieces.Emphasis.{Classes}
use Rattle.spec.specs.Pieces.EmphasisReading.{Inlines, nothing, joined, bytes, Run, Token, plain, delimiters, Beside_of, tokens, Stack, stack, delimited, processed, ended, whole, foreign, inlines_by, inlines}
use Rattle.spec.proofs.Tests.{and_l, and_r, or_elim, every_app, every_replicate, apart, isin_no, isin_yes}
use Rattle.recovery.proofs.Escapes.{bare, Esc, enil, ebare, eback, bare_not, begins_bare, begins_back}
use Rattle.recovery.proofs.Pieces.Emphasis.{may_open_lem}
use Rattle.recovery.proofs.Written.Ends.{last_is, first_is}
use Rattle.recovery.proofs.Pieces.EmphasisTokens.{joined_nil, joined_assoc, put_base, processed_plain, tokens_Esc, tokens_stars, star_run, extra, wrap, marks, pair}

-- ---- the flanking rules

-- a byte beside which an asterisk can open or close emphasis on the other side; blank: white space, or nothing, stands on that side
unfoldable pub edge : Bool → ℕ → Bool
edge blank b = letter_or_digit b || (blank && punctuation b)

-- letters and digits are told by their ranges
abbrev pub Lettered : ℕ → Type 0
Lettered b = (punctuation b ≡ false) × (leb b 127 ≡ true)

pub lettered : (b : ℕ) → letter_or_digit b ≡ true → Lettered b
unfolding letter_or_digit letter digit punctuation
lettered b h = or_elim ((leb 65 b && leb b 90) || (leb 97 b && leb b 122)) _ (or_elim (leb 65 b && leb b 90) _ upper lower) figure h
  where
    upper : (leb 65 b && leb b 90) ≡ true → Lettered b
    upper e =
        let x = leb-true 65 b (and_l (leb 65 b) _ e) in
        let y = leb-true b 90 (and_r (leb 65 b) _ e) in (
          rw (
            lt-leb b 47 (omega arith),
            lt-leb b 64 (omega arith),
            lt-leb 91 b (omega arith),
            lt-leb 123 b (omega arith),
            and-false (leb 33 b),
            and-false (leb 58 b),
          ),
          le-leb b 127 (omega arith),
        )

    lower : (leb 97 b && leb b 122) ≡ true → Lettered b
    lower e =
        let x = leb-true 97 b (and_l (leb 97 b) _ e) in
        let y = leb-true b 122 (and_r (leb 97 b) _ e) in (
          rw (
            lt-leb b 47 (omega arith),
            lt-leb b 64 (omega arith),
            lt-leb b 96 (omega arith),
            lt-leb 123 b (omega arith),
            and-false (leb 33 b),
            and-false (leb 58 b),
            and-false (leb 91 b),
          ),
          le-leb b 127 (omega arith),
        )

    figure : (leb 48 b && leb b 57) ≡ true → Lettered b
    figure e =
        let x = leb-true 48 b (and_l (leb 48 b) _ e) in
        let y = leb-true b 57 (and_r (leb 48 b) _ e) in
        (rw (lt-leb b 47 (omega arith), lt-leb 58 b (omega arith), lt-leb 91 b (omega arith), lt-leb 123 b (omega arith), and-false (leb 33 b)), le-leb b 127 (omega arith))

pub signs_ascii : (b : ℕ) → punctuation b ≡ true → leb b 127 ≡ true
unfolding punctuation
signs_ascii b h =
    or_elim (leb 33 b && leb b 47) _ (up_to 33 47 (omega arith))
    (or_elim (leb 58 b && leb b 64) _ (up_to 58 64 (omega arith)) (or_elim (leb 91 b && leb b 96) _ (up_to 91 96 (omega arith)) (up_to 123 126 (omega arith)))) h
  where
    up_to : (low high : ℕ) → high ≤ 127 → (leb low b && leb b high) ≡ true → leb b 127 ≡ true
    up_to low high k e = let y = leb-true b high (and_r (leb low b) _ e) in le-leb b 127 (omega arith)

pub edge_ascii : (p : Bool) (b : ℕ) → edge p b ≡ true → leb b 127 ≡ true
unfolding edge
edge_ascii p b h = or_elim (letter_or_digit b) _ (λ e. (lettered b e).1) (λ e. signs_ascii b (and_r p _ e)) h

flanking_text : (q : Beside) (b : ℕ) → letter_or_digit b ≡ true → left_flanking q (reading.beside b) ≡ true
unfolding reading.beside left_flanking white
flanking_text q b e =
    let a : leb 128 b ≡ false = lt-leb 128 b (omega (arith, leb-true b 127 (lettered b e).1)) in
    rw (isin_no letter_or_digit b (9 ∷ 10 ∷ 12 ∷ 13 ∷ 32 ∷ []) e (unfold every letter_or_digit letter digit in refl), (lettered b e).0, a)

flanking_sign : (b : ℕ) → punctuation b ≡ true → left_flanking beside_white (reading.beside b) ≡ true
unfolding reading.beside left_flanking white reading.is_text
flanking_sign b e = rw (isin_no punctuation b (9 ∷ 10 ∷ 12 ∷ 13 ∷ 32 ∷ []) e (unfold every punctuation in refl), e)

-- with q on the other side
flanking : (p : Bool) (q : Beside) (b : ℕ) → edge p b ≡ true → (p ≡ true → q ≡ beside_white) → may_open 42 q (reading.beside b) ≡ true
unfolding edge
flanking p q b h w =
    may_open_lem q (reading.beside b)
    ∙ or_elim (letter_or_digit b) _ (λ e. flanking_text q b e)
    (λ e. ap (λ (r : Beside). left_flanking r (reading.beside b)) (w (and_l p _ e)) ∙ flanking_sign b (and_r p _ e)) h

-- ---- texts that are read

unfoldable pub in_line : ℕ → Bool
in_line b = not (eqb b 10)

-- behind a text: whether white space, or nothing, is the last
unfoldable pub white_behind : Bool → Bytes → Bool
white_behind p e = cond (null e) p (last_is white e)

-- c is read as y; p: white space, or nothing, stands before it
pub record Spelt (k : Classes) (p : Bool) (c : Bytes) (y : Inlines) : Type 0 where
  pub reads : (x : Bytes) (acc : Inlines) → (p ≡ true → k.last x ≡ beside_white)
      → processed (stack acc []) (tokens k.last k.first x 0 false c) ≡ stack (joined acc y) []
  pub line : every in_line c ≡ true
  pub clear : (b : ℕ) → anywhere foreign b false c ≡ false

pub spelt_nothing : (k : Classes) (p : Bool) → Spelt k p [] nothing
unfolding tokens processed every anywhere
spelt_nothing k p = record { reads = λ x acc w. rw (joined_nil acc); line = refl; clear = λ b. refl }

no_break : (s : Bytes) → every in_line s ≡ true → starts_with (32 ∷ 10 ∷ []) s ≡ false
unfolding starts_with same every in_line
no_break [] h = refl
no_break (a ∷ []) h = and-false (eqb a 32)
no_break (a ∷ b ∷ s) h = rw (not-true (eqb b 10) (and_l (not (eqb b 10)) _ (and_r (not (eqb a 10)) _ h))) (and-false (eqb a 32))

line_Esc : {e w : Bytes} → Esc e w → every in_line e ≡ true
unfolding every in_line
line_Esc enil = refl
line_Esc (ebare {b} c h) = rw (bare_not b 10 c (unfold bare isin in refl), line_Esc h)
line_Esc (eback {b} p h) = rw (apart punctuation b 10 p (unfold punctuation in refl), line_Esc h)

clear_Esc : {e w : Bytes} (r : Bytes) → Esc e w → every in_line (e ++ r) ≡ true → ((b : ℕ) → anywhere foreign b false r ≡ false)
    → (b : ℕ) → anywhere foreign b false (e ++ r) ≡ false
unfolding anywhere foreign escaped slashed every in_line isin
clear_Esc r enil l c q = c q
clear_Esc r (ebare {b} {e} h u) l c q =
    rw (begins_bare q b (e ++ r) h (no_break (e ++ r) (and_r (not (eqb b 10)) _ l)), and-false (not (eqb b 42 || (eqb b 95 || false))), bare_not b 92 h (unfold bare isin in refl))
    (clear_Esc r u (and_r (not (eqb b 10)) _ l) c _)
clear_Esc r (eback {b} {e} h u) l c q =
    rw (begins_back q b (e ++ r) h, h) (clear_Esc r u (and_r (not (eqb b 10)) (every in_line (e ++ r)) l) c _)

-- the class of what stands behind a text, by a class of ASCII that its last byte has
record LastByte (k : Classes) (q : ℕ → Bool) (x : Bytes) : Type 0 where
  last : ℕ
  is : q last ≡ true
  class : k.last x ≡ reading.beside last

last_byte : (k : Classes) (q : ℕ → Bool) → ((b : ℕ) → q b ≡ true → leb b 127 ≡ true) → (x e : Bytes) → null e ≡ false → last_is q e ≡ true → LastByte k q (x ++ e)
unfolding last_is null
last_byte k q a x [] n h = absurd (true≢false n)
last_byte k q a x (b ∷ []) n h = record { last = b; is = h; class = k.last_ascii x b (a b h) }
last_byte k q a x (b ∷ c ∷ e) n h =
    subst (λ (r : Bytes). LastByte k q r) (append_assoc x (b ∷ []) (c ∷ e)) (last_byte k q a (x ++ (b ∷ [])) (c ∷ e) refl h)

white_ascii : (b : ℕ) → white b ≡ true → leb b 127 ≡ true
unfolding white every
white_ascii b h = isin_yes (λ b. leb b 127) b (9 ∷ 10 ∷ 12 ∷ 13 ∷ 32 ∷ []) h refl

beside_white_lem : (b : ℕ) → white b ≡ true → reading.beside b ≡ beside_white
unfolding reading.beside
beside_white_lem b h = rw h

white_last : (k : Classes) (p : Bool) (x e : Bytes) → (p ≡ true → k.last x ≡ beside_white) → white_behind p e ≡ true → k.last (x ++ e) ≡ beside_white
unfolding white_behind null
white_last k p x [] w h = ap k.last (append-nil x) ∙ w h
white_last k p x (b ∷ e) w h =
    let r : LastByte k white (x ++ (b ∷ e)) = last_byte k white white_ascii x (b ∷ e) refl h in
    r.class ∙ beside_white_lem r.last r.is

white_first : (k : Classes) (u : Bytes) → first_is white u ≡ true → k.first u ≡ beside_white
unfolding first_is
white_first k [] h = k.first_none
white_first k (b ∷ u) h = k.first_ascii b u (white_ascii b h) ∙ beside_white_lem b h

pub spelt_words : (k : Classes) (p : Bool) {e w u : Bytes} {y : Inlines} → Esc e w → Spelt k (white_behind p e) u y → Spelt k p (e ++ u) (joined (bytes w) y)
spelt_words k p {e} {w} {u} {y} h s =
    record {
      reads =
          λ x acc v.
          ap (processed (stack acc [])) (tokens_Esc k.last k.first x u h)
          ∙ (processed_plain w (stack acc []) (tokens k.last k.first (x ++ e) 0 false u)
          ∙ (ap (λ (t : Stack). processed t (tokens k.last k.first (x ++ e) 0 false u)) (put_base (bytes w) acc)
          ∙ (s.reads (x ++ e) (joined acc (bytes w)) (white_last k p x e v) ∙ ap (λ (z : Inlines). stack z []) (joined_assoc acc (bytes w) y))));
      line = every_app in_line e u (line_Esc h) s.line;
      clear = clear_Esc u h (every_app in_line e u (line_Esc h) s.line) s.clear;
    }

clear_stars : (n : ℕ) (r : Bytes) → ((b : ℕ) → anywhere foreign b false r ≡ false) → (b : ℕ) → anywhere foreign b false (replicate n 42 ++ r) ≡ false
unfolding anywhere foreign escaped slashed isin
clear_stars zero r c b = c b
clear_stars (suc n) r c b = clear_stars n r c _

pub head_Esc : {e w : Bytes} (r : Bytes) → Esc e w → null e ≡ false → head_is 42 (e ++ r) ≡ false
unfolding head_is null
head_Esc r enil n = absurd (true≢false n)
head_Esc r (ebare {b} c h) n = bare_not b 42 c (unfold bare isin in refl)
head_Esc r (eback p h) n = refl

opens_first : (k : Classes) (p : Bool) (q : Beside) (e r : Bytes) → null e ≡ false → first_is (edge p) e ≡ true → (p ≡ true → q ≡ beside_white) → may_open 42 q (k.first (e ++ r)) ≡ true
unfolding null first_is
opens_first k p q [] r n h w = absurd (true≢false n)
opens_first k p q (b ∷ e) r n h w = ap (may_open 42 q) (k.first_ascii b (e ++ r) (edge_ascii p b h)) ∙ flanking p q b h w

closes_last : (k : Classes) (x e u : Bytes) → null e ≡ false → last_is (edge (first_is white u)) e ≡ true → may_open 42 (k.first u) (k.last (x ++ e)) ≡ true
closes_last k x e u n h =
    let r : LastByte k (edge (first_is white u)) (x ++ e) = last_byte k (edge (first_is white u)) (edge_ascii (first_is white u)) x e n h in
    ap (may_open 42 (k.first u)) r.class ∙ flanking (first_is white u) (k.first u) r.last r.is (white_first k u)

pub spelt_marks : (k : Classes) (m p : Bool) {e w u : Bytes} {y : Inlines} → Esc e w → null e ≡ false → first_is (edge p) e ≡ true
    → last_is (edge (first_is white u)) e ≡ true → head_is 42 u ≡ false → Spelt k false u y
    → Spelt k p (marks m ++ (e ++ (marks m ++ u))) (joined (wrap m (bytes w)) y)
unfolding processed
spelt_marks k m p {e} {w} {u} {y} h n f l d s =
    record {
      reads = read;
      line = every_app in_line (marks m) (e ++ (marks m ++ u)) stars_line (every_app in_line e (marks m ++ u) (line_Esc h) behind);
      clear = clear_stars (suc (extra m)) (e ++ (marks m ++ u)) (clear_Esc (marks m ++ u) h (every_app in_line e (marks m ++ u) (line_Esc h) behind) (clear_stars (suc (extra m)) u s.clear));
    }
  where
    L : Beside_of
    L = k.last

    F : Beside_of
    F = k.first

    stars_line : every in_line (marks m) ≡ true
    stars_line = every_replicate in_line (suc (extra m)) 42 (unfold in_line in refl)

    behind : every in_line (marks m ++ u) ≡ true
    behind = every_app in_line (marks m) u stars_line s.line

    read : (x : Bytes) (acc : Inlines) → (p ≡ true → k.last x ≡ beside_white)
        → processed (stack acc []) (tokens L F x 0 false (marks m ++ (e ++ (marks m ++ u)))) ≡ stack (joined acc (joined (wrap m (bytes w)) y)) []
    read x acc v =
        let r : Bytes = e ++ (marks m ++ u) in
        let x₂ : Bytes = (x ++ marks m) ++ e in
        let ts : List Token = tokens L F (x₂ ++ marks m) 0 false u in
        let d₁ : Run = star_run (extra m) true (may_open 42 (F r) (L x)) in
        let d₂ : Run = star_run (extra m) (may_open 42 (L x₂) (F u)) true in
        let t₁ : tokens L F x 0 false (marks m ++ r) ≡ delimiters d₁ ∷ tokens L F (x ++ marks m) 0 false r =
        tokens_stars L F x (extra m) r (head_Esc (marks m ++ u) h n)
        ∙ ap (λ (z : Bool). delimiters (star_run (extra m) z (may_open 42 (F r) (L x))) ∷ tokens L F (x ++ marks m) 0 false r) (opens_first k p (L x) e (marks m ++ u) n f v) in
        let t₂ : tokens L F x₂ 0 false (marks m ++ u) ≡ delimiters d₂ ∷ ts =
        tokens_stars L F x₂ (extra m) u d
        ∙ ap (λ (z : Bool). delimiters (star_run (extra m) (may_open 42 (L x₂) (F u)) z) ∷ ts) (closes_last k (x ++ marks m) e u n l) in
        let t₃ : tokens L F x 0 false (marks m ++ r) ≡ delimiters d₁ ∷ (map plain w ++ (delimiters d₂ ∷ ts)) =
        t₁ ∙ ap (λ (z : List Token). delimiters d₁ ∷ z) (tokens_Esc L F (x ++ marks m) (marks m ++ u) h ∙ ap (λ (z : List Token). map plain w ++ z) t₂) in
        ap (processed (stack acc [])) t₃
        ∙ (processed_plain w (delimited d₁ (stack acc [])) (delimiters d₂ ∷ ts)
        ∙ (ap (λ (z : Stack). processed z ts) (pair m (may_open 42 (L x₂) (F u)) (may_open 42 (F r) (L x)) acc (bytes w))
        ∙ (s.reads (x₂ ++ marks m) (joined acc (wrap m (bytes w))) (λ q. absurd (false≢true q)) ∙ ap (λ (z : Inlines). stack z []) (joined_assoc acc (wrap m (bytes w)) y))))

-- at the beginning of a text
pub spelt_inlines : (k : Classes) (c : Bytes) (y : Inlines) → Spelt k true c y → inlines k c ≡ some y
unfolding inlines inlines_by whole
spelt_inlines k c y s =
    rw (s.clear 32, s.reads [] nothing (λ q. k.last_none)) (unfold stack ended joined in ap some (joined_nil y))
