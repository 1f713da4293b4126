-- What a line of several texts begins: a byte that is escaped or means nothing, or digits behind which no list marker ends.
use Rattle.std.specs.Prelude.{ℕ, ◌≤◌, ◌≡◌, Bool, cond, ◌&&◌, eqb, leb, length}
use Rattle.std.proofs.Common.{arith, ◌∙◌, true≢false, eqb-true}
use Rattle.std.proofs.Math.Path.{refl, sym, ap}
use Rattle.std.proofs.Math.Bool.{true, false, not, and-false, and-true, or-false}
use Rattle.std.proofs.lemmas.Bool.{false≢true}
use mathlib.Core.List.{[], ◌∷◌, ◌++◌, append-nil, append_assoc}
use Rattle.spec.specs.Bytes.{Bytes, ascii, null, isin, every, starts_with, white, digit, take_while}
use Rattle.spec.specs.Md.TextUtils.{is_ordered_list_marker, is_escaped, escaped_from, escaped_chunk}
use Rattle.spec.specs.Pieces.Lines.{is_text_start}
use Rattle.spec.specs.Reading.Lines.{space_or_tab, blank_line, drop_while, drop_run}
use Rattle.spec.specs.Reading.Starts.{text_start, ends, underline, number_by, number, lead, start_by, start, interrupting, underline_or, start_in}
use Rattle.spec.proofs.Tests.{and_l, and_r, or_r, apart, isin_no, every_app}
use Rattle.recovery.proofs.Words.{plain_byte, kept}
use Rattle.recovery.proofs.Starts.{dot, dot_ends, marker_dot_ends, plain_blank, ends_from, mild, lead_mild, bare_mild}
use Rattle.recovery.proofs.Markers.{solid, lead_digit, digits_underline, digits_solid}
use Rattle.recovery.proofs.Written.Ends.{null_app}

-- ---- lines that begin nothing, whatever follows

pub record Free (l : Bytes) : Type 0 where
  pub first : solid l ≡ true
  pub begins : (par : Bool) (z : Bytes) → is_text_start (start_in par (l ++ z)) ≡ true

-- nothing yet; digits, which a dot would make a list marker; or a line that begins no block
pub data Line : Bytes → Type 0 where
  bare : Line []
  digits : {l : Bytes} → every digit l ≡ true → null l ≡ false → Line l
  free : {l : Bytes} → Free l → Line l

text_start_lem : (par : Bool) (r : Bytes) → start r ≡ text_start → underline r ≡ false → is_text_start (start_in par r) ≡ true
unfolding start_in underline_or interrupting is_text_start
text_start_lem true r h u = rw (u, h)
text_start_lem false r h u = rw h

pub free_app : (l r : Bytes) → Free l → Free (l ++ r)
free_app l r f = record { first = more l f.first; begins = λ par z. rw (append_assoc l r z) (f.begins par (r ++ z)) }
  where
    more : (l : Bytes) → solid l ≡ true → solid (l ++ r) ≡ true
    more [] h = unfold solid in absurd (false≢true h)
    more (b ∷ l) h = unfold solid in h

-- ---- digits

take_front : (ds : Bytes) (c : ℕ) (r : Bytes) → every digit ds ≡ true → digit c ≡ false → take_while digit (ds ++ (c ∷ r)) ≡ ds
unfolding take_while every
take_front [] c r h k = rw k
take_front (b ∷ ds) c r h k = rw (and_l (digit b) _ h, take_front ds c r (and_r (digit b) _ h) k)

drop_front : (ds : Bytes) (c : ℕ) (r : Bytes) → every digit ds ≡ true → digit c ≡ false → drop_while digit (ds ++ (c ∷ r)) ≡ c ∷ r
unfolding drop_while every
drop_front [] c r h k = rw k
drop_front (b ∷ ds) c r h k = rw (and_l (digit b) _ h) (drop_front ds c r (and_r (digit b) _ h) k)

take_all : (ds : Bytes) → every digit ds ≡ true → (take_while digit ds ≡ ds) × (drop_while digit ds ≡ [])
unfolding take_while drop_while every
take_all [] h = (refl, refl)
take_all (b ∷ ds) h =
    let r : (take_while digit ds ≡ ds) × (drop_while digit ds ≡ []) = take_all ds (and_r (digit b) _ h) in
    rw (and_l (digit b) _ h) (rw r.0, r.1)

start_behind : (ds : Bytes) (c : ℕ) (r : Bytes) → every digit ds ≡ true → null ds ≡ false → digit c ≡ false
    → start (ds ++ (c ∷ r)) ≡ number_by (dot c && (leb (length ds) 9 && ends r)) ds r
unfolding start start_by every number dot
start_behind [] c r h n k = unfold null in absurd (true≢false n)
start_behind (b ∷ ds) c r h n k =
    rw (lead_digit b (and_l (digit b) _ h), take_front ds c r (and_r (digit b) _ h) k, drop_front ds c r (and_r (digit b) _ h) k)

start_digits : (ds : Bytes) → every digit ds ≡ true → null ds ≡ false → start ds ≡ text_start
unfolding start start_by every number
start_digits [] h n = refl
start_digits (b ∷ ds) h n =
    rw (lead_digit b (and_l (digit b) _ h), (take_all ds (and_r (digit b) _ h)).1)

pub some_length : (ds : Bytes) → null ds ≡ false → 1 ≤ length ds
unfolding null
some_length [] h = absurd (true≢false h)
some_length (b ∷ ds) h = omega arith

-- behind digits, a byte that no marker ends with, or one behind which stands no blank
pub free_behind : (ds : Bytes) (c : ℕ) (r : Bytes) → every digit ds ≡ true → null ds ≡ false → digit c ≡ false
    → ((z : Bytes) → (dot c && (leb (length ds) 9 && ends (r ++ z))) ≡ false) → Free (ds ++ (c ∷ r))
free_behind ds c r h n k f =
    record {
      first = digits_solid ds (c ∷ r) h (some_length ds n);
      begins = λ par z.
          rw (append_assoc ds (c ∷ r) z)
          (text_start_lem par (ds ++ (c ∷ (r ++ z))) (start_behind ds c (r ++ z) h n k ∙ rw (f z) (unfold number_by in refl))
          (digits_underline ds (c ∷ (r ++ z)) h (some_length ds n)));
    }

pub free_other : (ds : Bytes) (c : ℕ) (r : Bytes) → every digit ds ≡ true → null ds ≡ false → digit c ≡ false → dot c ≡ false → Free (ds ++ (c ∷ r))
free_other ds c r h n k d = free_behind ds c r h n k (λ z. rw d)

-- ---- what a line begins

pub line_start_lem : {l : Bytes} → Line l → (par : Bool) → is_text_start (start_in par l) ≡ true
line_start_lem bare par = text_start_lem par [] (unfold start in refl) (unfold underline in refl)
line_start_lem (digits {l} h n) par =
    text_start_lem par l (start_digits l h n) (rw append-nil at (digits_underline l [] h (some_length l n)))
line_start_lem (free {l} f) par = rw append-nil at (f.begins par [])

-- its first byte is no blank
pub line_solid : {l : Bytes} → Line l → null l ≡ false → solid l ≡ true
line_solid bare n = unfold null in absurd (true≢false n)
line_solid (digits {l} h k) n = rw append-nil at (digits_solid l [] h (some_length l k))
line_solid (free f) n = f.first

-- a blank, and what follows
pub line_blank : {l : Bytes} (r : Bytes) → null l ≡ false → Line l → Line (l ++ (32 ∷ r))
line_blank r n bare = unfold null in absurd (true≢false n)
line_blank r n (digits {l} h k) = free (free_other l 32 r h k (unfold digit in refl) (unfold dot in refl))
line_blank r n (free {l} f) = free (free_app l (32 ∷ r) f)

-- ---- a chunk behind digits

digit_bare : (start m u : Bool) (b : ℕ) (r : Bytes) → digit b ≡ true → is_escaped start m u b r ≡ false
unfolding is_escaped digit every
digit_bare start m u b r h =
    rw (
      isin_no digit b (ascii "\\`*_[]<|~") h refl,
      isin_no digit b (ascii "#>-+") h refl,
      and-false start,
      apart digit b 33 h refl,
      isin_no digit b (ascii ".)") h refl,
      and-false m,
      apart digit b 61 h refl,
      and-false u,
      and-false start,
    )

dot_bare : (start m u : Bool) (b : ℕ) (r : Bytes) → dot b ≡ true → is_escaped start m u b r ≡ m
unfolding is_escaped dot every isin
dot_bare start m u b r h =
    rw (
      isin_no dot b (ascii "\\`*_[]<|~") h refl,
      isin_no dot b (ascii "#>-+") h refl,
      and-false start,
      apart dot b 33 h refl,
      or-false (eqb b 41),
      h,
      apart dot b 61 h refl,
      and-false u,
      and-false start,
    )
    (or-false _ ∙ and-true m)

-- a byte that is no digit, and what follows
line_byte_lem : (ds : Bytes) (start m u : Bool) (b : ℕ) (w : Bytes) → every digit ds ≡ true → null ds ≡ false → digit b ≡ false
    → every plain_byte w ≡ true → ((dot b && null w) ≡ true → m ≡ true) → (t o : Bool) → is_escaped start m u b w ≡ t → dot b ≡ o
    → Line (ds ++ (cond t (ascii "\\") [] ++ (b ∷ escaped_from false m u w)))
line_byte_lem ds start m u b w h n d k e true o q p = free (free_other ds 92 (b ∷ escaped_from false m u w) h n (unfold digit in refl) (unfold dot in refl))
line_byte_lem ds start m u b w h n d k e false false q p = free (free_other ds b (escaped_from false m u w) h n d p)
line_byte_lem ds start m u b [] h n d k e false true q p =
    absurd (true≢false (sym (e (unfold null in rw p)) ∙ (sym (dot_bare start m u b [] p) ∙ q)))
line_byte_lem ds start m u b (x ∷ w) h n d k e false true q p =
    free
    (free_behind ds b (escaped_from false m u (x ∷ w)) h n d
    (λ z. rw (ends_from false m u x w z (unfold every in and_l (plain_byte x) _ k), and-false (leb (length ds) 9), and-false (dot b))))

-- the chunk is a list marker behind the digits only where its dot is escaped
pub line_from : (ds : Bytes) (start m u : Bool) (w : Bytes) → every digit ds ≡ true → null ds ≡ false → every plain_byte w ≡ true
    → (dot_ends w ≡ true → m ≡ true) → Line (ds ++ escaped_from start m u w)
unfolding escaped_from every dot_ends
line_from ds start m u [] h n k e = rw append-nil (digits h n)
line_from ds start m u (b ∷ w) h n k e =
    go (digit b) refl
    (λ f. line_from (ds ++ (b ∷ [])) false m u w (every_app digit ds (b ∷ []) h (unfold every in rw f))
    (null_app ds (b ∷ []) (unfold null in refl)) (and_r (plain_byte b) _ k) (λ q. e (rw f q)))
  where
    go : (t : Bool) → digit b ≡ t → (digit b ≡ true → Line ((ds ++ (b ∷ [])) ++ escaped_from false m u w))
        → Line (ds ++ (cond (is_escaped start m u b w) (ascii "\\") [] ++ (b ∷ escaped_from false m u w)))
    go true d f = rw (digit_bare start m u b w d) (rw append_assoc at (f d))
    go false d f = line_byte_lem ds start m u b w h n d (and_r (plain_byte b) _ k) (λ q. e (rw d q)) (is_escaped start m u b w) (dot b) refl refl

-- ---- a chunk at the beginning of a line

-- a chunk of `=` and other bytes is no underline
under_from : (m : Bool) (w z : Bytes) → every plain_byte w ≡ true → every (λ b. eqb b 61) w ≡ false
    → blank_line (drop_run 61 (escaped_from false m false w ++ z)) ≡ false
unfolding escaped_from every
under_from m [] z h n = absurd (true≢false n)
under_from m (b ∷ w) z h n = go (eqb b 61) (is_escaped false m false b w) refl refl n (under_from m w z (and_r (plain_byte b) _ h))
  where
    equals : (r : Bytes) → is_escaped false m false 61 r ≡ false
    equals r = unfold is_escaped isin in rw (and-false m)

    go : (t s : Bool) → eqb b 61 ≡ t → is_escaped false m false b w ≡ s → (t && every (λ b. eqb b 61) w) ≡ false
        → (every (λ b. eqb b 61) w ≡ false → blank_line (drop_run 61 (escaped_from false m false w ++ z)) ≡ false)
        → blank_line (drop_run 61 ((cond s (ascii "\\") [] ++ (b ∷ escaped_from false m false w)) ++ z)) ≡ false
    go true true e q k ih = absurd (true≢false (sym q ∙ (ap (λ (c : ℕ). is_escaped false m false c w) (eqb-true b 61 e) ∙ equals w)))
    go true false e q k ih = unfold drop_run in rw e (ih k)
    go false true e q k ih = unfold drop_run blank_line every space_or_tab in refl
    go false false e q k ih = unfold drop_run blank_line every in rw e (rw (plain_blank b (and_l (plain_byte b) _ h)))

free_slash : (r : Bytes) → Free (92 ∷ r)
free_slash r =
    record {
      first = unfold solid space_or_tab in refl;
      begins = λ par z. text_start_lem par (92 ∷ (r ++ z)) (unfold start start_by lead digit in refl) (unfold underline in refl);
    }

unescaped_equals : (m u : Bool) (b : ℕ) (w : Bytes) → is_escaped true m u b w ≡ false → eqb b 61 ≡ true → u ≡ false
unfolding is_escaped
unescaped_equals m u b w h e =
    sym (and-true u)
    ∙ (ap (λ (t : Bool). u && t) (sym e)
    ∙ or_r (m && isin b (ascii ".)")) _ (or_r (eqb b 33 && starts_with (ascii "[") w) _ (or_r (isin b (ascii "#>-+")) _ (or_r (isin b (ascii "\\`*_[]<|~")) _ h))))

-- no underline, either
mild_underline : (m u : Bool) (b : ℕ) (w z : Bytes) → mild b ≡ true → every plain_byte w ≡ true → every (λ c. eqb c 61) (b ∷ w) ≡ u
    → is_escaped true m u b w ≡ false → underline (b ∷ (escaped_from false m u w ++ z)) ≡ false
unfolding underline mild plain_byte kept white isin
mild_underline m u b w z h k e q = rw (apart mild b 45 h refl) (or-false _ ∙ go (eqb b 61) refl)
  where
    go : (t : Bool) → eqb b 61 ≡ t → (t && blank_line (drop_run 61 (escaped_from false m u w ++ z))) ≡ false
    go true f =
        let n : u ≡ false = unescaped_equals m u b w q f in
        let rest : every (λ c. eqb c 61) (b ∷ w) ≡ every (λ c. eqb c 61) w = unfold every in rw f in
        rw n (under_from m w z k (sym rest ∙ (e ∙ n)))
    go false f = refl

free_mild : (m u : Bool) (b : ℕ) (w : Bytes) → mild b ≡ true → digit b ≡ false → every plain_byte w ≡ true → every (λ c. eqb c 61) (b ∷ w) ≡ u
    → is_escaped true m u b w ≡ false → Free (b ∷ escaped_from false m u w)
free_mild m u b w h d k e q =
    record {
      first = unfold solid in ap not (plain_blank b (unfold mild in and_l (plain_byte b) _ h));
      begins = λ par z.
          text_start_lem par (b ∷ (escaped_from false m u w ++ z)) (unfold start start_by in rw (lead_mild b h, d)) (mild_underline m u b w z h k e q);
    }

line_first : (m u : Bool) (b : ℕ) (w : Bytes) → every plain_byte (b ∷ w) ≡ true → (digit b ≡ true → dot_ends w ≡ m) → every (λ c. eqb c 61) (b ∷ w) ≡ u
    → Line (escaped_from true m u (b ∷ w))
unfolding escaped_from every
line_first m u b w h k e = go (is_escaped true m u b w) (digit b) refl refl
  where
    go : (t d : Bool) → is_escaped true m u b w ≡ t → digit b ≡ d → Line (cond t (ascii "\\") [] ++ (b ∷ escaped_from false m u w))
    go true d q f = free (free_slash (b ∷ escaped_from false m u w))
    go false true q f = line_from (b ∷ []) false m u w (unfold every in rw f) (unfold null in refl) (and_r (plain_byte b) _ h) (λ p. sym (k f) ∙ p)
    go false false q f = free (free_mild m u b w (bare_mild m u b w (and_l (plain_byte b) _ h) q) f (and_r (plain_byte b) _ h) e q)

-- every chunk of plain bytes
pub line_chunk : (w : Bytes) → every plain_byte w ≡ true → Line (escaped_chunk w true true)
unfolding escaped_chunk
line_chunk [] h = unfold escaped_from in bare
line_chunk (b ∷ w) h = line_first (is_ordered_list_marker (b ∷ w)) _ b w h (λ d. sym (marker_dot_ends b w d)) refl
