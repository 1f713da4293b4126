-- The destination and the title of a written link part where they were joined.
use Rattle.std.specs.Prelude.{ℕ, zero, suc, ◌≡◌, Bool, cond, not, ◌&&◌, ◌||◌, [], ◌∷◌, ◌++◌, eqb}
use Rattle.std.proofs.Common.{arith, ap, ◌∙◌, append_assoc, eqb-true, ne_eqb}
use Rattle.std.proofs.Math.Path.{refl}
use Rattle.std.proofs.Math.Bool.{true, false, and-false}
use Rattle.std.proofs.lemmas.Bool.{false≢true, not-false}
use Rattle.std.proofs.Math.Option.{none, some}
use Rattle.spec.specs.Bytes.{Bytes, ascii, null, isin, every}
use Rattle.spec.specs.Md.TextUtils.{wants_wrap, needs_wrap, wrapped_byte, backslash_twice, each_byte, destination}
use Rattle.spec.specs.Reading.Lines.{punctuation, space_or_tab, head_is, drop_while}
use Rattle.spec.specs.Reading.Inline.{escaped, slashed}
use Rattle.spec.specs.Pieces.CodeSpans.{preceded}
use Rattle.spec.specs.Pieces.Links.{control, open_behind, closes_none, enclosed}
use Rattle.spec.specs.Pieces.LinkWholes.{without_ending, after_space, pointed_up_to, bare_up_to, destination_of, title_up_to}
use Rattle.spec.proofs.Order.{one_less}
use Rattle.spec.proofs.Tests.{or_l, or_r, or_elim, apart, isin_yes, null_nil}

-- ---- titles

-- a title ends where it was joined
pub title_parts : (o c : ℕ) (s : Bool) (t z : Bytes) → enclosed o c s t ≡ true → title_up_to o c s (t ++ z) ≡ some (t, z)
unfolding enclosed title_up_to
title_parts o c s [] z h = absurd (false≢true h)
title_parts o c s (b ∷ t) z h = go (not (escaped s b) && eqb b c) (escaped s b) (eqb b o) h (λ e. title_parts o c (slashed s b) t z e)
  where
    go : (u e p : Bool) → cond u (null t) ((e || not p) && enclosed o c (slashed s b) t) ≡ true
        → (enclosed o c (slashed s b) t ≡ true → title_up_to o c (slashed s b) (t ++ z) ≡ some (t, z))
        → cond u (some (b ∷ [], t ++ z)) (cond (not e && p) none (preceded (b ∷ []) (title_up_to o c (slashed s b) (t ++ z)))) ≡ some (b ∷ t, z)
    go true e p q f = rw (null_nil t q)
    go false true p q f = rw (f q) (unfold preceded in refl)
    go false false true q f = absurd (false≢true q)
    go false false false q f = rw (f q) (unfold preceded in refl)

-- ---- destinations between angle brackets

-- a byte that stands there for itself
unfoldable plain_there : ℕ → Bool
plain_there b = not (isin b (92 ∷ 60 ∷ 62 ∷ 10 ∷ 13 ∷ []))

pointed_plain : (b : ℕ) (r : Bytes) → plain_there b ≡ true → pointed_up_to false (b ∷ r) ≡ preceded (b ∷ []) (pointed_up_to false r)
unfolding pointed_up_to escaped slashed plain_there isin
pointed_plain b r h =
    rw (apart plain_there b 62 h refl, apart plain_there b 10 h refl, apart plain_there b 13 h refl, apart plain_there b 60 h refl, apart plain_there b 92 h refl)

plain_there_lem : (b : ℕ) → isin b (ascii "\\<>") ≡ false → eqb b 10 ≡ false → eqb b 13 ≡ false → plain_there b ≡ true
unfolding plain_there isin
plain_there_lem b p q u =
    rw (or_l (eqb b 92) _ p, or_l (eqb b 60) _ (or_r (eqb b 92) _ p), or_l (eqb b 62) _ (or_r (eqb b 60) _ (or_r (eqb b 92) _ p)), q, u)

pointed_back : (b : ℕ) (r : Bytes) → punctuation b ≡ true → pointed_up_to false (92 ∷ b ∷ r) ≡ preceded (92 ∷ []) (preceded (b ∷ []) (pointed_up_to false r))
unfolding pointed_up_to escaped slashed isin
pointed_back b r h = rw h

wrapped_lf : (b : ℕ) → eqb b 10 ≡ true → wrapped_byte b ≡ ascii "%0A"
wrapped_lf b h = rw (eqb-true b 10 h) (unfold wrapped_byte isin in refl)

wrapped_cr : (b : ℕ) → eqb b 13 ≡ true → wrapped_byte b ≡ ascii "%0D"
wrapped_cr b h = rw (eqb-true b 13 h) (unfold wrapped_byte isin in refl)

pointed_percent : (x : ℕ) (r : Bytes) → plain_there x ≡ true
    → pointed_up_to false (37 ∷ 48 ∷ x ∷ r) ≡ preceded (37 ∷ []) (preceded (48 ∷ []) (preceded (x ∷ []) (pointed_up_to false r)))
unfolding plain_there isin
pointed_percent x r h = rw (pointed_plain 37 (48 ∷ x ∷ r) refl, pointed_plain 48 (x ∷ r) refl, pointed_plain x r h)

pub pointed_parts : (d z : Bytes) → pointed_up_to false (each_byte wrapped_byte d ++ (62 ∷ z)) ≡ some (each_byte wrapped_byte d ++ (62 ∷ []), z)
unfolding each_byte
pointed_parts [] z = unfold pointed_up_to escaped in refl
pointed_parts (b ∷ d) z = go (isin b (ascii "\\<>")) (eqb b 10) (eqb b 13) refl refl refl (pointed_parts d z)
  where
    go : (t l c : Bool) → isin b (ascii "\\<>") ≡ t → eqb b 10 ≡ l → eqb b 13 ≡ c
        → pointed_up_to false (each_byte wrapped_byte d ++ (62 ∷ z)) ≡ some (each_byte wrapped_byte d ++ (62 ∷ []), z)
        → pointed_up_to false ((wrapped_byte b ++ each_byte wrapped_byte d) ++ (62 ∷ z)) ≡ some ((wrapped_byte b ++ each_byte wrapped_byte d) ++ (62 ∷ []), z)
    go true l c p q u ih =
        unfold wrapped_byte in
        rw (p, pointed_back b (each_byte wrapped_byte d ++ (62 ∷ z)) (isin_yes punctuation b (ascii "\\<>") p (unfold every punctuation in refl)), ih) (unfold preceded in refl)
    go false true c p q u ih = rw (wrapped_lf b q, pointed_percent 65 (each_byte wrapped_byte d ++ (62 ∷ z)) (unfold plain_there isin in refl), ih) (unfold preceded in refl)
    go false false true p q u ih = rw (wrapped_cr b u, pointed_percent 68 (each_byte wrapped_byte d ++ (62 ∷ z)) (unfold plain_there isin in refl), ih) (unfold preceded in refl)
    go false false false p q u ih =
        unfold wrapped_byte in
        rw (p, q, u, pointed_plain b (each_byte wrapped_byte d ++ (62 ∷ z)) (plain_there_lem b p q u), ih) (unfold preceded in refl)

-- ---- other destinations

-- a blank or a closing parenthesis stands next
unfoldable pub stops : Bytes → Bool
stops [] = false
stops (b ∷ z) = eqb b 32 || eqb b 41

bare_end : (z : Bytes) → stops z ≡ true → bare_up_to 0 false z ≡ some ([], z)
unfolding stops bare_up_to
bare_end [] h = absurd (false≢true h)
bare_end (b ∷ z) h =
    or_elim (eqb b 32) (eqb b 41) (λ e. rw (eqb-true b 32 e) (unfold control in refl)) (λ e. rw (eqb-true b 41 e) (unfold control closes_none escaped in refl)) h

-- a byte of such a destination
bare_byte_lem : (n b : ℕ) (r : Bytes) → wants_wrap b ≡ false → (eqb b 41 && eqb n 0) ≡ false → eqb b 92 ≡ false
    → bare_up_to n false (b ∷ r) ≡ preceded (b ∷ []) (bare_up_to (open_behind false n b) false r)
unfolding bare_up_to escaped slashed closes_none control wants_wrap isin
bare_byte_lem n b r w c s =
    rw (or_r (isin b (ascii " <")) _ w, or_l (eqb b 32) _ (or_l (isin b (ascii " <")) _ w), c, s)

bare_slash : (n : ℕ) (r : Bytes) → bare_up_to n false (92 ∷ 92 ∷ r) ≡ preceded (92 ∷ []) (preceded (92 ∷ []) (bare_up_to n false r))
unfolding bare_up_to escaped slashed closes_none control open_behind punctuation
bare_slash n r = refl

-- what the writer knows of the next byte where it needs no angle brackets
record Bare (n b : ℕ) (d : Bytes) : Type 0 where
  wants : wants_wrap b ≡ false
  closes : (eqb b 41 && eqb n 0) ≡ false
  more : needs_wrap (open_behind false n b) d ≡ false

suc_zero : (n : ℕ) → eqb (suc n) 0 ≡ false
suc_zero n = ne_eqb (suc n) 0 (λ e. omega arith)

bare_of : (n b : ℕ) (d : Bytes) → needs_wrap n (b ∷ d) ≡ false → Bare n b d
unfolding needs_wrap open_behind
bare_of zero b d h =
    let c : eqb b 41 ≡ false = or_l (eqb b 41) _ (or_l (eqb b 41 || wants_wrap b) _ h) in
    record {
      wants = or_r (eqb b 41) _ (or_l (eqb b 41 || wants_wrap b) _ h);
      closes = rw c;
      more = rw c (or_r (eqb b 41 || wants_wrap b) _ h);
    }
bare_of (suc n) b d h =
    record {
      wants = or_l (wants_wrap b) _ h;
      closes = rw (suc_zero n) (and-false (eqb b 41));
      more = rw (one_less n) (or_r (wants_wrap b) _ h);
    }

balanced_end : (n : ℕ) → needs_wrap n [] ≡ false → eqb n 0 ≡ true
unfolding needs_wrap
balanced_end n h = not-false (eqb n 0) h

slash_open : (n : ℕ) → open_behind false n 92 ≡ n
unfolding open_behind
slash_open n = refl

pub bare_parts : (n : ℕ) (d z : Bytes) → needs_wrap n d ≡ false → stops z ≡ true
    → bare_up_to n false (each_byte backslash_twice d ++ z) ≡ some (each_byte backslash_twice d, z)
unfolding each_byte backslash_twice
bare_parts n [] z h k = rw (eqb-true n 0 (balanced_end n h)) (bare_end z k)
bare_parts n (b ∷ d) z h k =
    go (eqb b 92) refl (bare_of n b d h) (λ q. bare_parts (open_behind false n b) d z q k)
  where
    go : (t : Bool) → eqb b 92 ≡ t → Bare n b d
        → (needs_wrap (open_behind false n b) d ≡ false → bare_up_to (open_behind false n b) false (each_byte backslash_twice d ++ z) ≡ some (each_byte backslash_twice d, z))
        → bare_up_to n false ((backslash_twice b ++ each_byte backslash_twice d) ++ z) ≡ some (backslash_twice b ++ each_byte backslash_twice d, z)
    go true e s f =
        let o : open_behind false n b ≡ n = ap (open_behind false n) (eqb-true b 92 e) ∙ slash_open n in
        let q : bare_up_to n false (each_byte backslash_twice d ++ z) ≡ some (each_byte backslash_twice d, z) = rw o at (f s.more) in
        rw (e, bare_slash n (each_byte backslash_twice d ++ z), q) (unfold preceded in refl)
    go false e s f =
        rw (e, bare_byte_lem n b (each_byte backslash_twice d ++ z) s.wants s.closes e, f s.more) (unfold preceded in refl)

-- ---- a destination

stops_head : (z : Bytes) → stops z ≡ true → head_is 60 z ≡ false
unfolding stops head_is
stops_head [] h = refl
stops_head (b ∷ z) h = or_elim (eqb b 32) (eqb b 41) (λ e. rw (eqb-true b 32 e)) (λ e. rw (eqb-true b 41 e)) h

bare_head : (d z : Bytes) → needs_wrap 0 d ≡ false → stops z ≡ true → head_is 60 (each_byte backslash_twice d ++ z) ≡ false
unfolding each_byte backslash_twice wants_wrap isin
bare_head [] z h k = stops_head z k
bare_head (b ∷ d) z h k = go (eqb b 92) (or_l (eqb b 60) _ (or_r (eqb b 32) _ (or_l (isin b (ascii " <")) _ (bare_of 0 b d h).wants)))
  where
    go : (t : Bool) → eqb b 60 ≡ false → head_is 60 ((cond t (ascii "\\\\") (b ∷ []) ++ each_byte backslash_twice d) ++ z) ≡ false
    go true e = unfold head_is in refl
    go false e = unfold head_is in e

-- a destination ends where it was joined
pub destination_parts : (d z : Bytes) → stops z ≡ true → destination_of (destination d ++ z) ≡ some (destination d, z)
unfolding destination destination_of
destination_parts d z k = go (needs_wrap 0 d) refl
  where
    go : (t : Bool) → needs_wrap 0 d ≡ t
        → destination_of (cond t (ascii "<" ++ (each_byte wrapped_byte d ++ ascii ">")) (each_byte backslash_twice d) ++ z)
        ≡ some (cond t (ascii "<" ++ (each_byte wrapped_byte d ++ ascii ">")) (each_byte backslash_twice d), z)
    go true e = unfold destination_of head_is in rw (append_assoc (each_byte wrapped_byte d) (ascii ">") z, pointed_parts d z) (unfold preceded in refl)
    go false e = unfold destination_of in rw (bare_head d z e k) (bare_parts 0 d z e k)

-- ---- blanks between the parts

-- a byte that is neither a blank nor a line end
unfoldable pub stands_alone : ℕ → Bool
stands_alone b = not (isin b (32 ∷ 9 ∷ 10 ∷ 13 ∷ []))

pub space_none : (b : ℕ) (r : Bytes) → stands_alone b ≡ true → after_space (b ∷ r) ≡ b ∷ r
unfolding after_space drop_while space_or_tab without_ending stands_alone isin
space_none b r h =
    rw (apart stands_alone b 32 h refl, apart stands_alone b 9 h refl, apart stands_alone b 10 h refl, apart stands_alone b 13 h refl)
    (rw (apart stands_alone b 32 h refl, apart stands_alone b 9 h refl))
