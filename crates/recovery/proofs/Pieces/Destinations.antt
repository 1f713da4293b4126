-- Link destinations: what `push_md_url` appends is one, and means the attribute.
use Rattle.std.specs.Prelude.{ℕ, zero, suc, ◌≡◌, Bool, not, ◌||◌, eqb}
use Rattle.std.proofs.Common.{arith, sym, ap, ◌∙◌, true≢false}
use Rattle.std.proofs.Math.Path.{refl}
use Rattle.std.proofs.Math.Bool.{true, false, cond, and-false}
use mathlib.Core.List.{[], ◌∷◌, ◌++◌, append_assoc}
use borrow.Author.Tests.{eqb-true, ne_eqb, not-false}
use Rattle.spec.specs.Bytes.{Bytes, ascii, null, isin, every}
use Rattle.spec.specs.Out.{push}
use Rattle.spec.specs.Md.TextUtils.{is_nbsp, entity, html_from, html_escape, wants_wrap, needs_wrap, wrapped_byte, backslash_twice, each_byte, destination, push_md_url}
use Rattle.spec.specs.Reading.Lines.{punctuation, head_is, safe_byte, safe}
use Rattle.spec.specs.Reading.Inline.{escaped, slashed}
use Rattle.spec.specs.Pieces.Links.{References, pointed, control, open_behind, closes_none, balanced, link_destination, meaning, destination_meaning}
use Rattle.spec.proofs.Tests.{and_l, and_r, or_l, or_r, apart}
use Rattle.spec.proofs.Order.{one_less}
use Rattle.recovery.proofs.Pieces.CodeSpans.{inner_same}
use Rattle.recovery.proofs.Pieces.Received.{Known, received, at, Writes, written_means}
use Rattle.recovery.proofs.Pieces.Meanings.{literal, Means, mnil, mlit, mback}

-- ---- NUL

safe_app : (x y : Bytes) → safe (x ++ y) ≡ safe x ++ safe y
unfolding safe
safe_app [] y = refl
safe_app (b ∷ x) y = rw (safe_app x y) (unfold safe_byte in go (eqb b 0))
  where
    go : (t : Bool) → cond t (0xEF ∷ 0xBF ∷ 0xBD ∷ (safe x ++ safe y)) (b ∷ (safe x ++ safe y))
        ≡ cond t (0xEF ∷ 0xBF ∷ 0xBD ∷ safe x) (b ∷ safe x) ++ safe y
    go true = refl
    go false = refl

safe_each : (f : ℕ → Bytes) (s : Bytes) → safe (each_byte f s) ≡ each_byte (λ b. safe (f b)) s
unfolding each_byte
safe_each f [] = unfold safe in refl
safe_each f (b ∷ s) = rw (safe_app (f b) (each_byte f s), safe_each f s)

each_same : (q : ℕ → Bool) (f g : ℕ → Bytes) (s : Bytes) → ((b : ℕ) → q b ≡ true → f b ≡ g b) → every q s ≡ true
    → each_byte f s ≡ each_byte g s
unfolding each_byte every
each_same q f g [] e h = refl
each_same q f g (b ∷ s) e h = rw (e b (and_l (q b) _ h), each_same q f g s e (and_r (q b) _ h))

-- ---- between angle brackets

-- what stands there for a byte, NUL replaced
unfoldable pointed_byte : ℕ → Bytes
pointed_byte b = safe (wrapped_byte b)

pointed_other : (known : References) (b : ℕ) → eqb b 38 ≡ false → Means known (pointed_byte b) (received b)
unfolding pointed_byte wrapped_byte received safe safe_byte isin punctuation literal
pointed_other known b n =
    let Q : ℕ → Type 0 = λ c. Means known (pointed_byte c) (received c) in
    at Q b 92 (mback refl mnil) λ e₁.
    at Q b 60 (mback refl mnil) λ e₂.
    at Q b 62 (mback refl mnil) λ e₃.
    at Q b 10 (mlit refl (mlit refl (mlit refl mnil))) λ e₄.
    at Q b 13 (mlit refl (mlit refl (mlit refl mnil))) λ e₅.
    at Q b 0 (mlit refl (mlit refl (mlit refl mnil))) λ e₆.
    rw (e₁, e₂, e₃, e₄, e₅, e₆) (mlit {b = b} (rw (n, e₁)) mnil)

pointed_writes : (known : References) → Writes known pointed_byte
unfolding pointed_byte wrapped_byte safe safe_byte isin each_byte
pointed_writes known = record { amp = refl; quot = refl; nbsp = refl; other = pointed_other known }

pointed_byte_lem : (b : ℕ) (r : Bytes) → pointed false (pointed_byte b ++ r) ≡ pointed false r
unfolding pointed_byte wrapped_byte safe safe_byte isin pointed escaped slashed punctuation
pointed_byte_lem b r =
    let Q : ℕ → Type 0 = λ c. pointed false (pointed_byte c ++ r) ≡ pointed false r in
    at Q b 92 refl λ e₁.
    at Q b 60 refl λ e₂.
    at Q b 62 refl λ e₃.
    at Q b 10 refl λ e₄.
    at Q b 13 refl λ e₅.
    at Q b 0 refl λ e₆.
    rw (e₁, e₂, e₃, e₄, e₅, e₆) (rw (e₃, e₄, e₅, e₂, e₁))

pointed_body : (s : Bytes) → pointed false (each_byte pointed_byte s ++ (62 ∷ [])) ≡ true
unfolding each_byte
pointed_body [] = unfold pointed escaped null in refl
pointed_body (b ∷ s) =
    rw (append_assoc (pointed_byte b) (each_byte pointed_byte s) (62 ∷ []), pointed_byte_lem b (each_byte pointed_byte s ++ (62 ∷ [])))
    (pointed_body s)

-- ---- without them

unfoldable calm : ℕ → Bool
calm b = not (wants_wrap b)

calm_all : (n : ℕ) (s : Bytes) → needs_wrap n s ≡ false → every calm s ≡ true
unfolding needs_wrap every calm
calm_all n [] h = refl
calm_all zero (b ∷ s) h =
    rw (or_r (eqb b 41) _ (or_l (eqb b 41 || wants_wrap b) _ h)) (calm_all (cond (eqb b 40) 1 0) s (or_r (eqb b 41 || wants_wrap b) _ h))
calm_all (suc n) (b ∷ s) h = rw (or_l (wants_wrap b) _ h) (calm_all _ s (or_r (wants_wrap b) _ h))

-- as the writer has it, but for bytes that do not stand there
unfoldable bare_byte : ℕ → Bytes
bare_byte b = cond (isin b (0 ∷ 10 ∷ 13 ∷ [])) (received b) (backslash_twice b)

calm_not : (b x : ℕ) → calm b ≡ true → calm x ≡ false → eqb b x ≡ false
calm_not b x h n = apart calm b x h n

calm_bare : (b : ℕ) → calm b ≡ true → backslash_twice b ≡ bare_byte b
unfolding bare_byte isin
calm_bare b h =
    rw (
      calm_not b 0 h (unfold calm wants_wrap isin in refl),
      calm_not b 10 h (unfold calm wants_wrap isin in refl),
      calm_not b 13 h (unfold calm wants_wrap isin in refl),
    )

twice_safe : (b : ℕ) → eqb b 0 ≡ false → safe (backslash_twice b) ≡ backslash_twice b
unfolding backslash_twice safe safe_byte
twice_safe b n = go (eqb b 92)
  where
    go : (t : Bool) → safe (cond t (ascii "\\\\") (b ∷ [])) ≡ cond t (ascii "\\\\") (b ∷ [])
    go true = refl
    go false = rw n

calm_safe : (b : ℕ) → calm b ≡ true → safe (backslash_twice b) ≡ bare_byte b
calm_safe b h = twice_safe b (calm_not b 0 h (unfold calm wants_wrap isin in refl)) ∙ calm_bare b h

bare_other : (known : References) (b : ℕ) → eqb b 38 ≡ false → Means known (bare_byte b) (received b)
unfolding bare_byte backslash_twice received isin punctuation literal
bare_other known b n =
    let Q : ℕ → Type 0 = λ c. Means known (bare_byte c) (received c) in
    at Q b 92 (mback refl mnil) λ e₁.
    at Q b 10 (mlit refl (mlit refl (mlit refl mnil))) λ e₂.
    at Q b 13 (mlit refl (mlit refl (mlit refl mnil))) λ e₃.
    at Q b 0 (mlit refl (mlit refl (mlit refl mnil))) λ e₄.
    rw (e₁, e₂, e₃, e₄) (mlit {b = b} (rw (n, e₁)) mnil)

bare_writes : (known : References) → Writes known bare_byte
unfolding bare_byte backslash_twice isin each_byte
bare_writes known = record { amp = refl; quot = refl; nbsp = refl; other = bare_other known }

twice_balanced : (n : ℕ) (r : Bytes) → balanced n false (92 ∷ 92 ∷ r) ≡ balanced n false r
unfolding balanced control closes_none open_behind escaped slashed punctuation
twice_balanced n r = refl

once_balanced : (n b : ℕ) (r : Bytes) → control b ≡ false → eqb b 32 ≡ false → closes_none false n b ≡ false → eqb b 92 ≡ false
    → balanced n false (b ∷ r) ≡ balanced (open_behind false n b) false r
unfolding balanced escaped slashed
once_balanced n b r h k c e = rw (h, k, c, e)

bare_byte_lem : (n b : ℕ) (r : Bytes) → wants_wrap b ≡ false → closes_none false n b ≡ false
    → balanced n false (backslash_twice b ++ r) ≡ balanced (open_behind false n b) false r
unfolding backslash_twice wants_wrap isin
bare_byte_lem n b r h c = go (eqb b 92) refl
  where
    go : (t : Bool) → eqb b 92 ≡ t
        → balanced n false (cond t (ascii "\\\\") (b ∷ []) ++ r) ≡ balanced (open_behind false n b) false r
    go true e = rw (eqb-true b 92 e) (unfold open_behind in twice_balanced n r)
    go false e =
        once_balanced n b r (unfold control in or_r (isin b (ascii " <")) _ h) (or_l (eqb b 32) _ (or_l (isin b (ascii " <")) _ h)) c e

none_closed : (b : ℕ) → eqb b 41 ≡ false → closes_none false 0 b ≡ false
unfolding closes_none
none_closed b e = rw e

some_closed : (n b : ℕ) → closes_none false (suc n) b ≡ false
unfolding closes_none
some_closed n b = rw (ne_eqb (suc n) 0 (λ e. omega arith)) (and-false (eqb b 41))

none_open : (b : ℕ) → eqb b 41 ≡ false → open_behind false 0 b ≡ cond (eqb b 40) 1 0
unfolding open_behind
none_open b e = rw e

some_open : (n b : ℕ) → open_behind false (suc n) b ≡ cond (eqb b 40) (suc (suc n)) (cond (eqb b 41) n (suc n))
unfolding open_behind
some_open n b = rw (one_less n)

-- the parentheses are balanced where the writer finds them so
bare_balanced : (s : Bytes) (n : ℕ) → needs_wrap n s ≡ false → balanced n false (each_byte backslash_twice s) ≡ true
unfolding needs_wrap each_byte
bare_balanced [] n h = unfold balanced in not-false (eqb n 0) h
bare_balanced (b ∷ s) zero h =
    let e : eqb b 41 ≡ false = or_l (eqb b 41) _ (or_l (eqb b 41 || wants_wrap b) _ h) in
    rw (bare_byte_lem 0 b (each_byte backslash_twice s) (or_r (eqb b 41) _ (or_l (eqb b 41 || wants_wrap b) _ h)) (none_closed b e), none_open b e)
    (bare_balanced s (cond (eqb b 40) 1 0) (or_r (eqb b 41 || wants_wrap b) _ h))
bare_balanced (b ∷ s) (suc n) h =
    rw (bare_byte_lem (suc n) b (each_byte backslash_twice s) (or_l (wants_wrap b) _ h) (some_closed n b), some_open n b)
    (bare_balanced s (cond (eqb b 40) (suc (suc n)) (cond (eqb b 41) n (suc n))) (or_r (wants_wrap b) _ h))

bare_head : (s : Bytes) → every calm s ≡ true → head_is 60 (each_byte backslash_twice s) ≡ false
unfolding every each_byte backslash_twice
bare_head [] h = unfold head_is in refl
bare_head (b ∷ s) h = go (eqb b 92)
  where
    go : (t : Bool) → head_is 60 (cond t (ascii "\\\\") (b ∷ []) ++ each_byte backslash_twice s) ≡ false
    go true = unfold head_is in refl
    go false = unfold head_is in calm_not b 60 (and_l (calm b) _ h) (unfold calm wants_wrap isin in refl)

bare_null : (s : Bytes) → null (each_byte backslash_twice s) ≡ null s
unfolding each_byte backslash_twice null
bare_null [] = refl
bare_null (b ∷ s) = go (eqb b 92)
  where
    go : (t : Bool) → null (cond t (ascii "\\\\") (b ∷ []) ++ each_byte backslash_twice s) ≡ false
    go true = refl
    go false = refl

pub html_some : (a : Bytes) → null a ≡ false → null (html_escape a) ≡ false
unfolding html_escape html_from entity null
html_some [] n = absurd (true≢false n)
html_some (b ∷ s) n = go (eqb b 38) (eqb b 34) (is_nbsp b s)
  where
    go : (t u v : Bool)
        → null (cond t (ascii "&amp;") (cond u (ascii "&quot;") (cond v (ascii "&nbsp;") (b ∷ []))) ++ html_from (is_nbsp b s) s) ≡ false
    go true u v = refl
    go false true v = refl
    go false false true = refl
    go false false false = refl

-- ---- the destination, as a reader has it: NUL replaced

-- in both forms
wrapped_safe : (e : Bytes) → safe (ascii "<" ++ (each_byte wrapped_byte e ++ ascii ">")) ≡ 60 ∷ (each_byte pointed_byte e ++ (62 ∷ []))
unfolding pointed_byte
wrapped_safe e =
    let x : safe (60 ∷ (each_byte wrapped_byte e ++ (62 ∷ []))) ≡ 60 ∷ safe (each_byte wrapped_byte e ++ (62 ∷ [])) =
    unfold safe safe_byte in refl in
    let y : safe (62 ∷ []) ≡ 62 ∷ [] = unfold safe safe_byte in refl in
    rw (x, safe_app (each_byte wrapped_byte e) (62 ∷ []), safe_each wrapped_byte e, y)

bare_safe : (e : Bytes) → every calm e ≡ true → safe (each_byte backslash_twice e) ≡ each_byte bare_byte e
bare_safe e h = safe_each backslash_twice e ∙ each_same calm (λ b. safe (backslash_twice b)) bare_byte e calm_safe h

bare_same : (e : Bytes) → every calm e ≡ true → each_byte bare_byte e ≡ each_byte backslash_twice e
bare_same e h = sym (each_same calm backslash_twice bare_byte e calm_bare h)

bare_link : (e : Bytes) → every calm e ≡ true → null e ≡ false → needs_wrap 0 e ≡ false → link_destination (each_byte backslash_twice e) ≡ true
unfolding link_destination
bare_link e c n h = rw (bare_head e c, bare_null e, n) (bare_balanced e 0 h)

pub url_text : (a t : Bytes) → (push_md_url a t).text ≡ t ++ destination (html_escape a)
unfolding push_md_url push
url_text a t = refl

-- 6.3: what `push_md_url` appends is one link destination, for every attribute that is not empty
pub url_destination : (a : Bytes) → null a ≡ false → link_destination (safe (destination (html_escape a))) ≡ true
unfolding destination
url_destination a n = go (needs_wrap 0 (html_escape a)) refl
  where
    go : (t : Bool) → needs_wrap 0 (html_escape a) ≡ t
        → link_destination
        (safe (cond t (ascii "<" ++ (each_byte wrapped_byte (html_escape a) ++ ascii ">")) (each_byte backslash_twice (html_escape a))))
        ≡ true
    go true e = rw (wrapped_safe (html_escape a)) (unfold link_destination head_is in pointed_body (html_escape a))
    go false e =
        let c : every calm (html_escape a) ≡ true = calm_all 0 (html_escape a) e in
        rw (bare_safe (html_escape a) c, bare_same (html_escape a) c)
        (bare_link (html_escape a) c (html_some a n) e)

-- an empty attribute leaves no destination
pub no_url : (destination (html_escape []) ≡ []) × (link_destination [] ≡ false)
unfolding html_escape html_from destination needs_wrap each_byte link_destination head_is null
no_url = (refl, refl)

pointed_meaning : (known : References) (e : Bytes)
    → destination_meaning known (60 ∷ (each_byte pointed_byte e ++ (62 ∷ []))) ≡ meaning known 0 (each_byte pointed_byte e)
unfolding destination_meaning head_is
pointed_meaning known e = ap (meaning known 0) (inner_same 60 62 (each_byte pointed_byte e))

bare_meaning : (known : References) (e : Bytes) → every calm e ≡ true
    → destination_meaning known (each_byte bare_byte e) ≡ meaning known 0 (each_byte bare_byte e)
unfolding destination_meaning
bare_meaning known e c =
    let h : head_is 60 (each_byte bare_byte e) ≡ false = rw (bare_same e c) (bare_head e c) in
    rw h

-- and it means the attribute, as that is received, for every attribute and every set of known references that has the three
pub url_meaning : (known : References) → Known known → (a : Bytes)
    → destination_meaning known (safe (destination (html_escape a))) ≡ each_byte received a
unfolding destination
url_meaning known k a = go (needs_wrap 0 (html_escape a)) refl
  where
    go : (t : Bool) → needs_wrap 0 (html_escape a) ≡ t
        → destination_meaning known
        (safe (cond t (ascii "<" ++ (each_byte wrapped_byte (html_escape a) ++ ascii ">")) (each_byte backslash_twice (html_escape a))))
        ≡ each_byte received a
    go true e =
        rw (wrapped_safe (html_escape a), pointed_meaning known (html_escape a))
        (written_means known k pointed_byte (pointed_writes known) a)
    go false e =
        let c : every calm (html_escape a) ≡ true = calm_all 0 (html_escape a) e in
        rw (bare_safe (html_escape a) c, bare_meaning known (html_escape a) c)
        (written_means known k bare_byte (bare_writes known) a)
