-- Link destinations, byte by byte.
use Prim.Native.Nat.{ℕ, zero, suc, ◌+◌, ◌-◌, ◌≤◌, ◌<◌}
use mathlib.Core.Path.{◌≡◌, refl, sym, ap, subst, ◌∙◌}
use mathlib.Core.Bool.{Bool, true, false, cond, not, ◌&&◌, ◌||◌, false≢true, and-eq-true_iff, and-false}
use mathlib.Core.List.{List, [], ◌∷◌, ◌++◌, append-nil, append_assoc}
use native.Mathlib.Omega.{arith}
use native.Mathlib.Numerals.{add-one}
use lib.ListN.{length, drop, get_or, drop_of_length-le}
use lib.Seq.{drop-cons}
use lib.Dec.{eqb}
use borrow.Author.Tests.{ne_eqb, eqb-true, not-true}
use Rattle.spec.specs.Bytes.{ascii, isin, every, starts_with, same}
use Rattle.spec.specs.Out.{and_then, push}
use Rattle.spec.specs.Md.TextUtils.{wants_wrap, needs_wrap, wrapped_byte, backslash_twice, each_byte, html_from, entity, is_nbsp, html_escape, destination, push_md_url}
use Rattle.lists_links.specs.Url.{url_byte, piece_of, kept, itself}
use Rattle.text.proofs.Writing.{push_both}

-- ---- parentheses

abbrev breaking : ℕ → ℕ → Bool
breaking n b = wants_wrap b || (eqb b 41 && eqb n 0)

abbrev pub balanced : ℕ → ℕ → ℕ
balanced n b = cond (eqb b 40) (n + 1) (cond (eqb b 41) (n - 1) n)

wrap_true : (n b : ℕ) (s : List ℕ) → breaking n b ≡ true → needs_wrap n (b ∷ s) ≡ true
unfolding needs_wrap
wrap_true zero b s e = go (wants_wrap b) (eqb b 41) e
  where
    go : (w c : Bool) → w || (c && true) ≡ true → (c || w) || needs_wrap (cond (eqb b 40) 1 0) s ≡ true
    go true true e = refl
    go true false e = refl
    go false true e = refl
    go false false e = absurd (false≢true e)
wrap_true (suc n) b s e = go (wants_wrap b) (eqb b 41) (ap (λ (t : Bool). wants_wrap b || (eqb b 41 && t)) (sym (ne_eqb (suc n) 0 (λ q. omega arith))) ∙ e)
  where
    go : (w c : Bool) → w || (c && false) ≡ true → w || needs_wrap (cond (eqb b 40) (suc (suc n)) (cond (eqb b 41) n (suc n))) s ≡ true
    go true c e = refl
    go false true e = absurd (false≢true e)
    go false false e = absurd (false≢true e)

wrap_false : (n b : ℕ) (s : List ℕ) → breaking n b ≡ false → needs_wrap n (b ∷ s) ≡ needs_wrap (balanced n b) s
unfolding needs_wrap
wrap_false zero b s e = go (wants_wrap b) (eqb b 41) e
  where
    go : (w c : Bool) → w || (c && true) ≡ false → (c || w) || needs_wrap (cond (eqb b 40) 1 0) s ≡ needs_wrap (cond (eqb b 40) 1 (cond c 0 0)) s
    go true c e = absurd (false≢true (sym e))
    go false true e = absurd (false≢true (sym e))
    go false false e = refl
wrap_false (suc n) b s e = go (wants_wrap b) (ap (λ (t : Bool). wants_wrap b || (eqb b 41 && t)) (sym (ne_eqb (suc n) 0 (λ q. omega arith))) ∙ e) ∙ ap (λ (k : ℕ). needs_wrap k s) (go₂ (eqb b 40) (eqb b 41))
  where
    go : (w : Bool) → w || (eqb b 41 && false) ≡ false → w || needs_wrap (cond (eqb b 40) (suc (suc n)) (cond (eqb b 41) n (suc n))) s ≡ needs_wrap (cond (eqb b 40) (suc (suc n)) (cond (eqb b 41) n (suc n))) s
    go true e = absurd (false≢true (sym e))
    go false e = refl

    go₂ : (x y : Bool) → cond x (suc (suc n)) (cond y n (suc n)) ≡ cond x (suc n + 1) (cond y (suc n - 1) (suc n))
    go₂ true y = omega arith
    go₂ false true = omega arith
    go₂ false false = refl

module _ (s : List ℕ) (n i : ℕ) (h : i < length s) where
  pub wraps : breaking n (get_or s i 0) ≡ true → needs_wrap n (drop i s) ≡ true
  wraps e = ap (needs_wrap n) (drop-cons s i 0 h) ∙ wrap_true n (get_or s i 0) (drop (suc i) s) e

  pub wraps_on : breaking n (get_or s i 0) ≡ false → needs_wrap n (drop i s) ≡ needs_wrap (balanced n (get_or s i 0)) (drop (i + 1) s)
  wraps_on e = ap (needs_wrap n) (drop-cons s i 0 h) ∙ wrap_false n (get_or s i 0) (drop (suc i) s) e ∙ ap (λ (j : ℕ). needs_wrap (balanced n (get_or s i 0)) (drop j s)) (sym (add-one i))

pub wraps_end : (s : List ℕ) (n i : ℕ) → length s ≤ i → needs_wrap n (drop i s) ≡ not (eqb n 0)
unfolding needs_wrap
wraps_end s n i h = ap (needs_wrap n) (drop_of_length-le s h)

-- ---- the replacements of html_escape have no part in that

-- these bytes have neither a parenthesis nor anything that wants `<`
neutral : (n b : ℕ) (s : List ℕ) → wants_wrap b ≡ false → eqb b 40 ≡ false → eqb b 41 ≡ false → needs_wrap n (b ∷ s) ≡ needs_wrap n s
neutral n b s w x y =
    wrap_false n b s (ap (λ (t : Bool). t || (eqb b 41 && eqb n 0)) w ∙ ap (λ (t : Bool). t && eqb n 0) y)
    ∙ ap (λ (t : Bool). needs_wrap (cond t (n + 1) (cond (eqb b 41) (n - 1) n)) s) x
    ∙ ap (λ (t : Bool). needs_wrap (cond t (n - 1) n) s) y

amp : (n : ℕ) (s : List ℕ) → needs_wrap n (ascii "&amp;" ++ s) ≡ needs_wrap n s
unfolding wants_wrap isin
amp n s = neutral n 38 (ascii "amp;" ++ s) refl refl refl ∙ neutral n 97 (ascii "mp;" ++ s) refl refl refl ∙ neutral n 109 (ascii "p;" ++ s) refl refl refl ∙ neutral n 112 (ascii ";" ++ s) refl refl refl ∙ neutral n 59 s refl refl refl

quot : (n : ℕ) (s : List ℕ) → needs_wrap n (ascii "&quot;" ++ s) ≡ needs_wrap n s
unfolding wants_wrap isin
quot n s = neutral n 38 (ascii "quot;" ++ s) refl refl refl ∙ neutral n 113 (ascii "uot;" ++ s) refl refl refl ∙ neutral n 117 (ascii "ot;" ++ s) refl refl refl ∙ neutral n 111 (ascii "t;" ++ s) refl refl refl
    ∙ neutral n 116 (ascii ";" ++ s) refl refl refl ∙ neutral n 59 s refl refl refl

nbsp : (n : ℕ) (s : List ℕ) → needs_wrap n (ascii "&nbsp;" ++ s) ≡ needs_wrap n s
unfolding wants_wrap isin
nbsp n s = neutral n 38 (ascii "nbsp;" ++ s) refl refl refl ∙ neutral n 110 (ascii "bsp;" ++ s) refl refl refl ∙ neutral n 98 (ascii "sp;" ++ s) refl refl refl ∙ neutral n 115 (ascii "p;" ++ s) refl refl refl
    ∙ neutral n 112 (ascii ";" ++ s) refl refl refl ∙ neutral n 59 s refl refl refl

-- two texts that agree behind any balance agree behind one byte
behind : (n b : ℕ) (s t : List ℕ) → ((m : ℕ) → needs_wrap m s ≡ needs_wrap m t) → needs_wrap n (b ∷ s) ≡ needs_wrap n (b ∷ t)
behind n b s t h = go (breaking n b) refl
  where
    go : (w : Bool) → breaking n b ≡ w → needs_wrap n (b ∷ s) ≡ needs_wrap n (b ∷ t)
    go true e = wrap_true n b s e ∙ sym (wrap_true n b t e)
    go false e = wrap_false n b s e ∙ h (balanced n b) ∙ sym (wrap_false n b t e)

second_is : (b : ℕ) (s : List ℕ) → starts_with (0xA0 ∷ []) (b ∷ s) ≡ true → b ≡ 0xA0
unfolding starts_with same
second_is b s e = eqb-true b 0xA0 ((and-eq-true_iff (eqb b 0xA0) true).0 e).0

html_same : (s : List ℕ) (second : Bool) → (second ≡ true → starts_with (0xA0 ∷ []) s ≡ true) → (n : ℕ) → needs_wrap n (html_from second s) ≡ needs_wrap n s
unfolding html_from entity is_nbsp wants_wrap isin
html_same [] second h n = refl
html_same (b ∷ s) true h n =
    html_same s false (λ e. absurd (false≢true e)) n
    ∙ sym (subst (λ (x : ℕ). needs_wrap n (x ∷ s) ≡ needs_wrap n s) (sym (second_is b s (h refl))) (neutral n 0xA0 s refl refl refl))
html_same (b ∷ s) false h n = go (html_same s (is_nbsp b s) (λ e. ((and-eq-true_iff (eqb b 0xC2) (starts_with (0xA0 ∷ []) s)).0 e).1)) (eqb b 38) (eqb b 34) (is_nbsp b s) refl refl refl
  where
    go : ((m : ℕ) → needs_wrap m (html_from (is_nbsp b s) s) ≡ needs_wrap m s) → (x y z : Bool) → eqb b 38 ≡ x → eqb b 34 ≡ y → is_nbsp b s ≡ z
        → needs_wrap n (cond x (ascii "&amp;") (cond y (ascii "&quot;") (cond z (ascii "&nbsp;") (b ∷ []))) ++ html_from (is_nbsp b s) s) ≡ needs_wrap n (b ∷ s)
    go g true y z e f q = amp n (html_from (is_nbsp b s) s) ∙ g n ∙ sym (subst (λ (x : ℕ). needs_wrap n (x ∷ s) ≡ needs_wrap n s) (sym (eqb-true b 38 e)) (neutral n 38 s refl refl refl))
    go g false true z e f q = quot n (html_from (is_nbsp b s) s) ∙ g n ∙ sym (subst (λ (x : ℕ). needs_wrap n (x ∷ s) ≡ needs_wrap n s) (sym (eqb-true b 34 f)) (neutral n 34 s refl refl refl))
    go g false false true e f q =
        nbsp n (html_from (is_nbsp b s) s) ∙ g n
        ∙ sym (subst (λ (x : ℕ). needs_wrap n (x ∷ s) ≡ needs_wrap n s) (sym (eqb-true b 0xC2 ((and-eq-true_iff (eqb b 0xC2) (starts_with (0xA0 ∷ []) s)).0 q).0)) (neutral n 0xC2 s refl refl refl))
    go g false false false e f q = behind n b (html_from (is_nbsp b s) s) s g

pub url_wrapped : (dest t : List ℕ) → needs_wrap 0 dest ≡ true → push_md_url dest t ≡ push (ascii "<" ++ (each_byte wrapped_byte (html_escape dest) ++ ascii ">")) t
unfolding push_md_url destination html_escape
url_wrapped dest t e = rw (html_same dest false (λ q. absurd (false≢true q)) 0 ∙ e)

pub url_plain : (dest t : List ℕ) → needs_wrap 0 dest ≡ false → push_md_url dest t ≡ push (each_byte backslash_twice (html_escape dest)) t
unfolding push_md_url destination html_escape
url_plain dest t e = rw (html_same dest false (λ q. absurd (false≢true q)) 0 ∙ e)

-- ---- a destination that stands as it is

-- html_escape leaves b as it is, and so does what is done behind it
record Stays (wrap : Bool) (b : ℕ) : Type 0 where
  amp : eqb b 38 ≡ false
  quote : eqb b 34 ≡ false
  nbsp : eqb b 0xC2 ≡ false
  alone : url_byte wrap b ≡ b ∷ []

record Parts (b : ℕ) : Type 0 where
  wrap : wants_wrap b ≡ false
  opening : eqb b 40 ≡ false
  closing : eqb b 41 ≡ false
  stays : Stays false b

neither : (x y : Bool) → not (x || y) ≡ true → (x ≡ false) × (not y ≡ true)
neither true y h = absurd (false≢true h)
neither false y h = (refl, h)

parts : (b : ℕ) → itself b ≡ true → Parts b
unfolding backslash_twice
parts b h =
    let w = neither (wants_wrap b) _ h in
    let o = neither (eqb b 40) _ w.1 in
    let c = neither (eqb b 41) _ o.1 in
    let a = neither (eqb b 38) _ c.1 in
    let q = neither (eqb b 34) _ a.1 in
    let s = neither (eqb b 92) (eqb b 0xC2) q.1 in
    record { wrap = w.0; opening = o.0; closing = c.0; stays = record { amp = a.0; quote = q.0; nbsp = not-true (eqb b 0xC2) s.1; alone = rw s.0 } }

kept_stays : (wrap : Bool) (b : ℕ) → kept b ≡ true → Stays wrap b
unfolding wrapped_byte backslash_twice isin
kept_stays wrap b h =
    let q = neither (eqb b 34) _ h in
    let a = neither (eqb b 38) _ q.1 in
    let l = neither (eqb b 60) _ a.1 in
    let g = neither (eqb b 62) _ l.1 in
    let s = neither (eqb b 92) _ g.1 in
    let n = neither (eqb b 0xC2) _ s.1 in
    let f = neither (eqb b 10) (eqb b 13) n.1 in
    record { amp = a.0; quote = q.0; nbsp = n.0; alone = on wrap s.0 l.0 g.0 f.0 (not-true (eqb b 13) f.1) }
  where
    on : (w : Bool) → eqb b 92 ≡ false → eqb b 60 ≡ false → eqb b 62 ≡ false → eqb b 10 ≡ false → eqb b 13 ≡ false → url_byte w b ≡ b ∷ []
    on true s l g f r = rw (s, l, g, f, r)
    on false s l g f r = rw s

-- bytes that stay are appended as they are
pieces_stay : (wrap : Bool) (p : ℕ → Bool) → ((b : ℕ) → p b ≡ true → Stays wrap b) → (s : List ℕ) → every p s ≡ true → each_byte (url_byte wrap) (html_from false s) ≡ s
unfolding every html_from each_byte entity is_nbsp
pieces_stay wrap p stays [] h = refl
pieces_stay wrap p stays (b ∷ s) h =
    let q = (and-eq-true_iff (p b) (every p s)).0 h in
    let t = stays b q.0 in
    rw (t.amp, t.quote, t.nbsp, t.alone) (ap (λ (x : List ℕ). b ∷ x) (pieces_stay wrap p stays s q.1))

pub kept_pieces : (wrap : Bool) (dest : List ℕ) → every kept dest ≡ true → each_byte (url_byte wrap) (html_escape dest) ≡ dest
unfolding html_escape
kept_pieces wrap dest h = pieces_stay wrap kept (kept_stays wrap) dest h

plain_unwrapped : (s : List ℕ) → every itself s ≡ true → needs_wrap 0 s ≡ false
unfolding every needs_wrap
plain_unwrapped [] h = refl
plain_unwrapped (b ∷ s) h =
    let q = (and-eq-true_iff (itself b) (every itself s)).0 h in
    let p = parts b q.0 in
    neutral 0 b s p.wrap p.opening p.closing ∙ plain_unwrapped s q.1

pub url_itself : (dest t : List ℕ) → every itself dest ≡ true → push_md_url dest t ≡ push dest t
unfolding html_escape
url_itself dest t h = url_plain dest t (plain_unwrapped dest h) ∙ ap (λ (x : List ℕ). push x t) (pieces_stay false itself (λ b e. (parts b e).stays) dest h)

-- ---- byte by byte

each_append : (f : ℕ → List ℕ) (x y : List ℕ) → each_byte f (x ++ y) ≡ each_byte f x ++ each_byte f y
unfolding each_byte
each_append f [] y = refl
each_append f (b ∷ x) y = ap (λ (l : List ℕ). f b ++ l) (each_append f x y) ∙ sym (append_assoc (f b) (each_byte f x) (each_byte f y))

piece_is : (wrap : Bool) (b : ℕ) → each_byte (url_byte wrap) (cond (eqb b 38) (ascii "&amp;") (cond (eqb b 34) (ascii "&quot;") (b ∷ []))) ≡ piece_of wrap b
unfolding each_byte wrapped_byte backslash_twice isin
piece_is wrap b = go wrap (eqb b 38) (eqb b 34)
  where
    go : (wrap x y : Bool) → each_byte (url_byte wrap) (cond x (ascii "&amp;") (cond y (ascii "&quot;") (b ∷ []))) ≡ cond x (ascii "&amp;") (cond y (ascii "&quot;") (url_byte wrap b))
    go true true y = refl
    go false true y = refl
    go true false true = refl
    go false false true = refl
    go wrap false false = append-nil (url_byte wrap b)

-- the text that stands for s
abbrev pub shown : Bool → List ℕ → List ℕ
shown wrap s = each_byte (url_byte wrap) (html_from false s)

pub shown_byte : (wrap : Bool) (s t : List ℕ) → 1 ≤ length s → starts_with (0xC2 ∷ 0xA0 ∷ []) s ≡ false
    → push (shown wrap s) t ≡ and_then (push (piece_of wrap (get_or s 0 0)) t) (push (shown wrap (drop 1 s)))
unfolding html_from entity is_nbsp starts_with same
shown_byte wrap [] t h e = absurd (omega arith)
shown_byte wrap (b ∷ s) t h e =
    rw e
    (ap (λ (x : List ℕ). push x t) (each_append (url_byte wrap) (cond (eqb b 38) (ascii "&amp;") (cond (eqb b 34) (ascii "&quot;") (b ∷ []))) (html_from false s) ∙ ap (λ (x : List ℕ). x ++ shown wrap s) (piece_is wrap b))
    ∙ push_both (piece_of wrap b) (shown wrap s) t)

pub shown_space : (wrap : Bool) (s t : List ℕ) → starts_with (0xC2 ∷ 0xA0 ∷ []) s ≡ true → push (shown wrap s) t ≡ and_then (push (ascii "&nbsp;") t) (push (shown wrap (drop 2 s)))
unfolding html_from entity is_nbsp starts_with same each_byte wrapped_byte backslash_twice isin
shown_space wrap [] t e = absurd (false≢true e)
shown_space wrap (b ∷ []) t e = absurd (false≢true (sym (and-false (eqb b 0xC2)) ∙ e))
shown_space wrap (b ∷ c ∷ s) t e =
    let x = (and-eq-true_iff (eqb b 0xC2) (eqb c 0xA0 && true)).0 e in
    let y = (and-eq-true_iff (eqb c 0xA0) true).0 x.1 in
    go wrap b c (eqb-true b 0xC2 x.0) (eqb-true c 0xA0 y.0)
  where
    go : (wrap : Bool) (b c : ℕ) → b ≡ 0xC2 → c ≡ 0xA0 → push (shown wrap (b ∷ c ∷ s)) t ≡ and_then (push (ascii "&nbsp;") t) (push (shown wrap s))
    go true b c p q = rw (p, q) (push_both (ascii "&nbsp;") (shown true s) t)
    go false b c p q = rw (p, q) (push_both (ascii "&nbsp;") (shown false s) t)

pub space_long : (s : List ℕ) → starts_with (0xC2 ∷ 0xA0 ∷ []) s ≡ true → 2 ≤ length s
unfolding starts_with same
space_long [] e = absurd (false≢true e)
space_long (b ∷ []) e = absurd (false≢true (sym (and-false (eqb b 0xC2)) ∙ e))
space_long (b ∷ c ∷ s) e = omega arith

pub shown_end : (wrap : Bool) (s t : List ℕ) → length s < 1 → push (shown wrap s) t ≡ push [] t
unfolding html_from each_byte
shown_end wrap [] t h = refl
shown_end wrap (b ∷ s) t h = absurd (omega arith)
