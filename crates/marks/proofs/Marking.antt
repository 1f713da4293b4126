-- An emphasis text with its closing marker, and what stands before it.
use Prim.Native.Nat.{ℕ, ◌+◌, ◌-◌, ◌≤◌, ◌<◌, max}
use mathlib.Core.Path.{◌≡◌, refl, sym, ap, subst, subst₂, ◌∙◌}
use mathlib.Core.Bool.{Bool, true, false, cond, not, ◌&&◌, false≢true}
use mathlib.Core.List.{List, [], ◌∷◌, ◌++◌, append-nil}
use native.Mathlib.Omega.{arith}
use mir.Val.{bool_byte}
use borrow.Author.Tests.{eqb-true}
use borrow.Rule.Slice.PartMut.{same_len_mid}
use lib.ListN.{length, take, drop, length-append, length-take, length-drop, drop_of_length-le}
use lib.Seq.{length-take-le, take-take, take_all, take_at, drop_at, drop-drop}
use Rattle.spec.specs.Bytes.{Bytes, ascii, null, among, same, starts_with, ends_with, is_white_space, white_space_of, unless, trim_end, trim_end_matches}
use Rattle.spec.specs.Out.{Out, Step, and_then, cut, keep, push, replace, beside}
use Rattle.spec.specs.Md.TextUtils.{escape_trailing_bang}
use Rattle.spec.specs.Md.Elements.Emphasis.{ends_with_emphasis, try_trim_prev_emphasis_marker, drop_end, closed, push_marked, push_emphasis}
use Rattle.marks.specs.Marked.{lead_blank, bang_if, marked_front, marked_with}
use Rattle.text.specs.Trimmed.{Trimmed}
use Rattle.text.specs.Lifted.{Lifted}
use Rattle.text.specs.Writes.{Written, Refused, Writes, Wrote}
use Rattle.text.proofs.Temporary.{lent, back}
use Rattle.text.proofs.Reading.{rest_part, drop_take, starts_byte, ends_byte, null_none, null_some, starts_short, trimmed_length, ends_long}
use Rattle.text.proofs.Writing.{then_assoc}

-- ---- the definition in two parts

then_alike : (o : Out) (f g : Step) → f o.text ≡ g o.text → and_then o f ≡ and_then o g
unfolding and_then
then_alike o f g e = ap (λ (r : Out). record { text = r.text; peak = max o.peak r.peak }) e

regroup : (o : Out) (f g e p : Step)
    → and_then o (λ t₁. and_then (f t₁) (λ t₂. and_then (g t₂) (λ t₃. and_then (e t₃) p))) ≡ and_then (and_then o (λ t₁. and_then (f t₁) (λ t₂. and_then (g t₂) e))) p
regroup o f g e p =
    let inner : (t : Bytes) → and_then (f t) (λ t₂. and_then (g t₂) (λ t₃. and_then (e t₃) p)) ≡ and_then (and_then (f t) (λ t₂. and_then (g t₂) e)) p =
    λ t. then_alike (f t) (λ t₂. and_then (g t₂) (λ t₃. and_then (e t₃) p)) (λ t₂. and_then (and_then (g t₂) e) p) (sym (then_assoc (g (f t).text) e p))
    ∙ sym (then_assoc (f t) (λ t₂. and_then (g t₂) e) p) in
    then_alike o (λ t₁. and_then (f t₁) (λ t₂. and_then (g t₂) (λ t₃. and_then (e t₃) p))) (λ t₁. and_then (and_then (f t₁) (λ t₂. and_then (g t₂) e)) p) (inner o.text)
    ∙ sym (then_assoc o (λ t₁. and_then (f t₁) (λ t₂. and_then (g t₂) e)) p)

marked_is : (marker content acc : Bytes) (lead : Bool) (done : Bytes) → lead ≡ starts_with (ascii " ") content → done ≡ closed marker content
    → push_marked marker content acc ≡ marked_with marker lead done acc
unfolding push_marked
marked_is marker content acc lead done e q =
    ap (beside (length (closed marker content)))
    (regroup (try_trim_prev_emphasis_marker marker acc) (lead_blank (starts_with (ascii " ") content)) (push (cond (ends_with_emphasis marker acc) [] marker)) (bang_if (starts_with (ascii "[") (closed marker content))) (push (closed marker content)))
    ∙ subst₂ (λ (l : Bool) (x : Bytes). marked_with marker l x acc ≡ marked_with marker lead done acc) e q refl

-- ---- the text before it

try_long : (marker acc : Bytes) → length acc ≤ length (try_trim_prev_emphasis_marker marker acc).text + length marker
unfolding try_trim_prev_emphasis_marker and_then cut keep push drop_end
try_long marker acc = go (ends_with_emphasis marker acc) (ends_with (ascii " ") acc)
  where
    go : (e s : Bool) → length acc ≤ length (cond e (and_then (cut (λ t. take (length acc - (length marker + cond s 1 0)) acc) acc) (push (cond s (ascii " ") []))) (keep acc)).text + length marker
    go true true = omega (arith, length-append (take (length acc - (length marker + 1)) acc) (ascii " "), length-take (length acc - (length marker + 1)) acc)
    go true false = omega (arith, length-append (take (length acc - (length marker + 0)) acc) [], length-take (length acc - (length marker + 0)) acc)
    go false s = omega arith

bang_long : (bang : Bool) (t : Bytes) → length t ≤ length (bang_if bang t).text
unfolding escape_trailing_bang keep replace
bang_long bang t = go bang (ends_with (ascii "!") t)
  where
    go : (b e : Bool) → length t ≤ length (cond b (cond e (replace (λ s. take (length s - 1) s ++ ascii "\\!") t) (keep t)) (keep t)).text
    go true true = omega (arith, length-append (take (length t - 1) t) (ascii "\\!"), length-take (length t - 1) t)
    go true false = omega arith
    go false e = omega arith

front_long : (marker : Bytes) (lead bang : Bool) (acc : Bytes) → length acc ≤ length (marked_front marker lead bang acc).text + length marker
unfolding and_then push
front_long marker lead bang acc =
    let t₁ : Bytes = (try_trim_prev_emphasis_marker marker acc).text in
    let x : Bytes = cond (lead && not (ends_with (ascii " ") t₁)) (ascii " ") [] in
    let y : Bytes = cond (ends_with_emphasis marker acc) [] marker in
    omega (arith, try_long marker acc, length-append t₁ x, length-append (t₁ ++ x) y, bang_long bang ((t₁ ++ x) ++ y))

-- it is longer than the marker, so that it needs more room than the text and itself
pub closed_full : (d : List ℕ) (len : ℕ) (marker done : Bytes) (lead : Bool) → len ≤ length d → length marker < length done → length d - len ≤ length done
    → Refused (length d) (marked_with marker lead done (take len d))
unfolding beside and_then push
closed_full d len marker done lead h k l =
    record { over = omega (arith, front_long marker lead (starts_with (ascii "[") done) (take len d), length-take-le len d h) }

-- ---- the n bytes at `from` are lifted, and `end` is put behind them

pub end_size : (marker : Bytes) (n : ℕ) (trail : Bool) → n + length marker + bool_byte trail ≡ n + length (marker ++ cond trail (ascii " ") [])
end_size marker n true = omega (arith, length-append marker (ascii " "))
end_size marker n false = omega (arith, length-append marker [])

-- base is the place from which the n bytes and `end` reach to the end of d
pub record EndAt (d : List ℕ) (len from n base : ℕ) (end : Bytes) : Type 0 where
  pub inside : n + length end ≤ length d
  pub base_is : base ≡ length d - (n + length end)
  pub behind_text : len ≤ base
  pub behind_from : from ≤ base

pub end_at : (marker : Bytes) (trail : Bool) (d : List ℕ) (len from n : ℕ) → n + length marker + bool_byte trail < length d - len → len ≤ length d → from ≤ len + 1
    → EndAt d len from n (length d - (n + length marker + bool_byte trail)) (marker ++ cond trail (ascii " ") [])
end_at marker trail d len from n room fits near =
    let s = end_size marker n trail in
    record {
      inside = omega (arith, s, room, fits);
      base_is = ap (λ (k : ℕ). length d - k) s;
      behind_text = omega (arith, room, fits);
      behind_from = omega (arith, room, fits, near);
    }

module _ {d z : List ℕ} {len from n base : ℕ} {end : Bytes} (p : EndAt d len from n base end) (l : Lifted d z from n base) where
  room : lent z base ≡ drop base z
  room = rest_part base z

  room_long : length (lent z base) ≡ n + length end
  room_long = ap length room ∙ length-drop base z ∙ omega (arith, l.long, p.inside, p.base_is)

  lifted_is : take n (lent z base) ≡ take n (drop from d)
  lifted_is = ap (take n) room ∙ l.moved

  pub end_reach : n ≤ length (lent z base)
  end_reach = omega (arith, room_long)

  pub end_fits : Refused (length (lent z base)) (push end (take n (lent z base))) → ⊥
  unfolding push
  end_fits w = omega (arith, w.over, room_long, length-take-le n (lent z base) end_reach)

  module _ {ys : List ℕ} {m : ℕ} (w : Written (length (lent z base)) ys m (push end (take n (lent z base)))) where
    pub end_long : length (back z base ys) ≡ length d
    end_long = same_len_mid base (length z - base) z ys w.long ∙ l.long

    before_long : length (take base z) ≡ base
    before_long = length-take-le base z (omega (arith, l.long, p.base_is))

    end_text : take len (back z base ys) ≡ take len d
    end_text =
        sym (take-take len base (back z base ys) p.behind_text) ∙ ap (take len) (take_at (take base z) (ys ++ drop (length z - base) (drop base z)) base before_long ∙ l.kept)
        ∙ take-take len base d p.behind_text

    end_is : drop base (back z base ys) ≡ take n (drop from d) ++ end
    unfolding push
    end_is =
        drop_at (take base z) (ys ++ drop (length z - base) (drop base z)) base before_long
        ∙ ap (λ (r : List ℕ). ys ++ r) (drop_of_length-le (drop base z) {i = length z - base} (omega (arith, length-drop base z))) ∙ append-nil ys
        ∙ sym (take_all m ys (omega (arith, w.count, w.long, room_long, length-append (take n (lent z base)) end, length-take-le n (lent z base) end_reach))) ∙ w.text_is
        ∙ ap (λ (t : List ℕ). t ++ end) lifted_is

    pub end_writes : (f : List ℕ → Step) {final : List ℕ} {r : Wrote} → Writes (length (back z base ys)) final r (f (drop base (back z base ys)) (take len (back z base ys)))
        → Writes (length d) final r (f (take n (drop from d) ++ end) (take len d))
    end_writes f {final} {r} v =
        subst (λ (j : ℕ). Writes j final r (f (take n (drop from d) ++ end) (take len d))) end_long
        (subst₂ (λ (c t : List ℕ). Writes (length (back z base ys)) final r (f c t)) end_is end_text v)

-- ---- blanks at the ends of the emphasis text

pub one_small : (b : Bool) → cond b 1 0 ≤ 1
one_small true = omega arith
one_small false = omega arith

-- what is blank is not emphasized
not_blank : (content x : Bytes) → null (trim_end content) ≡ false → null (trim_end x) ≡ true → content ≡ x → ⊥
not_blank content x f t e = false≢true (sym f ∙ ap (λ (s : Bytes). null (trim_end s)) e ∙ t)

starts_blank : (a : ℕ) (s : Bytes) → starts_with (ascii " ") (a ∷ s) ≡ true → a ≡ 32
starts_blank a s e = eqb-true a 32 (starts_byte (a ∷ s) 32 (λ q. omega arith) ∙ e)

ends_blank : (b : ℕ) → ends_with (ascii " ") (b ∷ []) ≡ true → b ≡ 32
ends_blank b e = eqb-true b 32 (ends_byte (b ∷ []) 32 (λ q. omega arith) ∙ e)

abbrev begun_of : Bool → Bytes → Bytes
begun_of lead content = cond lead (drop 1 content) content

some_left : (content begun : Bytes) (trail : Bool) → begun ≡ begun_of (starts_with (ascii " ") content) content → trail ≡ ends_with (ascii " ") begun
    → null (trim_end content) ≡ false → 0 < length begun - cond trail 1 0
unfolding trim_end trim_end_matches is_white_space among white_space_of same unless null
some_left [] begun trail e q f = absurd (not_blank [] [] f refl refl)
some_left (a ∷ []) begun trail e q f = go (starts_with (ascii " ") (a ∷ [])) refl trail refl
  where
    blank : a ≡ 32 → ⊥
    blank z = not_blank (a ∷ []) (32 ∷ []) f refl (ap (λ (x : ℕ). x ∷ []) z)

    go : (s : Bool) → starts_with (ascii " ") (a ∷ []) ≡ s → (t : Bool) → trail ≡ t → 0 < length begun - cond trail 1 0
    go true z t y = absurd (blank (starts_blank a [] z))
    go false z true y =
        let w : begun ≡ a ∷ [] = e ∙ ap (λ (l : Bool). begun_of l (a ∷ [])) z in
        absurd (blank (ends_blank a (ap (ends_with (ascii " ")) (sym w) ∙ sym q ∙ y)))
    go false z false y =
        let w : begun ≡ a ∷ [] = e ∙ ap (λ (l : Bool). begun_of l (a ∷ [])) z in
        rw (w, y) (omega arith)
some_left (a ∷ b ∷ []) begun trail e q f = go (starts_with (ascii " ") (a ∷ b ∷ [])) refl trail refl
  where
    go : (s : Bool) → starts_with (ascii " ") (a ∷ b ∷ []) ≡ s → (t : Bool) → trail ≡ t → 0 < length begun - cond trail 1 0
    go true z true y =
        let w : begun ≡ b ∷ [] = e ∙ ap (λ (l : Bool). begun_of l (a ∷ b ∷ [])) z in
        let v : b ≡ 32 = ends_blank b (ap (ends_with (ascii " ")) (sym w) ∙ sym q ∙ y) in
        absurd (not_blank (a ∷ b ∷ []) (32 ∷ 32 ∷ []) f refl (subst₂ (λ (x u : ℕ). a ∷ b ∷ [] ≡ x ∷ u ∷ []) (starts_blank a (b ∷ []) z) v refl))
    go true z false y =
        let w : begun ≡ b ∷ [] = e ∙ ap (λ (l : Bool). begun_of l (a ∷ b ∷ [])) z in
        rw (w, y) (omega arith)
    go false z t y =
        let w : begun ≡ a ∷ b ∷ [] = e ∙ ap (λ (l : Bool). begun_of l (a ∷ b ∷ [])) z in
        rw w (omega (arith, one_small trail))
some_left (a ∷ b ∷ c ∷ r) begun trail e q f = go (starts_with (ascii " ") (a ∷ b ∷ c ∷ r)) refl
  where
    go : (s : Bool) → starts_with (ascii " ") (a ∷ b ∷ c ∷ r) ≡ s → 0 < length begun - cond trail 1 0
    go true z = omega (arith, one_small trail, ap length (e ∙ ap (λ (l : Bool). begun_of l (a ∷ b ∷ c ∷ r)) z))
    go false z = omega (arith, one_small trail, ap length (e ∙ ap (λ (l : Bool). begun_of l (a ∷ b ∷ c ∷ r)) z))

closed_is : (marker content begun : Bytes) (trail : Bool) → begun ≡ begun_of (starts_with (ascii " ") content) content → trail ≡ ends_with (ascii " ") begun
    → closed marker content ≡ take (length begun - cond trail 1 0) begun ++ (marker ++ cond trail (ascii " ") [])
unfolding closed drop_end
closed_is marker content begun trail e q =
    subst (λ (x : Bytes). cond (ends_with (ascii " ") x) (take (length x - 1) x ++ (marker ++ ascii " ")) (x ++ marker) ≡ take (length begun - cond trail 1 0) begun ++ (marker ++ cond trail (ascii " ") [])) e
    (ap (λ (t : Bool). cond t (take (length begun - 1) begun ++ (marker ++ ascii " ")) (begun ++ marker)) (sym q) ∙ go trail)
  where
    go : (t : Bool) → cond t (take (length begun - 1) begun ++ (marker ++ ascii " ")) (begun ++ marker) ≡ take (length begun - cond t 1 0) begun ++ (marker ++ cond t (ascii " ") [])
    go true = refl
    go false =
        let z : length begun ≤ length begun - 0 = omega arith in
        sym (ap (λ (x : Bytes). x ++ (marker ++ [])) (take_all (length begun - 0) begun z) ∙ ap (λ (x : Bytes). begun ++ x) (append-nil marker))

-- the number that a test is
pub bit : (b : Bool) → bool_byte b ≡ cond b 1 0
bit true = refl
bit false = refl

module _ (content : Bytes) (lead : Bool) (e : lead ≡ starts_with (ascii " ") content) where
  pub lead_fits : bool_byte lead ≤ length content
  lead_fits = go lead content e
    where
      go : (t : Bool) (s : Bytes) → t ≡ starts_with (ascii " ") s → bool_byte t ≤ length s
      go true [] q = absurd (false≢true (sym (q ∙ starts_short [] (ascii " ") (omega arith))))
      go true (b ∷ s) q = omega arith
      go false s q = omega arith

  abbrev begun : Bytes
  begun = take (length content - bool_byte lead) (drop (bool_byte lead) content)

  begun_is : begun ≡ begun_of (starts_with (ascii " ") content) content
  begun_is = rest_part (bool_byte lead) content ∙ go lead ∙ ap (λ (t : Bool). begun_of t content) e
    where
      go : (t : Bool) → drop (bool_byte t) content ≡ begun_of t content
      go true = refl
      go false = refl

  pub begun_long : length begun ≡ length content - bool_byte lead
  begun_long = ap length (rest_part (bool_byte lead) content) ∙ length-drop (bool_byte lead) content

  -- its first k bytes, where it stands in the room
  pub body_at : (d : List ℕ) (len n k : ℕ) → content ≡ take n (drop len d) → n ≡ length content → k ≤ length begun → take k begun ≡ take k (drop (len + bool_byte lead) d)
  body_at d len n k q h g =
      let l : ℕ = bool_byte lead in
      ap (take k) (rest_part l content ∙ ap (drop l) q ∙ drop_take l n (drop len d) ∙ ap (take (n - l)) (drop-drop l len d)) ∙ take-take k (n - l) (drop (len + l) d) (omega (arith, begun_long))

  module _ (trail : Bool) (q : trail ≡ ends_with (ascii " ") begun) where
    pub trail_fits : bool_byte trail ≤ length begun
    trail_fits = go trail q
      where
        go : (t : Bool) → t ≡ ends_with (ascii " ") begun → bool_byte t ≤ length begun
        go true p = ends_long begun (ascii " ") (sym p)
        go false p = omega arith

    pub body_some : null (trim_end content) ≡ false → 0 < length begun - bool_byte trail
    body_some z = omega (arith, some_left content begun trail begun_is q z, bit trail)

    pub marked_parts : (marker acc : Bytes) → push_marked marker content acc ≡ marked_with marker lead (take (length begun - bool_byte trail) begun ++ (marker ++ cond trail (ascii " ") [])) acc
    marked_parts marker acc =
        marked_is marker content acc lead (take (length begun - bool_byte trail) begun ++ (marker ++ cond trail (ascii " ") [])) e
        (sym (closed_is marker content begun trail begun_is q ∙ ap (λ (k : ℕ). take (length begun - k) begun ++ (marker ++ cond trail (ascii " ") [])) (sym (bit trail))))

-- ---- which of the two

module _ (marker content acc : Bytes) (k : ℕ) (t : Trimmed content k (trim_end content)) where
  pub all_blank : k ≡ 0 → push_emphasis marker content acc ≡ beside (length content) (push content acc)
  unfolding push_emphasis
  all_blank e = rw (null_none (trim_end content) (trimmed_length t ∙ e))

  pub some_black : (k ≡ 0 → ⊥) → null (trim_end content) ≡ false
  some_black e = null_some (trim_end content) (λ q. e (sym (trimmed_length t) ∙ q))

  pub all_marked : (k ≡ 0 → ⊥) → push_emphasis marker content acc ≡ push_marked marker content acc
  unfolding push_emphasis
  all_marked e = rw (some_black e)
