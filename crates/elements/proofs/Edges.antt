-- How the texts of a range of nodes begin and end, and the code without its edges.
use Prim.Native.Nat.{ℕ, ◌+◌, ◌-◌, ◌≤◌, ◌<◌}
use native.Mathlib.Omega.{arith}
use mathlib.Core.Path.{◌≡◌, refl, ap, ◌∙◌, sym}
use mathlib.Core.Bool.{Bool, true, false, cond}
use mathlib.Core.List.{[], ◌∷◌, ◌++◌}
use lib.ListN.{length, take, drop, get_or, length-append, length-take, length-drop}
use lib.Seq.{length-take-le, take-take, drop-drop, get_or-append-add}
use lib.Dec.{eqb}
use Rattle.spec.specs.Bytes.{Bytes, ascii, null, one, same, unless, starts_with, ends_with, blank, trim_start_matches, trim_end_matches}
use Rattle.spec.specs.Tree.{Forest, text_of}
use Rattle.spec.specs.Md.TextUtils.{trim_blanks}
use Rattle.spec.specs.Md.Elements.Code.{is_tab_or_blank, trim_edges}
use Rattle.tree.specs.Memory.{place_at}
use Rattle.tree.specs.Represents.{Rep}
use Rattle.tree.specs.Nodes.{text_at}
use Rattle.tree.proofs.Ranges.{text_pieces}
use Rattle.text.specs.Trimmed.{Trimmed, Skipped}
use Rattle.text.proofs.Reading.{starts_byte, ends_byte, drop_take}
use Rattle.elements.specs.Edges.{ended_by}
use Rattle.nodes.proofs.Numbers.{Folds, pieces, pieces_on, pieces_none}

-- ---- the beginning

abbrev pub begins : Bytes → Bool
begins s = starts_with (ascii "\n") (trim_start_matches is_tab_or_blank s)

front_goes : (p : ℕ → Bool) (x y : Bytes) → trim_start_matches p x ≡ [] → trim_start_matches p (x ++ y) ≡ trim_start_matches p y
unfolding trim_start_matches
front_goes p [] y e = refl
front_goes p (b ∷ x) y e = go (p b) (front_goes p x y) e
  where
    go : (z : Bool) → (trim_start_matches p x ≡ [] → trim_start_matches p (x ++ y) ≡ trim_start_matches p y) → cond z (trim_start_matches p x) (b ∷ x) ≡ [] → cond z (trim_start_matches p (x ++ y)) (b ∷ (x ++ y)) ≡ trim_start_matches p y
    go true f e = f e
    go false f e = let z : ◌≡◌ {A = ℕ} 0 1 = cc in absurd (omega arith)

front_stays : (p : ℕ → Bool) (x y : Bytes) {b : ℕ} {t : Bytes} → trim_start_matches p x ≡ b ∷ t → trim_start_matches p (x ++ y) ≡ b ∷ (t ++ y)
unfolding trim_start_matches
front_stays p [] y e = let z : ◌≡◌ {A = ℕ} 0 1 = cc in absurd (omega arith)
front_stays p (a ∷ x) y {b} {t} e = go (p a) (front_stays p x y) e
  where
    go : (z : Bool) → (trim_start_matches p x ≡ b ∷ t → trim_start_matches p (x ++ y) ≡ b ∷ (t ++ y)) → cond z (trim_start_matches p x) (a ∷ x) ≡ b ∷ t → cond z (trim_start_matches p (x ++ y)) (a ∷ (x ++ y)) ≡ b ∷ (t ++ y)
    go true f e = f e
    go false f e = ap (λ (w : Bytes). w ++ y) e

module _ (sh ns : Bytes) (e i : ℕ) where
  -- the text of node i is x, of which `rest` is left behind the tabs and blanks at its front
  module _ (l : i < e) {x rest : Bytes} (h : x ≡ text_at sh (place_at ns i)) (w : rest ≡ trim_start_matches is_tab_or_blank x) where
    pub begin_here : 1 ≤ length rest → eqb (get_or rest 0 0) 10 ≡ begins (pieces sh ns e i)
    begin_here m = go rest w m
      where
        go : (r : Bytes) → r ≡ trim_start_matches is_tab_or_blank x → 1 ≤ length r → eqb (get_or r 0 0) 10 ≡ begins (pieces sh ns e i)
        go [] w m = absurd (omega arith)
        go (b ∷ t) w m =
            starts_byte (b ∷ (t ++ pieces sh ns e (i + 1))) 10 (λ z. omega arith)
            ∙ sym (ap (starts_with (ascii "\n")) (ap (trim_start_matches is_tab_or_blank) (pieces_on sh ns e i l h) ∙ front_stays is_tab_or_blank x (pieces sh ns e (i + 1)) (sym w)))

    pub begin_on : length rest ≤ 0 → begins (pieces sh ns e i) ≡ begins (pieces sh ns e (i + 1))
    begin_on m = go rest w m
      where
        go : (r : Bytes) → r ≡ trim_start_matches is_tab_or_blank x → length r ≤ 0 → begins (pieces sh ns e i) ≡ begins (pieces sh ns e (i + 1))
        go [] w m = ap (starts_with (ascii "\n")) (ap (trim_start_matches is_tab_or_blank) (pieces_on sh ns e i l h) ∙ front_goes is_tab_or_blank x (pieces sh ns e (i + 1)) (sym w))
        go (b ∷ t) w m = absurd (omega arith)

  pub begin_none : e ≤ i → begins (pieces sh ns e i) ≡ false
  unfolding starts_with trim_start_matches same
  begin_none l = ap begins (pieces_none sh ns e i l)

pub begin_numbers : (sh ns : Bytes) (parent i e : ℕ) (f : Forest) → Rep sh ns parent i e f → begins (text_of f) ≡ begins (pieces sh ns e i)
begin_numbers sh ns parent i e f h = ap begins (text_pieces sh ns parent i e f h)

-- ---- the end

abbrev trimmed : Bytes → Bytes
trimmed s = trim_end_matches (one is_tab_or_blank) s

end_goes : (x y : Bytes) → trimmed y ≡ [] → trimmed (x ++ y) ≡ trimmed x
unfolding trim_end_matches
end_goes [] y e = e
end_goes (a ∷ x) y e = ap (λ (r : Bytes). unless (one is_tab_or_blank (a ∷ r)) (a ∷ r)) (end_goes x y e)

end_stays : (x y : Bytes) {b : ℕ} {t : Bytes} → trimmed y ≡ b ∷ t → trimmed (x ++ y) ≡ x ++ (b ∷ t)
unfolding trim_end_matches one unless
end_stays [] y e = e
end_stays (a ∷ x) y {b} {t} e = ap (λ (r : Bytes). unless (one is_tab_or_blank (a ∷ r)) (a ∷ r)) (end_stays x y e) ∙ long x
  where
    long : (x : Bytes) → unless (one is_tab_or_blank (a ∷ (x ++ (b ∷ t)))) (a ∷ (x ++ (b ∷ t))) ≡ a ∷ (x ++ (b ∷ t))
    long [] = refl
    long (c ∷ x) = refl

last_byte : (x : Bytes) (b : ℕ) (t : Bytes) → ends_with (10 ∷ []) (x ++ (b ∷ t)) ≡ ends_with (10 ∷ []) (b ∷ t)
last_byte x b t =
    let z : length (x ++ (b ∷ t)) - 1 ≡ length x + (length (b ∷ t) - 1) = omega (arith, length-append x (b ∷ t)) in
    sym (ends_byte (x ++ (b ∷ t)) 10 (λ q. omega (arith, length-append x (b ∷ t))))
    ∙ (ap (λ (k : ℕ). eqb k 10) (ap (λ (k : ℕ). get_or (x ++ (b ∷ t)) k 0) z ∙ get_or-append-add x (b ∷ t) (length (b ∷ t) - 1) 0)
    ∙ ends_byte (b ∷ t) 10 (λ q. omega arith))

ended_then : (before : Bool) (x y : Bytes) → ended_by before (x ++ y) ≡ ended_by (ended_by before x) y
unfolding ended_by null
ended_then before x y = go (trimmed y) refl
  where
    some : (x : Bytes) (b : ℕ) (t : Bytes) → cond (null (x ++ (b ∷ t))) before (ends_with (10 ∷ []) (x ++ (b ∷ t))) ≡ ends_with (10 ∷ []) (b ∷ t)
    some [] b t = refl
    some (a ∷ x) b t = last_byte (a ∷ x) b t

    go : (r : Bytes) → trimmed y ≡ r → cond (null (trimmed (x ++ y))) before (ends_with (10 ∷ []) (trimmed (x ++ y))) ≡ cond (null (trimmed y)) (ended_by before x) (ends_with (10 ∷ []) (trimmed y))
    go [] e = rw (end_goes x y e, e)
    go (b ∷ t) e = rw (end_stays x y e, e) (some x b t)

-- what a trim tells of s
module _ (s : Bytes) (before : Bool) (n : ℕ) (w : Trimmed s n (trimmed s)) where
  pub ended_nothing : n ≡ 0 → before ≡ ended_by before s
  unfolding ended_by null
  ended_nothing z = rw (sym w.is ∙ ap (λ (k : ℕ). take k s) z)

  pub ended_here : (n ≡ 0 → ⊥) → ends_with (10 ∷ []) (take n s) ≡ ended_by before s
  unfolding ended_by null
  ended_here z = go (take n s) w.is (omega (arith, length-take-le n s w.within))
    where
      go : (r : Bytes) → r ≡ trimmed s → 0 < length r → ends_with (10 ∷ []) r ≡ cond (null (trimmed s)) before (ends_with (10 ∷ []) (trimmed s))
      go [] e l = absurd (omega arith)
      go (b ∷ t) e l = rw (sym e)

pub ended_plain : (s : Bytes) → ends_with (10 ∷ []) (trimmed s) ≡ ended_by false s
unfolding ended_by null ends_with same
ended_plain s = go (trimmed s)
  where
    go : (r : Bytes) → ends_with (10 ∷ []) r ≡ cond (null r) false (ends_with (10 ∷ []) r)
    go [] = refl
    go (b ∷ t) = refl

pub ended_folds : Folds ended_by
unfolding ended_by trim_end_matches null
ended_folds = record { none = λ before. refl; joins = ended_then }

-- ---- the code: the n bytes of d from len on; the first k of them are left, and of these those from m on

module _ (d : Bytes) (len n : ℕ) (fits : len + n ≤ length d) {c : Bytes} (z : c ≡ take n (drop len d)) {k m : ℕ} {x y : Bytes} (a : Trimmed c k x) (b : Skipped (take k c) m y) where
  pub code_reach : (k ≤ n) × (m ≤ k)
  code_reach = (omega (arith, a.within, ap length z, length-take n (drop len d)), omega (arith, b.within, length-take k c))

module _ (d raw : Bytes) (len n k m : ℕ) (fits : len + n ≤ length d) {ended begun : Bool} (x : ended ≡ ends_with (ascii "\n") (trimmed raw)) (y : begun ≡ begins raw)
    {c : Bytes} (z : c ≡ take n (drop len d)) (a : Trimmed c k (cond ended (trim_blanks c) c)) (b : Skipped (take k c) m (cond begun (trim_start_matches blank (take k c)) (take k c))) where
  code_long : k ≤ n
  code_long = (code_reach d len n fits z a b).0

  shorter : take k (drop len d) ≡ take k c
  shorter = sym (take-take k n (drop len d) code_long) ∙ ap (take k) (sym z)

  pub code_is : take (k - m) (drop (len + m) d) ≡ trim_edges raw (take n (drop len d))
  unfolding trim_edges
  code_is =
      ap (take (k - m)) (sym (drop-drop m len d))
      ∙ (sym (drop_take m k (drop len d))
      ∙ (ap (drop m) shorter ∙ (b.is ∙ (ap (λ (z : Bytes). cond begun (trim_start_matches blank z) z) a.is ∙ rw (← z, x, y)))))

  pub code_size : k - m ≡ length (trim_edges raw (take n (drop len d)))
  code_size = sym (ap length (sym code_is) ∙ length-take-le (k - m) (drop (len + m) d) (omega (arith, length-drop (len + m) d, code_long, fits)))
