-- What an answer about an attribute says.
use Prim.Native.Nat.{ℕ, zero, suc, ◌+◌, ◌-◌, ◌<◌, ◌≤◌}
use mathlib.Core.Path.{◌≡◌, refl, ap, ◌∙◌, sym, subst}
use mathlib.Core.Bool.{Bool, true, false, cond, ◌||◌, or-false, or_self}
use mathlib.Core.Logic.{⊎_elim}
use mathlib.Core.List.{List, [], ◌∷◌}
use mathlib.Core.Option.{Option, some, map}
use lib.ListN.{length, take, drop, length-drop, drop_of_length-le}
use lib.Seq.{length-take-le, take-take, drop-drop, take_all}
use Rattle.std.proofs.lemmas.List.{drop-take}
use native.Mathlib.Omega.{arith}
use Rattle.spec.specs.Bytes.{Bytes, ascii, same, among}
use Rattle.spec.proofs.Order.{le_or_lt}
use Rattle.spec.specs.Fields.{Field, word, fields_from, fields}
use Rattle.spec.specs.Tree.{Attr, attr}
use Rattle.spec.specs.Md.Elements.Code.{sanitize_attr_value, find_code_lang_attribute}
use Rattle.std.specs.Prelude.{Option as Answer}
use Rattle.std.specs.Borrow.{Bor}
use Rattle.tree.specs.Attributes.{either_attr, language_attr, PartOf, Valued}
use Rattle.input.proofs.Walking.{same_comm}

module _ {sh : Bytes} {r : Answer (Bor Bytes)} {v : Option Bytes} (h : Valued sh r v) where
  pub valued_as : {w : Option Bytes} → v ≡ w → Valued sh r w
  valued_as e = record { inside = h.inside; value_is = sym e ∙ h.value_is }

-- ---- parts of the sheet

-- the bytes from a up to b of a part
pub part_of_part : (sh x : Bytes) (a b : ℕ) → PartOf sh x → a ≤ b → b ≤ length x → PartOf sh (take (b - a) (drop a x))
part_of_part sh x a b (p, q, o, i, e) h l =
    let n : length x ≡ q - p = ap length e ∙ length-take-le (q - p) (drop p sh) (omega (arith, length-drop p sh)) in
    let m : q - p ≡ a + (q - p - a) = omega (arith, n) in
    let d : p + b - (p + a) ≡ b - a = omega arith in
    let behind : drop a x ≡ take (q - p - a) (drop (p + a) sh) =
    ap (drop a) (e ∙ ap (λ (k : ℕ). take k (drop p sh)) m) ∙ drop-take a (q - p - a) (drop p sh) ∙ ap (take (q - p - a)) (drop-drop a p sh) in (
      p + a,
      p + b,
      omega arith,
      omega (arith, n),
      ap (take (b - a)) behind ∙ take-take (b - a) (q - p - a) (drop (p + a) sh) (omega (arith, n)) ∙ ap (λ (k : ℕ). take k (drop (p + a) sh)) (sym d),
    )

pub part_none : (sh : Bytes) → PartOf sh []
part_none sh = (0, 0, omega arith, omega arith, refl)

part_take : (sh x : Bytes) (n : ℕ) → PartOf sh x → PartOf sh (take n x)
part_take sh x n p =
    ⊎_elim
    (λ (l : n ≤ length x). let e : n - 0 ≡ n = omega arith in subst (λ (k : ℕ). PartOf sh (take k x)) e (part_of_part sh x 0 n p (omega arith) l))
    (λ (l : length x < n). subst (PartOf sh) (sym (take_all n x (omega arith))) p)
    (le_or_lt n (length x))

part_drop : (sh x : Bytes) (n : ℕ) → PartOf sh x → PartOf sh (drop n x)
part_drop sh x n p =
    ⊎_elim
    (λ (l : n ≤ length x). subst (PartOf sh) (take_all (length x - n) (drop n x) (omega (arith, length-drop n x))) (part_of_part sh x n (length x) p l (omega arith)))
    (λ (l : length x < n). subst (PartOf sh) (sym (drop_of_length-le x (omega arith))) (part_none sh))
    (le_or_lt n (length x))

-- the bytes of each field are a part of the sheet
abbrev pub Parts : Bytes → List Field → Type 0
Parts sh [] = Unit {0}
Parts sh (f ∷ fs) = PartOf sh f.body × Parts sh fs

parts_from : (n : ℕ) (sh x : Bytes) → PartOf sh x → Parts sh (fields_from n x)
unfolding fields_from
parts_from zero sh x p = tt
parts_from (suc n) sh [] p = tt
parts_from (suc n) sh (t ∷ []) p = tt
parts_from (suc n) sh (t ∷ a ∷ []) p = tt
parts_from (suc n) sh (t ∷ a ∷ b ∷ x) p =
    let q : PartOf sh x = part_drop sh (t ∷ a ∷ b ∷ x) 3 p in
    (part_take sh x (word a b) q, parts_from n sh (drop (word a b) x) (part_drop sh x (word a b) q))

pub parts_behind : (sh : Bytes) (p : ℕ) → Parts sh (fields (drop p sh))
unfolding fields
parts_behind sh p =
    let whole : PartOf sh sh = (0, length sh, omega arith, omega arith, sym (take_all (length sh - 0) sh (omega arith))) in
    parts_from (length (drop p sh)) sh (drop p sh) (part_drop sh sh p whole)

pub either_same : (name : Bytes) (attrs : List Attr) → either_attr name name attrs ≡ attr name attrs
unfolding either_attr attr
either_same name [] = refl
either_same name (x ∷ more) = rw (or_self (same name x.name), either_same name more)

-- ---- the language of a code block

pub language_found : (attrs : List Attr) → find_code_lang_attribute attrs ≡ map sanitize_attr_value (language_attr attrs)
unfolding find_code_lang_attribute either_attr among
language_found [] = refl
language_found (x ∷ more) =
    rw (same_comm x.name (ascii "data-lang"), same_comm x.name (ascii "data-language"), or-false, language_found more)
    (go (same (ascii "data-lang") x.name || same (ascii "data-language") x.name))
  where
    go : (t : Bool) → cond t (some (sanitize_attr_value x.value)) (map sanitize_attr_value (language_attr more))
        ≡ map sanitize_attr_value (cond t (some x.value) (language_attr more))
    go true = refl
    go false = refl
