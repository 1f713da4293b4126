-- The language of a code block, in an element and the elements around it, and in the words of a class.
use Prim.Native.Nat.{ℕ, suc, ◌+◌, ◌-◌, ◌≤◌, ◌<◌}
use native.Mathlib.Omega.{arith}
use mathlib.Core.Path.{◌≡◌, refl, ap, ◌∙◌, sym, subst}
use mathlib.Core.Logic.{⊎_elim}
use mathlib.Core.Bool.{Bool, true, false, cond, false≢true}
use mathlib.Core.List.{List, [], ◌∷◌}
use mathlib.Core.Option.{Option, none, some, map}
use lib.ListN.{length, take, drop}
use lib.Seq.{take-nil}
use lib.Dec.{eqb}
use lib.Pointwise.{pointwise}
use borrow.Author.Tests.{eq-eqb, ne_eqb}
use Rattle.spec.specs.Bytes.{Bytes, ascii, same, white, words, split, parts, cut_at, filled, null, starts_with, first_word, or_else, or_nothing}
use Rattle.spec.specs.Names.{tag_of}
use Rattle.spec.specs.Tree.{Attr, Forest, nothing, text, comment, element, attr}
use Rattle.spec.specs.Md.MDSerializer.{Ancestors}
use Rattle.spec.specs.Md.Elements.Code.{filter, sanitize_attr_value, find_code_lang_attribute, nearest_language, language_class, class_language, find_code_language_css_class}
use Rattle.spec.specs.Md.Elements.List.{name_of}
use Rattle.tree.specs.Attributes.{PartOf, Valued, language_attr}
use Rattle.tree.specs.Memory.{place_at, parent_at}
use Rattle.tree.specs.Represents.{Rep, Around, attrs_behind, rest_of}
use Rattle.tree.specs.Nodes.{name_at}
use Rattle.std.specs.Prelude.{Option as Answer, Some, None, MatchOption}
use Rattle.std.specs.List.{find, slice_split, onto_first}
use Rattle.std.specs.Option.{option_map, unwrap_or}
use Rattle.std.specs.Borrow.{Bor}
use Rattle.tree.proofs.Ancestry.{Innermost, innermost, around_in, around_none}
use Rattle.spec.proofs.Order.{le_or_lt}
use Rattle.tree.proofs.Kin.{first_name}
use Rattle.tree.proofs.Values.{language_found, part_of_part}
use Rattle.text.proofs.Reading.{rest_part}
use Rattle.elements.specs.Languages.{Language, Within}
use Rattle.nodes.specs.Stands.{ElementAt}

pub language_of : {sh : Bytes} {r : Answer (Bor Bytes)} {o p : Option Bytes} → o ≡ p → Language sh r p → Language sh r o
language_of {sh} {r} {o} {p} e w = record { inside = w.inside; language_is = e ∙ w.language_is }

-- ---- the elements around

-- of node i and the elements around it `left` are left to be asked, from node `at` on
pub record Up (sh ns : Bytes) (i at left : ℕ) : Type 0 where
  pub here : Within sh ns at
  pub goes : (anc : Ancestors) → Around sh ns i anc
      → (more : Ancestors) × Around sh ns at more × (nearest_language (take 4 anc) ≡ nearest_language (take left more))

or_none : (o y : Option Bytes) → o ≡ none → or_else o y ≡ y
unfolding or_else
or_none o y e = ap (λ (x : Option Bytes). or_else x y) e

module _ {sh ns : Bytes} {i at left : ℕ} (p : Up sh ns i at left) where
  module _ (l : 0 < left) (m : at ≡ 0 → ⊥) where
    within_some : 0 < at
    within_some = ⊎_elim (λ (q : at ≤ 0). absurd (m (omega arith))) (λ (q : 0 < at). q) (le_or_lt at 0)

    pub up_node : Innermost sh ns at p.here.0
    up_node = innermost sh ns at p.here.0 p.here.1 within_some

    -- node `at` says it, or those around it
    here_is : (more : Ancestors) (a : Around sh ns at more)
        → nearest_language (take left more)
        ≡ or_else (find_code_lang_attribute (attrs_behind sh (place_at ns at))) (nearest_language (take (left - 1) (innermost sh ns at more a within_some).more))
    unfolding nearest_language
    here_is more a =
        let n = innermost sh ns at more a within_some in
        let q : left ≡ suc (left - 1) = omega arith in
        ap (λ (x : Ancestors). nearest_language (take left x)) n.anc_is ∙ ap (λ (k : ℕ). nearest_language (take k (attrs_behind sh (place_at ns at) ∷ n.more))) q

    pub up_on : Valued sh None (language_attr (attrs_behind sh (place_at ns at))) → Up sh ns i (parent_at ns at) (left - 1)
    up_on v =
        record {
          here = (up_node.more, up_node.around);
          goes = λ anc a.
              let q = p.goes anc a in
              let n = innermost sh ns at q.0 q.1 within_some in
              (n.more, n.around, q.2 ∙ (here_is q.0 q.1 ∙ or_none _ _ (language_found _ ∙ ap (map sanitize_attr_value) v.value_is)));
        }

    pub up_found : {x : Bor Bytes} → Valued sh (Some x) (language_attr (attrs_behind sh (place_at ns at))) → (anc : Ancestors) → Around sh ns i anc
        → Language sh (Some x) (nearest_language (take 4 anc))
    unfolding or_else
    up_found {x} v anc r =
        let q = p.goes anc r in
        let n = innermost sh ns at q.0 q.1 within_some in
        record {
          inside = v.inside;
          language_is = q.2 ∙ (here_is q.0 q.1
              ∙ ap (λ (o : Option Bytes). or_else o (nearest_language (take (left - 1) n.more))) (language_found _ ∙ ap (map sanitize_attr_value) v.value_is));
        }

  pub up_root : at ≡ 0 → (anc : Ancestors) → Around sh ns i anc → Language sh None (nearest_language (take 4 anc))
  unfolding nearest_language
  up_root e anc a =
      let q = p.goes anc a in
      let z : q.0 ≡ [] = around_none sh ns q.0 (subst (λ (k : ℕ). Around sh ns k q.0) e q.1) in
      record { inside = tt; language_is = q.2 ∙ (ap (λ (x : Ancestors). nearest_language (take left x)) z ∙ ap nearest_language (take-nil left)) }

  pub up_none : left ≤ 0 → (anc : Ancestors) → Around sh ns i anc → Language sh None (nearest_language (take 4 anc))
  unfolding nearest_language
  up_none l anc a =
      let q = p.goes anc a in
      let z : left ≡ 0 = omega arith in
      record { inside = tt; language_is = q.2 ∙ ap (λ (k : ℕ). nearest_language (take k q.0)) z }

-- ---- the words of a class

abbrev prefix : Bytes
prefix = ascii "language-"

pieces_are : (s : Bytes) → split white s ≡ slice_split white s
unfolding split parts cut_at
pieces_are [] = refl
pieces_are (b ∷ s) = go (white b) (pieces_are s)
  where
    go : (t : Bool) → (parts white s).0 ∷ (parts white s).1 ≡ slice_split white s
        → (cut_at t b (parts white s)).0 ∷ (cut_at t b (parts white s)).1 ≡ cond t ([] ∷ slice_split white s) (onto_first b (slice_split white s))
    go true e = ap (λ (x : List Bytes). [] ∷ x) e
    go false e = ap (onto_first b) e

-- each is a part of s
abbrev AllParts : Bytes → List Bytes → Type 0
AllParts s [] = Unit {0}
AllParts s (x ∷ xs) = PartOf s x × AllParts s xs

part_behind : (b : ℕ) (s : Bytes) {x : Bytes} → PartOf s x → PartOf (b ∷ s) x
part_behind b s (p, q, o, i, e) =
    let d : suc q - suc p ≡ q - p = omega arith in
    (suc p, suc q, omega arith, omega arith, e ∙ ap (λ (k : ℕ). take k (drop p s)) (sym d))

parts_behind : (b : ℕ) (s : Bytes) (xs : List Bytes) → AllParts s xs → AllParts (b ∷ s) xs
parts_behind b s [] h = tt
parts_behind b s (x ∷ xs) h = (part_behind b s h.0, parts_behind b s xs h.1)

part_front : (s : Bytes) {x : Bytes} {k : ℕ} → k ≤ length s → x ≡ take k s → PartOf s x
part_front s {x} {k} l e = let d : k - 0 ≡ k = omega arith in (0, k, omega arith, l, e ∙ ap (λ (j : ℕ). take j s) (sym d))

pieces_inside : (s : Bytes) → (k : ℕ) × (k ≤ length s) × ((parts white s).0 ≡ take k s) × AllParts s (parts white s).1
unfolding parts cut_at
pieces_inside [] = (0, omega arith, refl, tt)
pieces_inside (b ∷ s) = let r = pieces_inside s in go (white b) r.0 r.1 r.2 r.3
  where
    go : (t : Bool) (k : ℕ) → k ≤ length s → (parts white s).0 ≡ take k s → AllParts s (parts white s).1
        → (k : ℕ) × (k ≤ length (b ∷ s)) × ((cut_at t b (parts white s)).0 ≡ take k (b ∷ s)) × AllParts (b ∷ s) (cut_at t b (parts white s)).1
    go true k l e h = (0, omega arith, refl, (part_behind b s (part_front s l e), parts_behind b s (parts white s).1 h))
    go false k l e h = (suc k, omega arith, ap (λ (x : Bytes). b ∷ x) e, parts_behind b s (parts white s).1 h)

all_inside : (s : Bytes) → AllParts s (split white s)
unfolding split
all_inside s = let r = pieces_inside s in (part_front s r.1 r.2, r.3)

-- the first piece that begins so
found_none : (xs : List Bytes) → None ≡ find (starts_with prefix) xs → language_class (filled xs) ≡ none
unfolding language_class filled null starts_with same
found_none [] h = refl
found_none ([] ∷ xs) h = found_none xs h
found_none ((b ∷ x) ∷ xs) h = go (found_none xs) (starts_with prefix (b ∷ x)) h
  where
    go : (None ≡ find (starts_with prefix) xs → language_class (filled xs) ≡ none) → (t : Bool) → None ≡ cond t (Some (b ∷ x)) (find (starts_with prefix) xs) → cond t (some (sanitize_attr_value (drop 9 (b ∷ x)))) (language_class (filled xs)) ≡ none
    go f true h = cc
    go f false h = f h

found_some : (s : Bytes) (xs : List Bytes) {w : Bytes} → AllParts s xs → Some w ≡ find (starts_with prefix) xs
    → PartOf s w × (starts_with prefix w ≡ true) × (language_class (filled xs) ≡ some (sanitize_attr_value (drop 9 w)))
unfolding language_class filled null starts_with same
found_some s [] p h = cc
found_some s ([] ∷ xs) p h = found_some s xs p.1 h
found_some s ((b ∷ x) ∷ xs) {w} p h = go (found_some s xs p.1) (starts_with prefix (b ∷ x)) refl h
  where
    go : (Some w ≡ find (starts_with prefix) xs → PartOf s w × (starts_with prefix w ≡ true) × (language_class (filled xs) ≡ some (sanitize_attr_value (drop 9 w)))) → (t : Bool) → starts_with prefix (b ∷ x) ≡ t → Some w ≡ cond t (Some (b ∷ x)) (find (starts_with prefix) xs)
        → PartOf s w × (starts_with prefix w ≡ true) × (cond t (some (sanitize_attr_value (drop 9 (b ∷ x)))) (language_class (filled xs)) ≡ some (sanitize_attr_value (drop 9 w)))
    go f true e h = let q : b ∷ x ≡ w = cc in (subst (λ (y : Bytes). PartOf s y) q p.0, ap (starts_with prefix) (sym q) ∙ e, ap (λ (y : Bytes). some (sanitize_attr_value (drop 9 y))) q)
    go f false e h = f h

same_points : (x y : Bytes) → pointwise eqb x y ≡ same x y
unfolding same
same_points [] [] = refl
same_points [] (b ∷ y) = refl
same_points (a ∷ x) [] = refl
same_points (a ∷ x) (b ∷ y) = rw (same_points x y) refl

module _ (s : Bytes) {r : Answer (Bor Bytes)} (h : option_map (λ (x : Bor Bytes). x.now) r ≡ find (starts_with prefix) (slice_split white s)) where
  pub class_none : r ≡ None → {z : Answer (Bor Bytes)} → z ≡ None → Language s z (language_class (words s))
  unfolding words
  class_none e n = subst (λ (x : Answer (Bor Bytes)). Language s x (language_class (words s))) (sym n) (record { inside = tt; language_is = found_none (split white s) (sym (ap (option_map (λ (x : Bor Bytes). x.now)) e) ∙ (h ∙ sym (ap (find (starts_with prefix)) (pieces_are s)))) })

  -- what stands behind the word's front
  pub class_some : {w : Bor Bytes} → r ≡ Some w → {z : Answer (Bor Bytes)}
      → MatchOption z (pointwise eqb (take 9 w.now) prefix ≡ false) (λ (x : Bor Bytes). (pointwise eqb (take 9 w.now) prefix ≡ true) × (x.now ≡ drop 9 w.now) × (length x.now + 9 ≡ length w.now))
      → Language s z (language_class (words s))
  unfolding words starts_with
  class_some {w} e {z} m = go z m
    where
      f : PartOf s w.now × (starts_with prefix w.now ≡ true) × (language_class (filled (split white s)) ≡ some (sanitize_attr_value (drop 9 w.now)))
      f = found_some s (split white s) (all_inside s) (sym (ap (option_map (λ (x : Bor Bytes). x.now)) e) ∙ (h ∙ sym (ap (find (starts_with prefix)) (pieces_are s))))

      go : (z : Answer (Bor Bytes)) → MatchOption z (pointwise eqb (take 9 w.now) prefix ≡ false) (λ (x : Bor Bytes). (pointwise eqb (take 9 w.now) prefix ≡ true) × (x.now ≡ drop 9 w.now) × (length x.now + 9 ≡ length w.now))
          → Language s z (language_class (words s))
      go None q = absurd (false≢true (sym q ∙ (same_points (take 9 w.now) prefix ∙ f.1)))
      go (Some x) q =
          record {
            inside = subst (λ (y : Bytes). PartOf s y) (rest_part 9 w.now ∙ sym q.1) (part_of_part s w.now 9 (length w.now) f.0 (omega (arith, q.2)) (omega arith));
            language_is = f.2 ∙ ap (λ (y : Bytes). some (sanitize_attr_value y)) (sym q.1);
          }

-- ---- the class of an element

-- a part of a value is a part of the sheet
language_within : {sh x : Bytes} {r : Answer (Bor Bytes)} {o : Option Bytes} → PartOf sh x → Language x r o → Language sh r o
language_within {sh} {x} {r} {o} p w = go r w
  where
    go : (r : Answer (Bor Bytes)) → Language x r o → Language sh r o
    go None w = record { inside = tt; language_is = w.language_is }
    go (Some y) w =
        let (a, b, o, i, e) = w.inside in
        record { inside = subst (λ (z : Bytes). PartOf sh z) (sym e) (part_of_part sh x a b p o i); language_is = w.language_is }

module _ {sh : Bytes} {v : Option Bytes} where
  pub class_value : {x : Bor Bytes} {r : Answer (Bor Bytes)} → Valued sh (Some x) v → Language x.now r (language_class (words x.now)) → Language sh r (class_language v)
  unfolding class_language
  class_value w u = language_of (ap class_language w.value_is) (language_within w.inside u)

  pub class_missing : Valued sh None v → Language sh None (class_language v)
  unfolding class_language
  class_missing w = record { inside = tt; language_is = ap class_language w.value_is }

-- ---- the first `code` among siblings

module _ (sh ns : Bytes) (parent i e : ℕ) where
  pub css_here : (f : Forest) → Rep sh ns parent i e f → i < e → name_at sh (place_at ns i) ≡ 24
      → find_code_language_css_class f ≡ class_language (attr (ascii "class") (attrs_behind sh (place_at ns i)))
  unfolding Rep find_code_language_css_class name_of
  css_here nothing h l q = absurd (omega arith)
  css_here (text s r) h l q = absurd (omega (arith, first_name sh ns parent i e (text s r) h l))
  css_here (comment s r) h l q = absurd (omega (arith, first_name sh ns parent i e (comment s r) h l))
  css_here (element name attrs k r) h l q =
      rw (eq-eqb (tag_of name) 24 (sym (first_name sh ns parent i e (element name attrs k r) h l) ∙ q))
      (ap (λ (x : List Attr). class_language (attr (ascii "class") x)) h.2)

  pub css_on : (f : Forest) → Rep sh ns parent i e f → i < e → (name_at sh (place_at ns i) ≡ 24 → ⊥)
      → find_code_language_css_class f ≡ find_code_language_css_class (rest_of f)
  unfolding Rep find_code_language_css_class name_of rest_of
  css_on nothing h l q = refl
  css_on (text s r) h l q = refl
  css_on (comment s r) h l q = refl
  css_on (element name attrs k r) h l q =
      rw (ne_eqb (tag_of name) 24 (λ t. q (first_name sh ns parent i e (element name attrs k r) h l ∙ t)))

-- ---- an element's own, or of those around it, or of its first `code`

pub around_it : {sh ns : Bytes} {i : ℕ} {name : Bytes} {attrs : List Attr} {kids : Forest} (anc : Ancestors) → ElementAt sh ns i name attrs kids
    → Around sh ns (parent_at ns i) anc → Around sh ns i (attrs ∷ anc)
around_it {sh} {ns} {i} {name} {attrs} {kids} anc x a = around_in sh ns i attrs anc x.positive x.inside x.field.head x.attrs_are a

module _ {sh : Bytes} {o : Option Bytes} where
  pub language_first : {x : Bor Bytes} (y : Option Bytes) → Language sh (Some x) o → Language sh (Some x) (or_else o y)
  unfolding or_else
  language_first y w = record { inside = w.inside; language_is = ap (λ (z : Option Bytes). or_else z y) w.language_is }

  pub language_second : {r : Answer (Bor Bytes)} {y : Option Bytes} → Language sh None o → Language sh r y → Language sh r (or_else o y)
  language_second {r} {y} w u = language_of (or_none o y w.language_is) u

  -- nothing stands for none
  pub language_or : {r : Answer (Bor Bytes)} (d : Bor Bytes) → d.now ≡ [] → Language sh r o → or_nothing o ≡ sanitize_attr_value (unwrap_or r d).now
  unfolding or_nothing sanitize_attr_value words split parts filled null first_word filter
  language_or {r} d e w = go r w
    where
      go : (r : Answer (Bor Bytes)) → Language sh r o → or_nothing o ≡ sanitize_attr_value (unwrap_or r d).now
      go (Some x) w = ap or_nothing w.language_is
      go None w = ap or_nothing w.language_is ∙ sym (ap sanitize_attr_value e)
