-- The tests of `elements/list.rs`, from sibling to sibling.
use Prim.Native.Nat.{ℕ, ◌<◌}
use mathlib.Core.Path.{◌≡◌, refl, ap, ◌∙◌, sym}
use mathlib.Core.Bool.{true, false, not, ◌&&◌, ◌||◌, false≢true}
use mathlib.Core.List.{append-nil}
use mathlib.Core.Option.{Option, none, some}
use lib.ListN.{get_or}
use lib.Dec.{eqb}
use borrow.Author.Tests.{eq-eqb}
use Rattle.spec.specs.Bytes.{Bytes, isin, null, is_blank, trim_end, trim_end_matches}
use Rattle.spec.specs.Tree.{Forest, nothing, text, comment, element, text_of}
use Rattle.spec.specs.Md.Elements.Blocks.{is_md_block, is_list}
use Rattle.spec.specs.Md.Elements.List.{name_of, node_is_list_item_block, has_blocks, only_blocks, has_text_before_list, number_or}
use Rattle.tree.specs.Memory.{place_at}
use Rattle.tree.specs.Represents.{Rep, head_of, rest_of}
use Rattle.tree.specs.Nodes.{name_at, text_at}
use Rattle.tree.specs.NodeFields.{IsField}
use Rattle.tree.specs.declared.field.NodeField.{NodeField}
use Rattle.tree.proofs.Firsts.{first}
use Rattle.tree.proofs.NodeFields.{of_node}
use Rattle.tree.proofs.Kin.{first_name, first_text_lem}
use Rattle.lists_links.specs.Parsed.{parsed_of}
use Rattle.std.specs.Option.{unwrap_or}

-- ---- blocks

blocks_first : (f : Forest) → has_blocks f ≡ (node_is_list_item_block (name_of f) || has_blocks (rest_of f))
unfolding has_blocks name_of rest_of node_is_list_item_block is_list is_md_block isin
blocks_first nothing = refl
blocks_first (text s r) = refl
blocks_first (comment s r) = refl
blocks_first (element name attrs k r) = refl

module _ (sh ns : Bytes) (parent i e : ℕ) (f : Forest) (h : Rep sh ns parent i e f) (l : i < e) where
  blocks_at : has_blocks f ≡ (node_is_list_item_block (name_at sh (place_at ns i)) || has_blocks (rest_of f))
  blocks_at = blocks_first f ∙ rw (first_name sh ns parent i e f h l)

  pub blocks_here : node_is_list_item_block (name_at sh (place_at ns i)) ≡ true → has_blocks f ≡ true
  blocks_here q = blocks_at ∙ rw q

  pub blocks_on : node_is_list_item_block (name_at sh (place_at ns i)) ≡ false → has_blocks f ≡ has_blocks (rest_of f)
  blocks_on q = blocks_at ∙ rw q

-- ---- blocks and nothing else. The field of node i is k

module _ (sh ns : Bytes) (parent i e : ℕ) (f : Forest) (h : Rep sh ns parent i e f) (l : i < e) {k : NodeField} (q : IsField sh ns i k) where
  pub only_text : {x : Bytes} → get_or k.sheet.now k.place 0 ≡ 4 → x ≡ text_at k.sheet.now k.place → only_blocks f ≡ (is_blank x && only_blocks (rest_of f))
  unfolding only_blocks
  only_text {x} t b =
      let u : get_or sh (place_at ns i) 0 ≡ 4 = sym (of_node (λ (s : Bytes) (p : ℕ). get_or s p 0) q) ∙ t in
      ap only_blocks ((first sh ns parent i e f h l).text_is u)
      ∙ ap (λ (y : Bytes). is_blank y && only_blocks (rest_of f)) (sym (first_text_lem sh (place_at ns i) u) ∙ sym (b ∙ of_node text_at q))

  pub only_comment : (get_or k.sheet.now k.place 0 ≡ 1 → ⊥) → (get_or k.sheet.now k.place 0 ≡ 4 → ⊥) → only_blocks f ≡ only_blocks (rest_of f)
  unfolding only_blocks
  only_comment a b =
      ap only_blocks ((first sh ns parent i e f h l).comment_is (λ t. a (of_node (λ (s : Bytes) (p : ℕ). get_or s p 0) q ∙ t)) (λ t. b (of_node (λ (s : Bytes) (p : ℕ). get_or s p 0) q ∙ t)))

  pub only_element : get_or k.sheet.now k.place 0 ≡ 1
      → only_blocks f
      ≡ ((is_list (name_at sh (place_at ns i))
      || (node_is_list_item_block (name_at sh (place_at ns i)) && (not (eqb (name_at sh (place_at ns i)) 14) && not (eqb (name_at sh (place_at ns i)) 15))))
      && only_blocks (rest_of f))
  unfolding only_blocks name_at
  only_element t =
      let u : get_or sh (place_at ns i) 0 ≡ 1 = sym (of_node (λ (s : Bytes) (p : ℕ). get_or s p 0) q) ∙ t in
      ap only_blocks ((first sh ns parent i e f h l).element_is u) ∙ rw (eq-eqb (get_or sh (place_at ns i) 0) 1 u)

-- ---- texts before a list

before_first : (f : Forest) → is_list (name_of f) ≡ false
    → has_text_before_list f ≡ (not (null (trim_end (text_of (head_of f)))) || has_text_before_list (rest_of f))
unfolding has_text_before_list name_of head_of rest_of text_of trim_end trim_end_matches null
before_first nothing q = refl
before_first (text s r) q = rw (append-nil s)
before_first (comment s r) q = refl
before_first (element name attrs k r) q = rw (q, append-nil (text_of k))

before_list : (f : Forest) → is_list (name_of f) ≡ true → has_text_before_list f ≡ false
unfolding has_text_before_list name_of
before_list nothing q = refl
before_list (text s r) q = absurd (unfold is_list isin in false≢true q)
before_list (comment s r) q = absurd (unfold is_list isin in false≢true q)
before_list (element name attrs k r) q = rw q

module _ (sh ns : Bytes) (parent i e : ℕ) (f : Forest) (h : Rep sh ns parent i e f) (l : i < e) where
  pub before_none : is_list (name_at sh (place_at ns i)) ≡ true → has_text_before_list f ≡ false
  before_none q = before_list f (sym (ap is_list (first_name sh ns parent i e f h l)) ∙ q)

  module _ (q : is_list (name_at sh (place_at ns i)) ≡ false) where
    before_at : has_text_before_list f ≡ (not (null (trim_end (text_of (head_of f)))) || has_text_before_list (rest_of f))
    before_at = before_first f (sym (ap is_list (first_name sh ns parent i e f h l)) ∙ q)

    pub before_here : null (trim_end (text_of (head_of f))) ≡ false → has_text_before_list f ≡ true
    before_here u = before_at ∙ rw u

    pub before_on : null (trim_end (text_of (head_of f))) ≡ true → has_text_before_list f ≡ has_text_before_list (rest_of f)
    before_on u = before_at ∙ rw u

-- ---- numbers

pub parsed_or : (o : Option ℕ) (n : ℕ) → unwrap_or (parsed_of o) n ≡ number_or o n
unfolding number_or
parsed_or none n = refl
parsed_or (some k) n = refl
