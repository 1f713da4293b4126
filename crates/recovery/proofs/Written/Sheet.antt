-- The definition of the writer gives the closed form of a plain sheet's text: one induction over the sheet.
use Prim.Native.Nat.{ℕ, zero, suc, ◌-◌, ◌≤◌, ◌<◌}
use Rattle.std.proofs.Common.{arith, sym, ap, ◌∙◌, true≢false, append-nil, append_assoc, ⊎_elim}
use Rattle.std.specs.Prelude.{◌≡◌, Bool, true, cond, ◌&&◌, List, [], ◌∷◌, ◌++◌, eqb}
use Rattle.std.proofs.Math.Path.{refl, subst}
use Rattle.std.proofs.Math.Bool.{false, not}
use Rattle.std.proofs.lemmas.Bool.{false≢true}
use Rattle.std.proofs.Math.Option.{Option}
use borrow.Author.Tests.{eqb-true, not-true}
use Rattle.spec.specs.Bytes.{Bytes, ascii, null, same, white, isin, ends_with, every, words, join_rest, join}
use Rattle.spec.specs.Names.{tag_of}
use Rattle.spec.specs.Tree.{Attr, Forest, nothing, text, comment, element, height}
use Rattle.spec.specs.ListNumber.{first_due}
use Rattle.spec.specs.Plain.{plain_text, fixed_text, no_node, one_text, rows_of, plain_table, lists, is_list_name, is_wrapper, holds_text, leaf, block, blocks}
use Rattle.spec.specs.SheetList.{first_text, is_heading_name}
use Rattle.spec.specs.Out.{and_then, keep}
use Rattle.spec.specs.Md.Constants.{DEFAULT_SKIP_TAGS}
use Rattle.spec.specs.Md.Heading.{is_heading, md_prefix}
use Rattle.spec.specs.Md.MDSerializer.{Ancestors}
use Rattle.spec.specs.Md.Elements.Blocks.{is_md_block}
use Rattle.spec.specs.Md.Serializer.{opened, close_md, closed, has_writer, in_element, write_element_node, write_nodes, write_at, serializer, write_fragment, serialize}
use Rattle.spec.proofs.Tests.{and_l, and_r, or_elim, isin_yes, apart, same_eq}
use Rattle.recovery.specs.Closed.{phrase, heading_line, fenced_lines, table_lines, items_lines, leaf_lines, own_lines, block_lines, sheet_lines, from_first, closed_form}
use Rattle.recovery.proofs.Written.Ends.{first_is}
use Rattle.recovery.proofs.Written.Breaks.{lfs, sep, broken, trimmed, trim_core, trim_lfs}
use Rattle.recovery.proofs.Written.Fences.{bare_all, fence_first}
use Rattle.recovery.proofs.TableBlocks.{kids_text, one_text_lem}
use Rattle.recovery.proofs.Lists.{ListOk, list_ok, list_tag}
use Rattle.recovery.proofs.Written.Lines.{below_nil}
use Rattle.recovery.proofs.Written.Phrases.{text_first, items_begin}
use Rattle.recovery.proofs.Written.Headings.{heading_first}
use Rattle.recovery.proofs.Written.Tables.{table_first}
use Rattle.recovery.proofs.Written.Blocks.{After, begun, behind, gapped, broken_after, joined, first_some, empties, joined_gap}
use Rattle.recovery.proofs.Written.Leaves.{flat, writer, block_known, node_text, opened_block, in_block, close_text, closed_md, paragraph_real, heading_real, rule_real, fixed_real, table_real, list_real}

-- ---- wrappers

wrapper_block : (n : ℕ) → is_wrapper n ≡ true → is_md_block n ≡ true
wrapper_block n h = isin_yes is_md_block n (3 ∷ 2 ∷ 1 ∷ []) (unfold is_wrapper in h) (unfold every is_md_block isin in refl)

wrapper_plain : (n : ℕ) → is_wrapper n ≡ true → has_writer flat n ≡ false
wrapper_plain n h = not-true (has_writer flat n) (isin_yes (λ n. not (has_writer flat n)) n (3 ∷ 2 ∷ 1 ∷ []) (unfold is_wrapper in h) (unfold every has_writer isin in refl))

wrapper_prefix : (n : ℕ) → is_wrapper n ≡ true → md_prefix n ≡ []
wrapper_prefix n h =
    same_eq (md_prefix n) [] (isin_yes (λ n. same (md_prefix n) []) n (3 ∷ 2 ∷ 1 ∷ []) (unfold is_wrapper in h) (unfold every md_prefix same in refl))

wrapper_heading : (n : ℕ) → is_wrapper n ≡ true → is_heading n ≡ false
wrapper_heading n h = not-true (is_heading n) (isin_yes (λ n. not (is_heading n)) n (3 ∷ 2 ∷ 1 ∷ []) (unfold is_wrapper in h) (unfold every is_heading isin in refl))

-- the break behind a wrapper
closed_after : (n : ℕ) {v x : Bytes} → is_wrapper n ≡ true → After v x → After (closed flat n v).text x
unfolding closed close_text
closed_after n {v} {x} h a = go (ends_with (ascii "\n\n") v)
  where
    go : (t : Bool) → After (cond t (keep v) (close_md flat n v)).text x
    go true = unfold keep in a
    go false =
        subst (λ (r : Bytes). After r x)
        (sym (closed_md n v (wrapper_block n h) ∙ (ap (λ (t : Bool). broken false (close_text t v)) (wrapper_heading n h) ∙ unfold close_text in refl))) (broken_after a)

-- a wrapper, from what it holds
wrapper_real : (m : ℕ) (anc : Ancestors) (name : Bytes) (kids : Forest) (t x y : Bytes) → is_wrapper (tag_of name) ≡ true → After t x
    → ((u : Bytes) → After u x → After (write_at DEFAULT_SKIP_TAGS m ([] ∷ anc) flat kids u).text y)
    → After (write_element_node (writer m) anc flat name [] kids t).text y
wrapper_real m anc name kids t x y h a f =
    let u : Bytes = broken false t in
    let o : (opened flat (tag_of name) [] kids t).text ≡ u =
    opened_block (tag_of name) [] kids t (wrapper_block (tag_of name) h) ∙ (ap (λ (r : Bytes). u ++ r) (wrapper_prefix (tag_of name) h) ∙ append-nil u) in
    subst (λ (r : Bytes). After r y)
    (sym
    (node_text m anc name [] kids t (block_known (tag_of name) (wrapper_block (tag_of name) h))
    ∙ (ap (λ (r : Bytes). (in_element (writer m) anc flat name [] kids r).text) o ∙ in_block m anc name [] kids u (wrapper_plain (tag_of name) h))))
    (closed_after (tag_of name) h (f u (broken_after a)))

-- ---- blocks, by their lines

line_filled : (ls : List Bytes) → first_is white (join (ascii "\n") ls) ≡ false → first_some ls ≡ true
unfolding join first_some first_is null
line_filled [] h = absurd (true≢false h)
line_filled ([] ∷ []) h = unfold join_rest in absurd (true≢false h)
line_filled ([] ∷ l ∷ ls) h = unfold join_rest white isin in absurd (true≢false h)
line_filled ((b ∷ l) ∷ ls) h = refl

-- a block's lines behind n empty ones
placed : {T : Bytes} (before : List Bytes) (n : ℕ) (ls : List Bytes) → first_is white (join (ascii "\n") ls) ≡ false
    → After T (gapped (lfs (suc n)) (joined before) ++ join (ascii "\n") ls) → After T (joined (before ++ (empties n ++ ls)))
placed {T} before n ls f a = subst (λ (x : Bytes). After T x) (sym (joined_gap before n ls (line_filled ls f))) a

join_one : (l : Bytes) → join (ascii "\n") (l ∷ []) ≡ l
unfolding join
join_one l = below_nil l

-- a block that is one line
placed_line : {T : Bytes} (before : List Bytes) (l : Bytes) → first_is white l ≡ false
    → After T (gapped (ascii "\n\n") (joined before) ++ l) → After T (joined (before ++ ([] ∷ l ∷ [])))
unfolding lfs empties
placed_line {T} before l f a =
    placed before 1 (l ∷ []) (rw (join_one l) f) (subst (λ (x : Bytes). After T (gapped (ascii "\n\n") (joined before) ++ x)) (sym (join_one l)) a)

module _ (m : ℕ) (anc : Ancestors) (bare : bare_all anc ≡ true) (name : Bytes) (kids : Forest) (t : Bytes) (before : List Bytes) (a : After t (joined before)) where
  -- the text behind the block, and the lines that it has if its name has that number
  abbrev Placed : ℕ → Type 0
  Placed n = After (write_element_node (writer (suc m)) anc flat name [] kids t).text (joined (before ++ block_lines n [] kids))

  paragraph_placed : tag_of name ≡ 4 → one_text plain_text kids ≡ true → Placed 4
  unfolding block_lines own_lines leaf_lines is_list_name isin is_heading_name
  paragraph_placed e h =
      placed_line before (phrase (words (first_text kids))) (text_first (first_text kids) (kids_text plain_text kids h)) (paragraph_real m anc name kids t (joined before) e h a)

  heading_placed : isin (tag_of name) (5 ∷ 6 ∷ 7 ∷ 8 ∷ 9 ∷ 10 ∷ []) ≡ true → one_text plain_text kids ≡ true → Placed (tag_of name)
  unfolding block_lines own_lines leaf_lines
  heading_placed e h =
      let n : ℕ = tag_of name in
      let H : Bytes = heading_line (suc (n - 5)) (words (first_text kids)) in
      rw (
        apart (λ n. isin n (5 ∷ 6 ∷ 7 ∷ 8 ∷ 9 ∷ 10 ∷ [])) n 14 e (unfold isin in refl),
        apart (λ n. isin n (5 ∷ 6 ∷ 7 ∷ 8 ∷ 9 ∷ 10 ∷ [])) n 15 e (unfold isin in refl),
        not-true (is_list_name n) (isin_yes (λ n. not (is_list_name n)) n (5 ∷ 6 ∷ 7 ∷ 8 ∷ 9 ∷ 10 ∷ []) e (unfold every is_list_name isin in refl)),
        isin_yes is_heading_name n (5 ∷ 6 ∷ 7 ∷ 8 ∷ 9 ∷ 10 ∷ []) e (unfold every is_heading_name in refl),
      )
      (placed_line before H (heading_first (n - 5) (words (first_text kids))) (heading_real m anc name kids t (joined before) e h a))

  rule_placed : tag_of name ≡ 15 → no_node kids ≡ true → Placed 15
  unfolding block_lines own_lines leaf_lines is_list_name isin
  rule_placed e h = placed_line before (ascii "---") (unfold first_is white isin in refl) (rule_real m anc name kids t (joined before) e h a)

  fixed_placed : tag_of name ≡ 23 → one_text fixed_text kids ≡ true → Placed 23
  unfolding block_lines own_lines leaf_lines is_list_name isin is_heading_name lfs empties
  fixed_placed e h =
      placed before 1 (fenced_lines (first_text kids)) (fence_first (first_text kids))
      (fixed_real (suc m) anc name kids t (joined before) bare e (one_text_lem fixed_text kids h) a)

  table_placed : tag_of name ≡ 14 → plain_table kids ≡ true → Placed 14
  unfolding block_lines own_lines leaf_lines is_list_name isin is_heading_name lfs empties
  table_placed e h = placed before 2 (table_lines (rows_of kids)) (table_first kids h) (table_real m anc name kids t (joined before) e h a)

  text_placed : holds_text (tag_of name) ≡ true → one_text plain_text kids ≡ true → Placed (tag_of name)
  unfolding holds_text isin
  text_placed e h =
      or_elim (eqb (tag_of name) 4) _ (λ k. subst Placed (sym (eqb-true (tag_of name) 4 k)) (paragraph_placed (eqb-true (tag_of name) 4 k) h))
      (λ k. heading_placed (unfold isin in k) h) e

  leaf_by : (p q r s : Bool) → holds_text (tag_of name) ≡ p → eqb (tag_of name) 15 ≡ q → eqb (tag_of name) 23 ≡ r → eqb (tag_of name) 14 ≡ s
      → cond p (one_text plain_text kids) (cond q (no_node kids) (cond r (one_text fixed_text kids) (cond s (plain_table kids) false))) ≡ true → Placed (tag_of name)
  leaf_by true q r s d e f g h = text_placed d h
  leaf_by false true r s d e f g h = subst Placed (sym (eqb-true (tag_of name) 15 e)) (rule_placed (eqb-true (tag_of name) 15 e) h)
  leaf_by false false true s d e f g h = subst Placed (sym (eqb-true (tag_of name) 23 f)) (fixed_placed (eqb-true (tag_of name) 23 f) h)
  leaf_by false false false true d e f g h = subst Placed (sym (eqb-true (tag_of name) 14 g)) (table_placed (eqb-true (tag_of name) 14 g) h)
  leaf_by false false false false d e f g h = absurd (false≢true h)

  leaf_placed : leaf (tag_of name) kids ≡ true → Placed (tag_of name)
  unfolding leaf
  leaf_placed h = leaf_by (holds_text (tag_of name)) (eqb (tag_of name) 15) (eqb (tag_of name) 23) (eqb (tag_of name) 14) refl refl refl refl h

list_lines : (name : ℕ) (attrs : List Attr) (kids : Forest) → is_list_name name ≡ true → block_lines name attrs kids ≡ [] ∷ items_lines kids 0 (first_due name attrs)
unfolding block_lines own_lines is_list_name isin
list_lines name attrs kids h = ⊎_elim (λ e. rw e) (λ e. rw e) (list_tag name h)

list_placed : (m : ℕ) (anc : Ancestors) (name : Bytes) (attrs : List Attr) (kids : Forest) (t : Bytes) (before : List Bytes) → After t (joined before)
    → lists (element name attrs kids nothing) ≡ true → height kids < m
    → After (write_element_node (writer m) anc flat name attrs kids t).text (joined (before ++ block_lines (tag_of name) attrs kids))
unfolding lfs empties
list_placed m anc name attrs kids t before a h low =
    let ok : ListOk name attrs kids nothing = list_ok name attrs kids nothing h in
    let due : Option ℕ = first_due (tag_of name) attrs in
    rw (list_lines (tag_of name) attrs kids ok.is_l)
    (placed before 1 (items_lines kids 0 due) (items_begin kids due ok.inner ok.some_item) (list_real m anc name attrs kids t (joined before) h low a))

block_placed : (p : Bool) (m : ℕ) (anc : Ancestors) (name : Bytes) (attrs : List Attr) (kids : Forest) (t : Bytes) (before : List Bytes) → bare_all anc ≡ true → After t (joined before)
    → cond p (lists (element name attrs kids nothing)) (null attrs && leaf (tag_of name) kids) ≡ true → height kids < suc m
    → After (write_element_node (writer (suc m)) anc flat name attrs kids t).text (joined (before ++ block_lines (tag_of name) attrs kids))
unfolding null
block_placed true m anc name attrs kids t before b a h low = list_placed (suc m) anc name attrs kids t before a h low
block_placed false m anc name [] kids t before b a h low = leaf_placed m anc b name kids t before a h
block_placed false m anc name (x ∷ attrs) kids t before b a h low = absurd (false≢true h)

-- ---- the sheet

element_real : (p : Bool) (m : ℕ) (anc : Ancestors) (name : Bytes) (attrs : List Attr) (kids : Forest) (t : Bytes) (before : List Bytes) → is_wrapper (tag_of name) ≡ p → bare_all anc ≡ true → After t (joined before)
    → cond p (null attrs && blocks kids) (block name attrs kids) ≡ true → height kids < suc m
    → (blocks kids ≡ true → bare_all ([] ∷ anc) ≡ true → (u : Bytes) → After u (joined before) → After (write_nodes (writer m) ([] ∷ anc) flat kids u).text (joined (before ++ sheet_lines kids)))
    → After (write_element_node (writer (suc m)) anc flat name attrs kids t).text (joined (before ++ cond p (sheet_lines kids) (block_lines (tag_of name) attrs kids)))
unfolding null block bare_all write_at serializer
element_real true m anc name [] kids t before e b a h low ih =
    wrapper_real (suc m) anc name kids t (joined before) (joined (before ++ sheet_lines kids)) e a (λ u k. ih h b u k)
element_real true m anc name (x ∷ attrs) kids t before e b a h low ih = absurd (false≢true h)
element_real false m anc name attrs kids t before e b a h low ih = block_placed (is_list_name (tag_of name)) m anc name attrs kids t before b a h low

blocks_real : (f : Forest) (m : ℕ) (anc : Ancestors) (t : Bytes) (before : List Bytes) → height f ≤ m → blocks f ≡ true → bare_all anc ≡ true → After t (joined before)
    → After (write_nodes (writer m) anc flat f t).text (joined (before ++ sheet_lines f))
unfolding blocks sheet_lines write_nodes and_then keep height
blocks_real nothing m anc t before low h b a = rw (append-nil before) a
blocks_real (text s rest) m anc t before low h b a = absurd (false≢true h)
blocks_real (comment s rest) m anc t before low h b a = absurd (false≢true h)
blocks_real (element name attrs kids rest) zero anc t before low h b a = absurd (omega arith)
blocks_real (element name attrs kids rest) (suc m) anc t before low h b a =
    let w : Bool = is_wrapper (tag_of name) in
    let c : Bool = cond w (null attrs && blocks kids) (block name attrs kids) in
    let ls : List Bytes = cond w (sheet_lines kids) (block_lines (tag_of name) attrs kids) in
    rw (← append_assoc before ls (sheet_lines rest))
    (blocks_real rest (suc m) anc (write_element_node (writer (suc m)) anc flat name attrs kids t).text (before ++ ls) (omega arith) (and_r c _ h) b
    (element_real w m anc name attrs kids t before refl b a (and_l c _ h) (omega arith)
    (λ k d u z. blocks_real kids m ([] ∷ anc) u before (omega arith) k d z)))

pub trim_after : {t x : Bytes} → After t x → trimmed t ≡ x
trim_after {t} {x} (begun k e n) = ap trimmed e ∙ (trim_lfs k ∙ sym n)
trim_after {t} {x} (behind k g e f l) = ap trimmed e ∙ trim_core k x (sep g) f l (go g)
  where
    go : (g : Bool) → every white (sep g) ≡ true
    go true = unfold sep every white isin in refl
    go false = unfold sep every white isin in refl

-- as many levels as the tree has are enough
pub closed_written : (tree : Forest) (m : ℕ) → blocks tree ≡ true → height tree ≤ m
    → (serialize (serializer DEFAULT_SKIP_TAGS (suc m)) tree 0 false).text ≡ closed_form tree
unfolding serialize serializer write_fragment and_then closed_form write_at bare_all trimmed joined from_first join lfs
closed_written tree m h low = trim_after (blocks_real tree m [] [] [] low h refl (begun 0 refl refl))
