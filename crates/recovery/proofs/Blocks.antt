-- The reading of a plain sheet's lines, block by block.
use Rattle.std.specs.Prelude.{ℕ, suc, ◌<◌, ◌≡◌, Bool, cond, ◌&&◌, List, [], ◌∷◌, ◌++◌, map, eqb}
use Rattle.std.proofs.Common.{arith, sym, ap, ◌∙◌, subst₂, true≢false, append-nil, append_assoc, eqb-true}
use Rattle.std.proofs.Math.Path.{refl, subst}
use Rattle.std.proofs.Math.Bool.{true, false}
use Rattle.std.proofs.lemmas.Bool.{false≢true}
use Rattle.std.proofs.Math.Option.{Option, none}
use Rattle.spec.specs.Bytes.{Bytes, null, isin, words}
use Rattle.spec.specs.Names as tag
use Rattle.spec.specs.Names.{tag_of}
use Rattle.spec.specs.Tree.{Attr, Forest, nothing, text, comment, element}
use Rattle.spec.specs.Entries.{word, Entry, paragraph}
use Rattle.spec.specs.ListNumber.{first_due}
use Rattle.spec.specs.Plain.{plain_text, fixed_text, no_node, one_text, is_list_name, is_wrapper, holds_text, leaf, plain_table, block, blocks, lists}
use Rattle.spec.specs.SheetList.{first_text, words_of, is_heading_name, own, entries}
use Rattle.spec.specs.Reading.Held.{State, state, no_leaf}
use Rattle.spec.specs.Reading.Step.{kept, step}
use Rattle.spec.specs.Reading.{read_lines}
use Rattle.spec.proofs.Tests.{and_l, and_r, or_elim}
use Rattle.recovery.proofs.Words.{plain_words, text_words, text_some}
use Rattle.recovery.proofs.Steps.{Reached, step_empty, read_rule, read_heading, read_paragraph}
use Rattle.recovery.proofs.Fences.{read_fixed}
use Rattle.recovery.proofs.Lists.{read_app, read_list, entries_list, ListOk, list_ok}
use Rattle.recovery.proofs.Silent.{leaf_silent, entries_leaf, entries_wrapper}
use Rattle.recovery.proofs.TableBlocks.{kids_text, read_table_block}
use Rattle.recovery.specs.Closed.{phrase, heading_line, leaf_lines, own_lines, block_lines, sheet_lines, items_lines}

-- ---- leaves, by their names

read_words : (o : List Entry) (op : List ℕ) (ws : List Bytes) → kept 0 op ≡ [] → plain_words ws ≡ true → null ws ≡ false
    → Reached (o ++ (paragraph (map word ws) ∷ [])) (step (state o op no_leaf) (phrase ws))
unfolding null
read_words o op [] k h n = absurd (true≢false n)
read_words o op (w ∷ ws) k h n = read_paragraph o op w ws k h

module _ (o : List Entry) (op : List ℕ) (k : kept 0 op ≡ []) (due : Option ℕ) (attrs : List Attr) (kids : Forest) where
  abbrev Read : ℕ → Type 0
  Read n = Reached (o ++ own n 0 due attrs kids) (read_lines (state o op no_leaf) (leaf_lines n kids))

  leaf_paragraph : one_text plain_text kids ≡ true → Read 4
  unfolding own leaf_lines is_heading_name words_of read_lines
  leaf_paragraph h =
      let p : plain_text (first_text kids) ≡ true = kids_text plain_text kids h in
      read_words o op (words (first_text kids)) k (text_words (first_text kids) p) (text_some (first_text kids) p)

  leaf_heading : (l : ℕ) → l < 6 → one_text plain_text kids ≡ true
      → Reached (o ++ (Rattle.spec.specs.Entries.heading (suc l) (words_of kids) ∷ [])) (read_lines (state o op no_leaf) (heading_line (suc l) (words (first_text kids)) ∷ []))
  unfolding words_of read_lines
  leaf_heading l b h =
      read_heading o op l (words (first_text kids)) k b (text_words (first_text kids) (kids_text plain_text kids h))

  leaf_rule : Read 15
  unfolding own leaf_lines read_lines
  leaf_rule = read_rule o op k

  leaf_fixed : Read 23
  unfolding own leaf_lines is_heading_name
  leaf_fixed = read_fixed o op (first_text kids) k

  leaf_table : plain_table kids ≡ true → Read 14
  unfolding own leaf_lines is_heading_name
  leaf_table h = read_table_block o op kids k h

  leaf_text : (n : ℕ) → holds_text n ≡ true → one_text plain_text kids ≡ true → Read n
  unfolding holds_text isin own leaf_lines is_heading_name
  leaf_text n t h =
      or_elim (eqb n 4) _ (λ e. subst Read (sym (eqb-true n 4 e)) (leaf_paragraph h))
      (or_elim (eqb n 5) _ (λ e. subst Read (sym (eqb-true n 5 e)) (leaf_heading 0 (omega arith) h))
      (or_elim (eqb n 6) _ (λ e. subst Read (sym (eqb-true n 6 e)) (leaf_heading 1 (omega arith) h))
      (or_elim (eqb n 7) _ (λ e. subst Read (sym (eqb-true n 7 e)) (leaf_heading 2 (omega arith) h))
      (or_elim (eqb n 8) _ (λ e. subst Read (sym (eqb-true n 8 e)) (leaf_heading 3 (omega arith) h))
      (or_elim (eqb n 9) _ (λ e. subst Read (sym (eqb-true n 9 e)) (leaf_heading 4 (omega arith) h))
      (or_elim (eqb n 10) false (λ e. subst Read (sym (eqb-true n 10 e)) (leaf_heading 5 (omega arith) h)) (λ e. absurd (false≢true e)))))))) t

  leaf_by : (t u v w : Bool) (n : ℕ) → holds_text n ≡ t → eqb n 15 ≡ u → eqb n 23 ≡ v → eqb n 14 ≡ w
      → cond t (one_text plain_text kids) (cond u (no_node kids) (cond v (one_text fixed_text kids) (cond w (plain_table kids) false))) ≡ true → Read n
  leaf_by true u v w n e f g i h = leaf_text n e h
  leaf_by false true v w n e f g i h = subst Read (sym (eqb-true n 15 f)) leaf_rule
  leaf_by false false true w n e f g i h = subst Read (sym (eqb-true n 23 g)) leaf_fixed
  leaf_by false false false true n e f g i h = subst Read (sym (eqb-true n 14 i)) (leaf_table h)
  leaf_by false false false false n e f g i h = absurd (false≢true h)

  pub read_leaf : (n : ℕ) → leaf n kids ≡ true → Read n
  unfolding leaf
  read_leaf n h = leaf_by (holds_text n) (eqb n 15) (eqb n 23) (eqb n 14) n refl refl refl refl h

-- ---- blocks

reached_as : {o p : List Entry} {s t : State} → o ≡ p → s ≡ t → Reached o s → Reached p t
reached_as e f h = subst₂ Reached e f h

-- what an element that is no wrapper gives
unfoldable gives : Bytes → List Attr → Forest → List Entry
gives name attrs kids =
    cond (is_list_name (tag_of name)) (entries 1 (first_due (tag_of name) attrs) kids) (own (tag_of name) 0 none attrs kids)

own_read : (o : List Entry) (op : List ℕ) (name : Bytes) (attrs : List Attr) (kids : Forest) → kept 0 op ≡ [] → block name attrs kids ≡ true
    → Reached (o ++ gives name attrs kids) (read_lines (state o op no_leaf) (own_lines (tag_of name) attrs kids))
unfolding block gives own_lines
own_read o op name attrs kids k h = go (is_list_name (tag_of name)) h
  where
    go : (t : Bool) → cond t (lists (element name attrs kids nothing)) (null attrs && leaf (tag_of name) kids) ≡ true
        → Reached (o ++ cond t (entries 1 (first_due (tag_of name) attrs) kids) (own (tag_of name) 0 none attrs kids))
        (read_lines (state o op no_leaf) (cond t (items_lines kids 0 (first_due (tag_of name) attrs)) (leaf_lines (tag_of name) kids)))
    go true h =
        let l : ListOk name attrs kids nothing = list_ok name attrs kids nothing h in
        read_list o op kids (first_due (tag_of name) attrs) k l.inner l.some_item
    go false h = read_leaf o op k none attrs kids (tag_of name) (and_r (null attrs) _ h)

block_entries : (name : Bytes) (attrs : List Attr) (kids rest : Forest) → block name attrs kids ≡ true
    → entries 0 none (element name attrs kids rest) ≡ gives name attrs kids ++ entries 0 none rest
unfolding block gives
block_entries name attrs kids rest h = go (is_list_name (tag_of name)) refl h
  where
    go : (t : Bool) → is_list_name (tag_of name) ≡ t → cond t (lists (element name attrs kids nothing)) (null attrs && leaf (tag_of name) kids) ≡ true
        → entries 0 none (element name attrs kids rest)
        ≡ cond t (entries 1 (first_due (tag_of name) attrs) kids) (own (tag_of name) 0 none attrs kids) ++ entries 0 none rest
    go true e h = entries_list 0 none name attrs kids rest e
    go false e h = entries_leaf name attrs kids rest (leaf_silent (tag_of name) kids (and_r (null attrs) _ h))

-- empty lines before a block
spaced_read : (t : Bool) (o : List Entry) (s : State) (ls : List Bytes) (r : Reached o s)
    → read_lines s ([] ∷ cond t ([] ∷ ls) ls) ≡ read_lines (state o r.columns no_leaf) ls
unfolding read_lines
spaced_read true o s ls r =
    ap (λ (s : State). read_lines (step s []) ls) r.behind ∙ ap (λ (s : State). read_lines s ls) (step_empty o r.columns)
spaced_read false o s ls r = ap (λ (s : State). read_lines s ls) r.behind

block_read : (o : List Entry) (s : State) (name : Bytes) (attrs : List Attr) (kids : Forest) → block name attrs kids ≡ true → Reached o s
    → Reached (o ++ gives name attrs kids) (read_lines s (block_lines (tag_of name) attrs kids))
unfolding block_lines
block_read o s name attrs kids h r =
    reached_as refl (sym (spaced_read (eqb (tag_of name) tag.table) o s (own_lines (tag_of name) attrs kids) r))
    (own_read o r.columns name attrs kids r.left h)

-- ---- the sheet

element_read : (t : Bool) (o : List Entry) (s : State) (name : Bytes) (attrs : List Attr) (kids rest : Forest) → is_wrapper (tag_of name) ≡ t
    → cond t (null attrs && blocks kids) (block name attrs kids) ≡ true
    → (blocks kids ≡ true → Reached (o ++ entries 0 none kids) (read_lines s (sheet_lines kids)))
    → ((o : List Entry) (s : State) → Reached o s → Reached (o ++ entries 0 none rest) (read_lines s (sheet_lines rest)))
    → Reached o s
    → Reached (o ++ entries 0 none (element name attrs kids rest))
    (read_lines s (cond t (sheet_lines kids) (block_lines (tag_of name) attrs kids) ++ sheet_lines rest))
element_read true o s name attrs kids rest e h within behind r =
    reached_as
    (append_assoc o (entries 0 none kids) (entries 0 none rest) ∙ ap (λ (l : List Entry). o ++ l) (sym (entries_wrapper name attrs kids rest e)))
    (sym (read_app s (sheet_lines kids) (sheet_lines rest)))
    (behind (o ++ entries 0 none kids) (read_lines s (sheet_lines kids)) (within (and_r (null attrs) _ h)))
element_read false o s name attrs kids rest e h within behind r =
    reached_as
    (append_assoc o (gives name attrs kids) (entries 0 none rest) ∙ ap (λ (l : List Entry). o ++ l) (sym (block_entries name attrs kids rest h)))
    (sym (read_app s (block_lines (tag_of name) attrs kids) (sheet_lines rest)))
    (behind (o ++ gives name attrs kids) (read_lines s (block_lines (tag_of name) attrs kids)) (block_read o s name attrs kids h r))

-- every kind of block, nesting and number in one induction over the whole sheet
pub read_sheet : (f : Forest) (o : List Entry) (s : State) → blocks f ≡ true → Reached o s
    → Reached (o ++ entries 0 none f) (read_lines s (sheet_lines f))
unfolding blocks sheet_lines entries read_lines
read_sheet nothing o s h r = reached_as (sym (append-nil o)) refl r
read_sheet (text t rest) o s h r = absurd (false≢true h)
read_sheet (comment t rest) o s h r = absurd (false≢true h)
read_sheet (element name attrs kids rest) o s h r =
    let c : Bool = cond (is_wrapper (tag_of name)) (null attrs && blocks kids) (block name attrs kids) in
    element_read (is_wrapper (tag_of name)) o s name attrs kids rest refl (and_l c _ h) (λ k. read_sheet kids o s k r)
    (λ o s r. read_sheet rest o s (and_r c _ h) r) r
