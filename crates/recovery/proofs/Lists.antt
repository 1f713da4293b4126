-- Lists: the lines of nested lists read as their items, each with its depth, its number and its words.
use Rattle.std.specs.Prelude.{ℕ, suc, ◌+◌, ◌≤◌, ◌<◌, min, ◌≡◌, Bool, true, false, cond, not, ◌&&◌, ◌||◌, ◌⊎◌, eqb, length}
use Rattle.std.proofs.Common.{arith, sym, ◌∙◌, subst₂, true≢false, inl, inr, ⊎_elim, length-append, eqb-true, le-leb}
use Rattle.std.proofs.Math.Path.{refl, ap}
use Rattle.std.proofs.Math.Bool.{and-false}
use Rattle.std.proofs.lemmas.Bool.{false≢true, not-true}
use mathlib.Core.List.{List, [], ◌∷◌, ◌++◌, append-nil, append_assoc, map}
use Rattle.std.proofs.Math.Option.{Option, none, some}
use Rattle.spec.specs.Bytes.{Bytes, ascii, null, isin, every, words, trim_ascii_start}
use Rattle.spec.specs.Names as tag
use Rattle.spec.specs.Names.{tag_of}
use Rattle.spec.specs.Tree.{Attr, attr, Forest, nothing, text, comment, element}
use Rattle.spec.specs.Entries.{word, Entry, item}
use Rattle.spec.specs.ListNumber.{largest_number, digits_value, positive, negative, signed_value, list_number, as_number, or_else, first_due, item_value, item_number, next_due}
use Rattle.spec.specs.Plain.{plain_text, no_node, only, is_list_name, list_attrs, counts_on, items, item_content, lists}
use Rattle.spec.specs.SheetList.{first_text, words_of, is_heading_name, own, depth_inside, due_behind, entries}
use Rattle.spec.specs.Reading.Lines.{blank_line}
use Rattle.spec.specs.Reading.Held.{State, state, Leaf, no_leaf, text_leaf, item_role, closed, is_raw, is_fresh, is_paragraph}
use Rattle.spec.specs.Reading.Step.{kept, all_kept, base, blank_step, leaf_step, step_by, step}
use Rattle.spec.specs.Reading.{read_lines, finish}
use Rattle.spec.proofs.Tests.{and_l, and_r, or_elim}
use Rattle.recovery.proofs.Words.{plain_words, text_words, text_some}
use Rattle.recovery.proofs.Markers.{opens_phrase, opens_solid, solid_null, small_number}
use Rattle.recovery.proofs.Steps.{Reached}
use Rattle.recovery.proofs.Items.{content, base_last, step_item, deeper_near, content_beyond, all_kept_lem, kept_before, not_all_kept, all_kept_more, item_closed}
use Rattle.recovery.specs.Closed.{phrase, deeper, item_line, interrupts, list_interrupts, spaced, items_lines, content_lines, lists_lines}

-- ---- numbers

positive_small : (n : Option ℕ) → small_number (positive n) ≡ true
unfolding positive small_number largest_number
positive_small none = refl
positive_small (some n) = le-leb (min n 999999999) 999999999 (omega arith)

negative_small : (n : Option ℕ) → small_number (negative n) ≡ true
unfolding negative small_number largest_number
negative_small none = refl
negative_small (some n) = refl

signed_small : (s : Bytes) → small_number (signed_value s) ≡ true
unfolding signed_value
signed_small [] = unfold small_number in refl
signed_small (b ∷ s) = go (eqb b 45) (eqb b 43)
  where
    go : (t u : Bool)
        → small_number (cond t (negative (digits_value s)) (cond u (positive (digits_value s)) (positive (digits_value (b ∷ s))))) ≡ true
    go true u = negative_small (digits_value s)
    go false true = positive_small (digits_value s)
    go false false = positive_small (digits_value (b ∷ s))

pub as_small : (value : Option Bytes) → small_number (as_number value) ≡ true
unfolding as_number list_number
as_small none = unfold small_number in refl
as_small (some s) = signed_small (trim_ascii_start s)

-- an item's number is at most the largest
number_small : (due value : Option ℕ) → counts_on due value ≡ true → small_number value ≡ true
    → (attrs : List Attr) → item_value attrs ≡ value → small_number (item_number due attrs) ≡ true
unfolding counts_on small_number item_number or_else
number_small none value h k attrs e = refl
number_small (some n) none h k attrs e = rw e h
number_small (some n) (some m) h k attrs e = rw e k

pub item_small : (due : Option ℕ) (attrs : List Attr) → counts_on due (item_value attrs) ≡ true → small_number (item_number due attrs) ≡ true
item_small due attrs h = number_small due (item_value attrs) h (unfold item_value in as_small (attr (ascii "value") attrs)) attrs refl

-- ---- the sheet's list, at items and at lists

entries_item : (d : ℕ) (due : Option ℕ) (name : Bytes) (attrs : List Attr) (kids rest : Forest) → eqb (tag_of name) tag.li ≡ true
    → entries d due (element name attrs kids rest)
    ≡ item d (item_number due attrs) (words_of kids) ∷ (entries d none kids ++ entries d (next_due (item_number due attrs)) rest)
unfolding entries own depth_inside due_behind first_due is_list_name isin
entries_item d due name attrs kids rest e = rw (eqb-true (tag_of name) 16 e)

pub list_tag : (n : ℕ) → is_list_name n ≡ true → (n ≡ 11) ⊎ (n ≡ 12)
unfolding is_list_name isin
list_tag n h = or_elim (eqb n 11) (eqb n 12 || false) (λ e. inl (eqb-true n 11 e)) (or_elim (eqb n 12) false (λ e. inr (eqb-true n 12 e)) (λ e. absurd (false≢true e))) h

pub entries_list : (d : ℕ) (due : Option ℕ) (name : Bytes) (attrs : List Attr) (kids rest : Forest) → is_list_name (tag_of name) ≡ true
    → entries d due (element name attrs kids rest) ≡ entries (suc d) (first_due (tag_of name) attrs) kids ++ entries d due rest
unfolding entries own depth_inside due_behind is_list_name isin is_heading_name
entries_list d due name attrs kids rest h = ⊎_elim (λ e. rw e) (λ e. rw e) (list_tag (tag_of name) h)

-- ---- where the reading stands

and_l_false : (a b : Bool) → a ≡ false → (a && b) ≡ false
and_l_false true b h = absurd (true≢false h)
and_l_false false b h = refl

no_leaf_closes : (o : List Entry) → o ++ closed no_leaf ≡ o
unfolding closed
no_leaf_closes o = append-nil o

no_leaf_raw : is_raw no_leaf ≡ false
unfolding is_raw
no_leaf_raw = refl

no_leaf_fresh : is_fresh no_leaf ≡ false
unfolding is_fresh
no_leaf_fresh = refl

-- A line at column i would go on with the items whose content columns are ks; o is read once what is open is closed
pub record Inside (i : ℕ) (ks : List ℕ) (o : List Entry) (s : State) : Type 0 where
  pub before : List Entry
  pub columns : List ℕ
  pub rest : List ℕ
  pub leaf : Leaf
  pub is : s ≡ state before columns leaf
  pub whole : columns ≡ ks ++ rest
  pub goes : kept i columns ≡ ks
  pub closes : before ++ closed leaf ≡ o
  pub raw : is_raw leaf ≡ false
  pub fresh : is_fresh leaf ≡ false

-- likewise, behind an item of a list at column i
pub record After (i : ℕ) (ks : List ℕ) (o : List Entry) (s : State) : Type 0 where
  pub before : List Entry
  pub columns : List ℕ
  pub own : ℕ
  pub rest : List ℕ
  pub leaf : Leaf
  pub is : s ≡ state before columns leaf
  pub whole : columns ≡ ks ++ (own ∷ rest)
  pub beyond : i < own
  pub closes : before ++ closed leaf ≡ o
  pub raw : is_raw leaf ≡ false
  pub fresh : is_fresh leaf ≡ false

-- if a paragraph is open with which a line at column i goes on, q holds
abbrev pub Ready : {i : ℕ} {ks : List ℕ} {o : List Entry} {s : State} → Inside i ks o s → Bool → Type 0
Ready {i} h q = (all_kept i h.columns && is_paragraph h.leaf) ≡ true → q ≡ true

after_as : {i : ℕ} {ks : List ℕ} {o p : List Entry} {s t : State} → o ≡ p → s ≡ t → After i ks o s → After i ks p t
after_as {i} {ks} e f h = subst₂ (After i ks) e f h

inside_as : {i : ℕ} {ks : List ℕ} {o p : List Entry} {s t : State} → o ≡ p → s ≡ t → Inside i ks o s → Inside i ks p t
inside_as {i} {ks} e f h = subst₂ (Inside i ks) e f h

abbrev after_inside : {i : ℕ} {ks : List ℕ} {o : List Entry} {s : State} → all_kept i ks ≡ true → After i ks o s → Inside i ks o s
after_inside {i} {ks} fits h =
    record {
      before = h.before;
      columns = h.columns;
      rest = h.own ∷ h.rest;
      leaf = h.leaf;
      is = h.is;
      whole = h.whole;
      goes = ap (kept i) h.whole ∙ kept_before i h.own ks h.rest fits h.beyond;
      closes = h.closes;
      raw = h.raw;
      fresh = h.fresh;
    }

-- behind an item no paragraph goes on at the column of its list
after_ready : {i : ℕ} {ks : List ℕ} {o : List Entry} {s : State} (fits : all_kept i ks ≡ true) (h : After i ks o s) (q : Bool)
    → Ready (after_inside fits h) q
after_ready {i} {ks} fits h q e =
    let shut : all_kept i h.columns ≡ false = ap (all_kept i) h.whole ∙ not_all_kept i h.own ks h.rest h.beyond in
    absurd (false≢true (sym (and_l_false (all_kept i h.columns) _ shut) ∙ e))

-- out of an item
inside_after : {i j c : ℕ} {ks : List ℕ} {o : List Entry} {s : State} → i < c → Inside j (ks ++ (c ∷ [])) o s → After i ks o s
inside_after {i} {j} {c} {ks} l h =
    record {
      before = h.before;
      columns = h.columns;
      own = c;
      rest = h.rest;
      leaf = h.leaf;
      is = h.is;
      whole = h.whole ∙ append_assoc ks (c ∷ []) h.rest;
      beyond = l;
      closes = h.closes;
      raw = h.raw;
      fresh = h.fresh;
    }

-- ---- an empty line

blank_state : (o : List Entry) (op : List ℕ) (lf : Leaf) → is_raw lf ≡ false → is_fresh lf ≡ false
    → step (state o op lf) [] ≡ state (o ++ closed lf) op no_leaf
unfolding step step_by leaf_step blank_step blank_line every
blank_state o op lf r f = rw (r, f)

abbrev inside_blank : {i : ℕ} {ks : List ℕ} {o : List Entry} {s : State} → Inside i ks o s → Inside i ks o (step s [])
inside_blank {o = o} {s} h =
    record {
      before = o;
      columns = h.columns;
      rest = h.rest;
      leaf = no_leaf;
      is = ap (λ (s : State). step s []) h.is ∙ (blank_state h.before h.columns h.leaf h.raw h.fresh ∙ ap (λ (p : List Entry). state p h.columns no_leaf) h.closes);
      whole = h.whole;
      goes = h.goes;
      closes = no_leaf_closes o;
      raw = no_leaf_raw;
      fresh = no_leaf_fresh;
    }

-- ---- the line of an item

item_state : (i : ℕ) (ks : List ℕ) (o : List Entry) (s : State) (number : Option ℕ) (w : Bytes) (ws : List Bytes) → small_number number ≡ true
    → plain_words (w ∷ ws) ≡ true → i < base 0 ks + 4 → (h : Inside i ks o s) → Ready h (interrupts number)
    → step s (item_line i number (w ∷ ws))
    ≡ state o (ks ++ (content i number ∷ [])) (text_leaf (item_role (suc (length ks)) number) (phrase (w ∷ ws)))
item_state i ks o s number w ws small plain near h ready =
    let l : i < base 0 (kept i h.columns) + 4 = rw h.goes near in
    ap (λ (s : State). step s (item_line i number (w ∷ ws))) h.is
    ∙ (step_item h.before h.columns h.leaf i number w ws h.raw l small plain ready
    ∙ rw (h.closes, h.goes))

text_raw : (d : ℕ) (number : Option ℕ) (t : Bytes) → is_raw (text_leaf (item_role d number) t) ≡ false
unfolding is_raw
text_raw d number t = refl

text_fresh : (d : ℕ) (number : Option ℕ) (t : Bytes) → null t ≡ false → is_fresh (text_leaf (item_role d number) t) ≡ false
unfolding is_fresh
text_fresh d number t h = h

-- into an item: its lists stand at a column where it goes on
item_inside : (i : ℕ) (ks : List ℕ) (o : List Entry) (s : State) (number : Option ℕ) (ws : List Bytes) → small_number number ≡ true
    → plain_words ws ≡ true → null ws ≡ false → all_kept i ks ≡ true → i < base 0 ks + 4 → (h : Inside i ks o s)
    → Ready h (interrupts number)
    → Inside (i + deeper number) (ks ++ (content i number ∷ [])) (o ++ (item (suc (length ks)) number (map word ws) ∷ []))
    (step s (item_line i number ws))
unfolding null
item_inside i ks o s number [] small plain ne fits near h ready = absurd (true≢false ne)
item_inside i ks o s number (w ∷ ws) small plain ne fits near h ready =
    let c : ℕ = content i number in
    let d : (c ≤ i + deeper number) × (i + deeper number < c + 4) = deeper_near i number small in
    let more : all_kept (i + deeper number) (ks ++ (c ∷ [])) ≡ true = all_kept_more i (i + deeper number) c ks fits (omega arith) d.0 in
    record {
      before = o;
      columns = ks ++ (c ∷ []);
      rest = [];
      leaf = text_leaf (item_role (suc (length ks)) number) (phrase (w ∷ ws));
      is = item_state i ks o s number w ws small plain near h ready;
      whole = sym (append-nil (ks ++ (c ∷ [])));
      goes = all_kept_lem (i + deeper number) (ks ++ (c ∷ [])) more;
      closes = ap (λ (e : List Entry). o ++ e) (item_closed (suc (length ks)) number w ws plain);
      raw = text_raw (suc (length ks)) number (phrase (w ∷ ws));
      fresh = text_fresh (suc (length ks)) number (phrase (w ∷ ws)) (solid_null (phrase (w ∷ ws)) (opens_solid (phrase (w ∷ ws)) (opens_phrase w ws plain)));
    }

-- ---- joining

pub read_app : (s : State) (a b : List Bytes) → read_lines s (a ++ b) ≡ read_lines (read_lines s a) b
unfolding read_lines
read_app s [] b = refl
read_app s (l ∷ a) b = read_app (step s l) a b

-- a list behind an empty line, or close behind words that it can interrupt
list_spaced : {i : ℕ} {ks : List ℕ} {o e : List Entry} {s : State} (t q : Bool) (ls : List Bytes) → (t ≡ true → q ≡ true)
    → ((s : State) (h : Inside i ks o s) → Ready h q → After i ks e (read_lines s ls))
    → Inside i ks o s → After i ks e (read_lines s (spaced t ls))
unfolding spaced read_lines is_paragraph
list_spaced {s = s} true q ls k f h = f s h (λ z. k refl)
list_spaced {i} {s = s} false q ls k f h =
    f (step s []) (inside_blank h) (λ z. absurd (false≢true (sym (and-false (all_kept i h.columns)) ∙ z)))

spaced_read : (s : State) (t : Bool) (a b : List Bytes) → read_lines s (spaced t (a ++ b)) ≡ read_lines (read_lines s (spaced t a)) b
unfolding spaced read_lines
spaced_read s true a b = read_app s a b
spaced_read s false a b = read_app (step s []) a b

item_entries : (o : List Entry) (d : ℕ) (due : Option ℕ) (name : Bytes) (attrs : List Attr) (kids rest : Forest) → eqb (tag_of name) tag.li ≡ true
    → (o ++ (item d (item_number due attrs) (words_of kids) ∷ entries d none kids)) ++ entries d (next_due (item_number due attrs)) rest
    ≡ o ++ entries d due (element name attrs kids rest)
item_entries o d due name attrs kids rest e =
    append_assoc o (item d (item_number due attrs) (words_of kids) ∷ entries d none kids) (entries d (next_due (item_number due attrs)) rest)
    ∙ ap (λ (l : List Entry). o ++ l) (sym (entries_item d due name attrs kids rest e))

list_entries : (o : List Entry) (d : ℕ) (due : Option ℕ) (name : Bytes) (attrs : List Attr) (kids rest : Forest) → is_list_name (tag_of name) ≡ true
    → (o ++ entries (suc d) (first_due (tag_of name) attrs) kids) ++ entries d due rest ≡ o ++ entries d due (element name attrs kids rest)
list_entries o d due name attrs kids rest e =
    append_assoc o (entries (suc d) (first_due (tag_of name) attrs) kids) (entries d due rest)
    ∙ ap (λ (l : List Entry). o ++ l) (sym (entries_list d due name attrs kids rest e))

no_entries : (o : List Entry) (d : ℕ) (due : Option ℕ) → o ≡ o ++ entries d due nothing
unfolding entries
no_entries o d due = sym (append-nil o)

text_entries_lem : (o : List Entry) (ks : List ℕ) (c : ℕ) (number : Option ℕ) (t : Bytes) (rest : Forest)
    → (o ++ (item (suc (length ks)) number (map word (words t)) ∷ [])) ++ entries (length (ks ++ (c ∷ []))) none rest
    ≡ o ++ (item (suc (length ks)) number (words_of (text t rest)) ∷ entries (suc (length ks)) none (text t rest))
unfolding entries words_of first_text
text_entries_lem o ks c number t rest =
    let n : length (ks ++ (c ∷ [])) ≡ suc (length ks) = length-append ks (c ∷ []) ∙ omega arith in
    rw n (append_assoc o (item (suc (length ks)) number (map word (words t)) ∷ []) (entries (suc (length ks)) none rest))

-- what the tests of plain sheets say of an item and of a list
pub record ItemOk (due : Option ℕ) (name : Bytes) (attrs : List Attr) (kids rest : Forest) : Type 0 where
  pub is_li : eqb (tag_of name) tag.li ≡ true
  pub counts : counts_on due (item_value attrs) ≡ true
  pub inner : item_content kids ≡ true
  pub others : items rest (next_due (item_number due attrs)) ≡ true

pub item_ok : (due : Option ℕ) (name : Bytes) (attrs : List Attr) (kids rest : Forest) → items (element name attrs kids rest) due ≡ true
    → ItemOk due name attrs kids rest
unfolding items
item_ok due name attrs kids rest h =
    let x : ((eqb (tag_of name) tag.li && only (ascii "value") attrs) && (counts_on due (item_value attrs) && item_content kids)) ≡ true =
    and_l ((eqb (tag_of name) tag.li && only (ascii "value") attrs) && (counts_on due (item_value attrs) && item_content kids)) _ h in
    let y : (eqb (tag_of name) tag.li && only (ascii "value") attrs) ≡ true = and_l (eqb (tag_of name) tag.li && only (ascii "value") attrs) _ x in
    let z : (counts_on due (item_value attrs) && item_content kids) ≡ true = and_r (eqb (tag_of name) tag.li && only (ascii "value") attrs) _ x in
    record {
      is_li = and_l (eqb (tag_of name) tag.li) _ y;
      counts = and_l (counts_on due (item_value attrs)) _ z;
      inner = and_r (counts_on due (item_value attrs)) _ z;
      others = and_r ((eqb (tag_of name) tag.li && only (ascii "value") attrs) && (counts_on due (item_value attrs) && item_content kids)) _ h;
    }

pub record ListOk (name : Bytes) (attrs : List Attr) (kids rest : Forest) : Type 0 where
  pub is_l : is_list_name (tag_of name) ≡ true
  pub some_item : no_node kids ≡ false
  pub inner : items kids (first_due (tag_of name) attrs) ≡ true
  pub others : lists rest ≡ true

pub list_ok : (name : Bytes) (attrs : List Attr) (kids rest : Forest) → lists (element name attrs kids rest) ≡ true → ListOk name attrs kids rest
unfolding lists
list_ok name attrs kids rest h =
    let a : Bool = is_list_name (tag_of name) && list_attrs (tag_of name) attrs in
    let b : Bool = not (no_node kids) && items kids (first_due (tag_of name) attrs) in
    let x : (a && b) ≡ true = and_l (a && b) _ h in
    let y : b ≡ true = and_r a _ x in
    record {
      is_l = and_l (is_list_name (tag_of name)) _ (and_l a _ x);
      some_item = not-true (no_node kids) (and_l (not (no_node kids)) _ y);
      inner = and_r (not (no_node kids)) _ y;
      others = and_r (a && b) _ h;
    }

-- ---- the induction

mutual
  unfolding items item_content lists no_node items_lines content_lines lists_lines list_interrupts read_lines

  -- the items of a list, the first behind what is open
  items_first : (f : Forest) (i : ℕ) (ks : List ℕ) (due : Option ℕ) (o : List Entry) (s : State) → items f due ≡ true → no_node f ≡ false
      → all_kept i ks ≡ true → i < base 0 ks + 4 → (h : Inside i ks o s) → Ready h (list_interrupts due f)
      → After i ks (o ++ entries (suc (length ks)) due f) (read_lines s (items_lines f i due))
  items_first nothing i ks due o s ok ne fits near h ready = absurd (true≢false ne)
  items_first (text t rest) i ks due o s ok ne fits near h ready = absurd (false≢true ok)
  items_first (comment t rest) i ks due o s ok ne fits near h ready = absurd (false≢true ok)
  items_first (element name attrs kids rest) i ks due o s ok ne fits near h ready =
      let k : ItemOk due name attrs kids rest = item_ok due name attrs kids rest ok in
      let n : Option ℕ = item_number due attrs in
      let d : ℕ = suc (length ks) in
      let one : After i ks (o ++ (item d n (words_of kids) ∷ entries d none kids)) (read_lines s (content_lines kids i n)) =
      content_read kids i ks n o s k.inner (item_small due attrs k.counts) fits near h ready in
      after_as (item_entries o d due name attrs kids rest k.is_li) (sym (read_app s (content_lines kids i n) (items_lines rest i (next_due n))))
      (items_more rest i ks (next_due n) (o ++ (item d n (words_of kids) ∷ entries d none kids)) (read_lines s (content_lines kids i n)) k.others fits near one)

  -- the items behind one
  items_more : (f : Forest) (i : ℕ) (ks : List ℕ) (due : Option ℕ) (o : List Entry) (s : State) → items f due ≡ true → all_kept i ks ≡ true
      → i < base 0 ks + 4 → After i ks o s → After i ks (o ++ entries (suc (length ks)) due f) (read_lines s (items_lines f i due))
  items_more nothing i ks due o s ok fits near h = after_as (no_entries o (suc (length ks)) due) refl h
  items_more (text t rest) i ks due o s ok fits near h = absurd (false≢true ok)
  items_more (comment t rest) i ks due o s ok fits near h = absurd (false≢true ok)
  items_more (element name attrs kids rest) i ks due o s ok fits near h =
      let k : ItemOk due name attrs kids rest = item_ok due name attrs kids rest ok in
      let n : Option ℕ = item_number due attrs in
      let d : ℕ = suc (length ks) in
      let one : After i ks (o ++ (item d n (words_of kids) ∷ entries d none kids)) (read_lines s (content_lines kids i n)) =
      content_read kids i ks n o s k.inner (item_small due attrs k.counts) fits near (after_inside fits h) (after_ready fits h (interrupts n)) in
      after_as (item_entries o d due name attrs kids rest k.is_li) (sym (read_app s (content_lines kids i n) (items_lines rest i (next_due n))))
      (items_more rest i ks (next_due n) (o ++ (item d n (words_of kids) ∷ entries d none kids)) (read_lines s (content_lines kids i n)) k.others fits near one)

  content_read : (f : Forest) (i : ℕ) (ks : List ℕ) (number : Option ℕ) (o : List Entry) (s : State) → item_content f ≡ true → small_number number ≡ true
      → all_kept i ks ≡ true → i < base 0 ks + 4 → (h : Inside i ks o s) → Ready h (interrupts number)
      → After i ks (o ++ (item (suc (length ks)) number (words_of f) ∷ entries (suc (length ks)) none f)) (read_lines s (content_lines f i number))
  content_read nothing i ks number o s ok small fits near h ready = absurd (false≢true ok)
  content_read (text t rest) i ks number o s ok small fits near h ready =
      let p : plain_text t ≡ true = and_l (plain_text t) _ ok in
      let c : ℕ = content i number in
      let m : (c ≤ i + deeper number) × (i + deeper number < c + 4) = deeper_near i number small in
      let e : base 0 (ks ++ (c ∷ [])) ≡ c = base_last 0 c ks in
      let one : Inside (i + deeper number) (ks ++ (c ∷ [])) (o ++ (item (suc (length ks)) number (map word (words t)) ∷ [])) (step s (item_line i number (words t))) =
      item_inside i ks o s number (words t) small (text_words t p) (text_some t p) fits near h ready in
      after_as (text_entries_lem o ks c number t rest) refl
      (inside_after (content_beyond i number)
      (lists_read rest (i + deeper number) (ks ++ (c ∷ [])) none (o ++ (item (suc (length ks)) number (map word (words t)) ∷ [])) (step s (item_line i number (words t))) true
      (and_r (plain_text t) _ ok) (all_kept_more i (i + deeper number) c ks fits (omega arith) m.0) (rw e m.1) one))
  content_read (comment t rest) i ks number o s ok small fits near h ready = absurd (false≢true ok)
  content_read (element name attrs kids rest) i ks number o s ok small fits near h ready = absurd (false≢true ok)

  lists_read : (f : Forest) (i : ℕ) (ks : List ℕ) (due : Option ℕ) (o : List Entry) (s : State) (first : Bool) → lists f ≡ true
      → all_kept i ks ≡ true → i < base 0 ks + 4 → Inside i ks o s
      → Inside i ks (o ++ entries (length ks) due f) (read_lines s (lists_lines f i first))
  lists_read nothing i ks due o s first ok fits near h = inside_as (no_entries o (length ks) due) refl h
  lists_read (text t rest) i ks due o s first ok fits near h = absurd (false≢true ok)
  lists_read (comment t rest) i ks due o s first ok fits near h = absurd (false≢true ok)
  lists_read (element name attrs kids rest) i ks due o s first ok fits near h =
      let k : ListOk name attrs kids rest = list_ok name attrs kids rest ok in
      let n : Option ℕ = first_due (tag_of name) attrs in
      let e : List Entry = o ++ entries (suc (length ks)) n kids in
      let t : Bool = first && list_interrupts n kids in
      let one : After i ks e (read_lines s (spaced t (items_lines kids i n))) =
      list_spaced t (list_interrupts n kids) (items_lines kids i n) (λ z. and_r first (list_interrupts n kids) z)
      (λ s h r. items_first kids i ks n o s k.inner k.some_item fits near h r) h in
      inside_as (list_entries o (length ks) due name attrs kids rest k.is_l) (sym (spaced_read s t (items_lines kids i n) (lists_lines rest i false)))
      (lists_read rest i ks due e (read_lines s (spaced t (items_lines kids i n))) false k.others fits near (after_inside fits one))

-- ---- a list that is a block

flat_inside : (o : List Entry) (op : List ℕ) → kept 0 op ≡ [] → Inside 0 [] o (state o op no_leaf)
flat_inside o op k =
    record {
      before = o;
      columns = op;
      rest = op;
      leaf = no_leaf;
      is = refl;
      whole = refl;
      goes = k;
      closes = no_leaf_closes o;
      raw = no_leaf_raw;
      fresh = no_leaf_fresh;
    }

flat_ready : (o : List Entry) (op : List ℕ) (k : kept 0 op ≡ []) (q : Bool) → Ready (flat_inside o op k) q
unfolding flat_inside is_paragraph
flat_ready o op k q e = absurd (false≢true (sym (and-false (all_kept 0 op)) ∙ e))

after_reached : {o : List Entry} {s : State} → After 0 [] o s → Reached o s
unfolding finish
after_reached {o} {s} h =
    record {
      columns = h.columns;
      left = ap (kept 0) h.whole ∙ kept_before 0 h.own [] h.rest (unfold all_kept in refl) h.beyond;
      behind = ap (λ (s : State). step s []) h.is ∙ (blank_state h.before h.columns h.leaf h.raw h.fresh ∙ ap (λ (p : List Entry). state p h.columns no_leaf) h.closes);
      ended = ap finish h.is ∙ h.closes;
    }

pub read_list : (o : List Entry) (op : List ℕ) (f : Forest) (due : Option ℕ) → kept 0 op ≡ [] → items f due ≡ true → no_node f ≡ false
    → Reached (o ++ entries 1 due f) (read_lines (state o op no_leaf) (items_lines f 0 due))
unfolding all_kept base
read_list o op f due k ok ne =
    after_reached
    (items_first f 0 [] due o (state o op no_leaf) ok ne refl (omega arith) (flat_inside o op k) (flat_ready o op k (list_interrupts due f)))
