-- The text of each step by which the writer writes a list of a plain sheet.
use Rattle.std.specs.Prelude.{ℕ, suc, ◌+◌, min, ◌≡◌, Bool, cond, ◌&&◌, ◌||◌, List, [], ◌∷◌, ◌++◌, eqb, replicate}
use Rattle.std.proofs.Common.{arith, sym, ap, ◌∙◌, append-nil, append_assoc, ⊎_elim, leb-true}
use Rattle.std.proofs.Math.Path.{refl}
use Rattle.std.proofs.Math.Bool.{true, false}
use Rattle.std.proofs.lemmas.Bool.{false≢true}
use Rattle.std.proofs.Math.Option.{Option, none, some}
use Rattle.spec.specs.Bytes.{Bytes, ascii, null, isin, same, among, ends_with, digit, words, decimal}
use Rattle.spec.specs.Names as tag
use Rattle.spec.specs.Names.{tag_of}
use Rattle.spec.specs.Tree.{Attr, Forest, nothing, text, comment, element, attrs_of, kids_of, attr}
use Rattle.spec.specs.ListNumber.{largest_number, as_number, or_else, first_due, item_number, next_due}
use Rattle.spec.specs.Plain.{plain_text, is_list_name, item_content, lists}
use Rattle.spec.specs.Out.{cut, keep, push, and_then}
use Rattle.spec.specs.Md.TextUtils.{trim_blanks, normalized, push_normalized_text, ends_with_white}
use Rattle.spec.specs.Md.Heading.{md_prefix}
use Rattle.spec.specs.Md.Ctx.{offset_of, list_context, prefix, break_of, advance_ol_number}
use Rattle.spec.specs.Md.MDSerializer.{Ancestors, MDSerializer, write_kids}
use Rattle.spec.specs.Md.Elements.Blocks.{is_md_block, is_list}
use Rattle.spec.specs.Md.Elements.List.{kind_of, node_is_list_item_block, has_blocks, can_interrupt_paragraph, begin_item, write_list_item, list_item_text, list_children, write_list}
use Rattle.spec.specs.Md.Serializer.{is_tight, open_break, opened, has_writer, write_element, in_element, write_element_node, write_nodes, write_at, serializer}
use Rattle.spec.specs.declared.ctx.FormatOpts.{FormatOpts}
use Rattle.spec.specs.declared.ctx.ListContext.{ListContext}
use Rattle.spec.proofs.Tests.{and_r}
use Rattle.recovery.proofs.Lists.{ItemOk, ListOk, list_ok, list_tag, as_small}
use Rattle.recovery.proofs.Markers.{small_number}
use Rattle.recovery.specs.Closed.{phrase, marker, deeper}
use Rattle.recovery.proofs.Written.Ends.{ends_by}
use Rattle.recovery.proofs.Written.Breaks.{sep, broken, trimmed}
use Rattle.recovery.proofs.Written.Normalized.{normalized_phrase, no_marker_digits}
use Rattle.recovery.proofs.Written.Contexts.{opts_at, context_at, capped, begun_context, renumbered_context, advanced_context, item_opts, item_prefix}

-- ---- items

kids_text : (self : MDSerializer) (anc : Ancestors) (opts : FormatOpts) (name : Bytes) (attrs : List Attr) (kids : Forest) (t : Bytes)
    → (write_kids self anc opts (element name attrs kids nothing) t).text ≡ trimmed (self.below (attrs ∷ anc) opts kids t).text
unfolding write_kids attrs_of kids_of and_then trimmed
kids_text self anc opts name attrs kids t = refl

begin_text : (ctx : ListContext) (t : Bytes) → (begin_item false ctx t).text ≡ trim_blanks t ++ (replicate ctx.list_indent 32 ++ prefix ctx)
unfolding begin_item and_then cut push
begin_text ctx t = refl

item_break : (b : Bool) (o i : ℕ) (number : Option ℕ) → break_of (advance_ol_number (context_at b o i number)) ≡ ascii "\n"
unfolding context_at
item_break b o i number = ap break_of (advanced_context b o i number)

pub item_text : (self : MDSerializer) (anc : Ancestors) (name : Bytes) (attrs : List Attr) (kids : Forest) (b : Bool) (o i : ℕ) (number : Option ℕ) (t : Bytes)
    → (write_list_item self anc (element name attrs kids nothing) (context_at b o i number) t).text
    ≡ trimmed (self.below (attrs ∷ anc) (opts_at true (i + deeper number)) kids (trim_blanks t ++ (replicate i 32 ++ marker number))).text ++ ascii "\n"
unfolding write_list_item and_then push context_at
item_text self anc name attrs kids b o i number t =
    rw (item_break b o i number, item_opts b o i number, kids_text self anc (opts_at true (i + deeper number)) name attrs kids _, begin_text (context_at b o i number) t, item_prefix b o i number)

-- ---- the words of an item

unfoldable pub stem : Option ℕ → Bytes
stem none = ascii "-"
stem (some n) = decimal n ++ ascii "."

pub marker_stem : (number : Option ℕ) → marker number ≡ stem number ++ ascii " "
unfolding marker stem
marker_stem none = refl
marker_stem (some n) = sym (append_assoc (decimal n) (ascii ".") (ascii " "))

-- behind a blank, in an item: the phrase, and a blank for white bytes at the text's end
words_behind : (j : ℕ) (y s : Bytes) → plain_text s ≡ true
    → normalized (opts_at true j) (y ++ ascii " ") s ≡ phrase (words s) ++ cond (ends_with_white s) (ascii " ") []
words_behind j y s h =
    let blank : ends_with (ascii " ") (y ++ ascii " ") ≡ true = ends_by (ascii " ") y (ascii " ") refl ∙ unfold same in refl in
    let line : ends_with (ascii "\n") (y ++ ascii " ") ≡ false = ends_by (ascii "\n") y (ascii " ") refl ∙ unfold same in refl in
    normalized_phrase (opts_at true j) (y ++ ascii " ") s refl refl (rw (blank, line)) (rw line (go (null (y ++ ascii " "))))
    (no_marker_digits y 32 (unfold digit in refl)) h
  where
    go : (t : Bool) → ((t || false) || true) ≡ true
    go true = refl
    go false = refl

-- the words of an item behind its marker, and then what follows them
pub content_text : (skips : List Bytes) (m : ℕ) (anc : Ancestors) (j i : ℕ) (number : Option ℕ) (y s : Bytes) (rest : Forest) → plain_text s ≡ true
    → (write_at skips (suc m) anc (opts_at true j) (text s rest) (y ++ (replicate i 32 ++ marker number))).text
    ≡ (write_nodes (serializer skips m) anc (opts_at true j) rest
    (y ++ ((replicate i 32 ++ (marker number ++ phrase (words s))) ++ cond (ends_with_white s) (ascii " ") []))).text
unfolding write_at serializer write_nodes push_normalized_text and_then push
content_text skips m anc j i number y s rest h =
    let e : y ++ (replicate i 32 ++ marker number) ≡ (y ++ (replicate i 32 ++ stem number)) ++ ascii " " =
    rw (marker_stem number) (simp append_assoc) in
    let g : (y ++ (replicate i 32 ++ marker number)) ++ normalized (opts_at true j) (y ++ (replicate i 32 ++ marker number)) s
    ≡ y ++ ((replicate i 32 ++ (marker number ++ phrase (words s))) ++ cond (ends_with_white s) (ascii " ") []) =
    ap (λ (u : Bytes). (y ++ (replicate i 32 ++ marker number)) ++ normalized (opts_at true j) u s) e
    ∙ (ap (λ (u : Bytes). (y ++ (replicate i 32 ++ marker number)) ++ u) (words_behind j (y ++ (replicate i 32 ++ stem number)) s h)
    ∙ simp append_assoc) in
    ap (λ (u : Bytes). (write_nodes (serializer skips m) anc (opts_at true j) rest u).text) g

-- ---- the items of a list

lists_blocks : (f : Forest) → lists f ≡ true → has_blocks f ≡ false
unfolding lists has_blocks node_is_list_item_block
lists_blocks nothing h = refl
lists_blocks (text s rest) h = absurd (false≢true h)
lists_blocks (comment s rest) h = absurd (false≢true h)
lists_blocks (element name attrs kids rest) h =
    let ok : ListOk name attrs kids rest = list_ok name attrs kids rest h in
    let l : is_list (tag_of name) ≡ true = unfold is_list_name is_list in ok.is_l in
    rw (l, lists_blocks rest ok.others)

content_blocks : (kids : Forest) → item_content kids ≡ true → has_blocks kids ≡ false
unfolding item_content has_blocks
content_blocks nothing h = absurd (false≢true h)
content_blocks (text s rest) h = lists_blocks rest (and_r (plain_text s) _ h)
content_blocks (comment s rest) h = absurd (false≢true h)
content_blocks (element name attrs kids rest) h = absurd (false≢true h)

-- one item, and then the others
pub items_text : (self : MDSerializer) (anc : Ancestors) (name : Bytes) (attrs : List Attr) (kids rest : Forest) (b : Bool) (o i : ℕ) (due : Option ℕ) (t : Bytes)
    → ItemOk due name attrs kids rest
    → (list_children self anc (element name attrs kids rest) (context_at b o i (capped due)) t).text
    ≡ (list_children self anc rest (context_at b (i + deeper (item_number due attrs)) i (capped (next_due (item_number due attrs))))
    (trimmed
    (self.below (attrs ∷ anc) (opts_at true (i + deeper (item_number due attrs))) kids
    (trim_blanks t ++ (replicate i 32 ++ marker (item_number due attrs)))).text ++ ascii "\n")).text
unfolding list_children list_item_text and_then context_at
items_text self anc name attrs kids rest b o i due t ok =
    rw (ok.is_li, renumbered_context b o i due attrs ok.counts, content_blocks kids ok.inner, advanced_context b o i (item_number due attrs), item_text self anc name attrs kids b o i (item_number due attrs) t)

-- ---- a list

small_capped : (m : ℕ) → small_number (some m) ≡ true → min m largest_number ≡ m
unfolding small_number largest_number
small_capped m h = omega (arith, leb-true m 999999999 h)

-- a list's first number is never above the largest
capped_first : (name : ℕ) (attrs : List Attr) → capped (first_due name attrs) ≡ first_due name attrs
unfolding first_due capped or_else largest_number
capped_first name attrs = go (eqb name tag.ol) (as_number (attr (ascii "start") attrs)) (as_small (attr (ascii "start") attrs))
  where
    go : (t : Bool) (v : Option ℕ) → small_number v ≡ true → capped (cond t (some (or_else v 1)) none) ≡ cond t (some (or_else v 1)) none
    go true none h = refl
    go true (some m) h = ap some (small_capped m h)
    go false v h = refl

list_opened : (b : Bool) (j n : ℕ) (attrs : List Attr) (kids : Forest) (t : Bytes) → is_list_name n ≡ true
    → (opened (opts_at b j) n attrs kids t).text ≡ broken (b && can_interrupt_paragraph n attrs kids) t
unfolding opened open_break is_tight and_then push keep broken sep is_md_block is_list md_prefix isin
list_opened b j n attrs kids t h =
    ⊎_elim (λ e. rw e (append-nil (broken (b && can_interrupt_paragraph 11 attrs kids) t)))
    (λ e. rw e (append-nil (broken (b && can_interrupt_paragraph 12 attrs kids) t))) (list_tag n h)

list_written : (self : MDSerializer) (anc : Ancestors) (b : Bool) (j : ℕ) (name : Bytes) (attrs : List Attr) (kids : Forest) (t : Bytes) → is_list_name (tag_of name) ≡ true
    → (in_element self anc (opts_at b j) name attrs kids t).text
    ≡ broken false (list_children self (attrs ∷ anc) kids (list_context (opts_at b j) (kind_of (tag_of name) attrs)) t).text
unfolding in_element has_writer write_element write_list and_then broken sep is_list isin
list_written self anc b j name attrs kids t h = ⊎_elim (λ e. rw e) (λ e. rw e) (list_tag (tag_of name) h)

-- a list: the break before it, its items, and the break behind it
pub list_text : (skips : List Bytes) (m : ℕ) (anc : Ancestors) (b : Bool) (j : ℕ) (name : Bytes) (attrs : List Attr) (kids : Forest) (t : Bytes)
    → is_list_name (tag_of name) ≡ true → among name skips ≡ false
    → (write_element_node (serializer skips m) anc (opts_at b j) name attrs kids t).text
    ≡ broken false
    (list_children (serializer skips m) (attrs ∷ anc) kids
    (context_at b (j + offset_of (kind_of (tag_of name) attrs)) j (capped (first_due (tag_of name) attrs)))
    (broken (b && can_interrupt_paragraph (tag_of name) attrs kids) t)).text
unfolding write_element_node serializer and_then
list_text skips m anc b j name attrs kids t l n =
    rw (n, list_opened b j (tag_of name) attrs kids t l, capped_first (tag_of name) attrs, ← begun_context b j (tag_of name) attrs)
    (list_written (serializer skips m) anc b j name attrs kids (broken (b && can_interrupt_paragraph (tag_of name) attrs kids) t) l)
