-- The text of each kind of block of a plain sheet, behind what is written so far.
use Rattle.std.specs.Prelude.{ℕ, suc, ◌-◌, ◌<◌, ◌≡◌, Bool, cond, ◌||◌, replicate}
use Rattle.std.proofs.Math.Path.{refl, sym, ap, subst}
use Rattle.std.proofs.Common.{◌∙◌}
use Rattle.std.proofs.Math.Bool.{true, false, not}
use Rattle.std.proofs.lemmas.Bool.{false≢true, not-true}
use mathlib.Core.List.{List, [], ◌∷◌, ◌++◌, append-nil, append_assoc}
use Rattle.std.proofs.Math.Option.{Option}
use Rattle.std.proofs.Math.Dec.{eqb}
use Rattle.spec.specs.Bytes.{Bytes, ascii, null, same, every, white, isin, blank, digit, ends_with, words, join}
use Rattle.spec.specs.Names.{tag_of}
use Rattle.spec.specs.Tree.{Attr, Forest, nothing, text, comment, element, height}
use Rattle.spec.specs.ListNumber.{first_due}
use Rattle.spec.specs.Plain.{plain_text, no_node, one_text, rows_of, plain_table, lists}
use Rattle.spec.specs.SheetList.{first_text}
use Rattle.spec.specs.Out.{keep, push, and_then}
use Rattle.spec.specs.Md.Constants.{DEFAULT_SKIP_TAGS}
use Rattle.spec.specs.Md.TextUtils.{normalized, more_words, push_normalized_text, ends_with_white, add_linebreaks}
use Rattle.spec.specs.Md.Heading.{is_heading, md_prefix, escape_closing_hashes}
use Rattle.spec.specs.Md.MDSerializer.{Ancestors, MDSerializer}
use Rattle.spec.specs.Md.Elements.Blocks.{is_md_block, is_list}
use Rattle.spec.specs.Md.Elements.Code.{write_pre}
use Rattle.spec.specs.Md.Elements.Table.{write_table}
use Rattle.spec.specs.Md.Serializer.{is_tight, open_break, opened, close_block, close_md, closed, has_writer, write_element, in_element, write_element_node, write_nodes, write_at, serializer}
use Rattle.spec.specs.declared.ctx.FormatOpts.{FormatOpts}
use Rattle.spec.proofs.Tests.{isin_yes, apart, same_eq}
use Rattle.recovery.proofs.TableBlocks.{kids_text, one_text_lem}
use Rattle.recovery.proofs.Fences.{ended}
use Rattle.recovery.proofs.Lists.{ListOk, list_ok}
use Rattle.recovery.specs.Closed.{phrase, heading_line, fenced_lines, table_lines, items_lines}
use Rattle.recovery.proofs.Written.Ends.{last_is, first_is, last_keep, last_replicate, ends_by, last_not}
use Rattle.recovery.proofs.Written.Breaks.{lfs, sep, end_blank, broken, broken_line, last_lf}
use Rattle.recovery.proofs.Written.Lines.{ended_join, tidy, tidy_join}
use Rattle.recovery.proofs.Written.Normalized.{normalized_phrase, no_marker_digits}
use Rattle.recovery.proofs.Written.Phrases.{more_last, text_first, text_last, items_some, items_begin, items_tidy}
use Rattle.recovery.proofs.Words.{text_words}
use Rattle.recovery.proofs.Written.Fences.{bare_all, pre_text, fence_first, fence_last}
use Rattle.recovery.proofs.Written.Headings.{headed, heading_grown, heading_text, heading_first, heading_last}
use Rattle.recovery.proofs.Written.Tables.{table_text, table_first, table_last}
use Rattle.recovery.proofs.Written.Contexts.{opts_at}
use Rattle.recovery.proofs.Written.Known.{known}
use Rattle.recovery.proofs.Written.Lists.{items_real, list_step}
use Rattle.recovery.proofs.Written.Blocks.{After, behind, LineEnd, line_end, Opens, gapped, block_opens, table_opens, fence_break, fence_opens, words_after, lines_after}

-- the options and the writer at the sheet's blocks
abbrev pub flat : FormatOpts
flat = opts_at false 0

abbrev pub writer : ℕ → MDSerializer
writer m = serializer DEFAULT_SKIP_TAGS m

-- ---- open and close

pub node_text : (m : ℕ) (anc : Ancestors) (name : Bytes) (attrs : List Attr) (kids : Forest) (t : Bytes) → eqb (tag_of name) 0 ≡ false
    → (write_element_node (writer m) anc flat name attrs kids t).text ≡ (in_element (writer m) anc flat name attrs kids (opened flat (tag_of name) attrs kids t).text).text
unfolding write_element_node serializer and_then
node_text m anc name attrs kids t h = rw (known name h)

pub block_known : (n : ℕ) → is_md_block n ≡ true → eqb n 0 ≡ false
unfolding is_md_block isin
block_known n h = apart is_md_block n 0 h refl

pub opened_block : (n : ℕ) (attrs : List Attr) (kids : Forest) (t : Bytes) → is_md_block n ≡ true
    → (opened flat n attrs kids t).text ≡ broken false t ++ md_prefix n
unfolding opened open_break is_tight and_then push broken sep
opened_block n attrs kids t h = rw h

pub in_block : (m : ℕ) (anc : Ancestors) (name : Bytes) (attrs : List Attr) (kids : Forest) (t : Bytes) → has_writer flat (tag_of name) ≡ false
    → (in_element (writer m) anc flat name attrs kids t).text ≡ (closed flat (tag_of name) (write_at DEFAULT_SKIP_TAGS m (attrs ∷ anc) flat kids t).text).text
unfolding in_element serializer and_then
in_block m anc name attrs kids t h = rw h

-- closing hashes of a heading are escaped
unfoldable pub close_text : Bool → Bytes → Bytes
close_text true v = (escape_closing_hashes v).text
close_text false v = v

pub closed_md : (n : ℕ) (v : Bytes) → is_md_block n ≡ true → (close_md flat n v).text ≡ broken false (close_text (is_heading n) v)
unfolding close_md close_block and_then broken sep
closed_md n v h = rw h (go (is_heading n))
  where
    go : (t : Bool) → (add_linebreaks (ascii "\n") (ascii "\n\n") (cond t (escape_closing_hashes v) (keep v)).text).text
        ≡ (add_linebreaks (ascii "\n") (ascii "\n\n") (close_text t v)).text
    go true = unfold close_text in refl
    go false = unfold close_text keep in refl

-- behind a line that is not ended
pub closed_line : (n : ℕ) (v : Bytes) → is_md_block n ≡ true → last_is (λ b. eqb b 10) v ≡ false
    → (closed flat n v).text ≡ broken false (close_text (is_heading n) v)
unfolding closed
closed_line n v h l = rw (last_not (10 ∷ []) 10 v l) (closed_md n v h)

-- a block that is one line: its text c, as it stands when its close has escaped it, and blanks behind it
pub leaf_real : (m : ℕ) (anc : Ancestors) (name : Bytes) (kids : Forest) (t x v c z : Bytes) → is_md_block (tag_of name) ≡ true → has_writer flat (tag_of name) ≡ false
    → (write_at DEFAULT_SKIP_TAGS m ([] ∷ anc) flat kids (broken false t ++ md_prefix (tag_of name))).text ≡ v
    → last_is (λ b. eqb b 10) v ≡ false
    → close_text (is_heading (tag_of name)) v ≡ broken false t ++ (c ++ z)
    → first_is white c ≡ false → last_is white c ≡ false → every blank z ≡ true → After t x
    → After (write_element_node (writer m) anc flat name [] kids t).text (gapped (ascii "\n\n") x ++ c)
leaf_real m anc name kids t x v c z b n w l e f g k a =
    subst (λ (r : Bytes). After r (gapped (ascii "\n\n") x ++ c))
    (sym
    (node_text m anc name [] kids t (block_known (tag_of name) b)
    ∙ (ap (λ (r : Bytes). (in_element (writer m) anc flat name [] kids r).text) (opened_block (tag_of name) [] kids t b)
    ∙ (in_block m anc name [] kids _ n
    ∙ (ap (λ (r : Bytes). (closed flat (tag_of name) r).text) w
    ∙ (closed_line (tag_of name) v b l ∙ ap (broken false) e))))))
    (words_after c z f g k (block_opens a))

-- ---- paragraphs

-- what an element with one text gives between its open and its close
pub text_below : (m : ℕ) (anc : Ancestors) (kids : Forest) (u : Bytes) → kids ≡ text (first_text kids) nothing
    → (write_at DEFAULT_SKIP_TAGS (suc m) anc flat kids u).text ≡ u ++ normalized flat u (first_text kids)
text_below m anc kids u e =
    ap (λ (f : Forest). (write_at DEFAULT_SKIP_TAGS (suc m) anc flat f u).text) e ∙ go (first_text kids)
  where
    go : (s : Bytes) → (write_at DEFAULT_SKIP_TAGS (suc m) anc flat (text s nothing) u).text ≡ u ++ normalized flat u s
    go s = unfold write_at write_nodes push_normalized_text and_then push keep in refl

-- at the beginning of a line
words_behind : (y s : Bytes) → plain_text s ≡ true → normalized flat (y ++ ascii "\n") s ≡ phrase (words s) ++ cond (ends_with_white s) (ascii " ") []
words_behind y s h =
    let line : ends_with (ascii "\n") (y ++ ascii "\n") ≡ true = ends_by (ascii "\n") y (ascii "\n") refl ∙ unfold same in refl in
    normalized_phrase flat (y ++ ascii "\n") s refl refl (rw line) (rw line (go (null (y ++ ascii "\n")))) (no_marker_digits y 10 (unfold digit in refl)) h
  where
    go : (t : Bool) → ((t || true) || false) ≡ true
    go true = refl
    go false = refl

-- blanks behind a word are no line end
open_line : (t : Bool) (x : Bytes) → last_is white x ≡ false → last_is (λ b. eqb b 10) (x ++ cond t (ascii " ") []) ≡ false
open_line true x h = last_keep (λ b. eqb b 10) x (ascii " ") (unfold last_is null in refl)
open_line false x h = rw (append-nil x) (last_lf x h)

pub paragraph_real : (m : ℕ) (anc : Ancestors) (name : Bytes) (kids : Forest) (t x : Bytes) → tag_of name ≡ 4 → one_text plain_text kids ≡ true → After t x
    → After (write_element_node (writer (suc m)) anc flat name [] kids t).text (gapped (ascii "\n\n") x ++ phrase (words (first_text kids)))
paragraph_real m anc name kids t x e h a =
    let s : Bytes = first_text kids in
    let p : plain_text s ≡ true = kids_text plain_text kids h in
    let z : Bytes = cond (ends_with_white s) (ascii " ") [] in
    let c : Bytes = phrase (words s) in
    let u : Bytes = broken false t in
    let l : LineEnd u = line_end a in
    let n : u ++ normalized flat u s ≡ u ++ (c ++ z) =
    ap (λ (v : Bytes). u ++ v) (ap (λ (v : Bytes). normalized flat v s) l.is ∙ words_behind l.front s p) in
    let o : u ++ md_prefix (tag_of name) ≡ u = rw e (unfold md_prefix in append-nil u) in
    leaf_real (suc m) anc name kids t x (u ++ (c ++ z)) c z (rw e (unfold is_md_block isin in refl)) (rw e (unfold has_writer isin in refl))
    (ap (λ (v : Bytes). (write_at DEFAULT_SKIP_TAGS (suc m) ([] ∷ anc) flat kids v).text) o ∙ (text_below m ([] ∷ anc) kids u (one_text_lem plain_text kids h) ∙ n))
    (last_keep (λ b. eqb b 10) u (c ++ z) (open_line (ends_with_white s) c (text_last s p)))
    (rw e (unfold close_text is_heading isin in refl)) (text_first s p) (text_last s p) (end_blank (ends_with_white s)) a

-- ---- headings

-- the hashes of a heading
hashes : (n : ℕ) → isin n (5 ∷ 6 ∷ 7 ∷ 8 ∷ 9 ∷ 10 ∷ []) ≡ true → md_prefix n ≡ replicate (suc (n - 5)) 35 ++ ascii " "
hashes n h =
    same_eq (md_prefix n) (replicate (suc (n - 5)) 35 ++ ascii " ")
    (isin_yes (λ n. same (md_prefix n) (replicate (suc (n - 5)) 35 ++ ascii " ")) n (5 ∷ 6 ∷ 7 ∷ 8 ∷ 9 ∷ 10 ∷ []) h (unfold every md_prefix same in refl))

-- the last byte before a heading's close
heading_open : (y s : Bytes) (l : ℕ) → plain_text s ≡ true → last_is (λ b. eqb b 10) (headed y l ++ normalized flat (headed y l) s) ≡ false
heading_open y s l h =
    let p : Bytes = (y ++ ascii "\n") ++ replicate (suc l) 35 in
    let r : last_is white p ≡ false = last_keep white (y ++ ascii "\n") (replicate (suc l) 35) (last_replicate white l 35 (unfold white isin in refl)) in
    rw (heading_grown flat y s l refl refl refl h, ← append_assoc p (more_words true (words s)) (cond (ends_with_white s) (ascii " ") []))
    (open_line (ends_with_white s) (p ++ more_words true (words s)) (more_last p (words s) (text_words s h) r))

pub heading_real : (m : ℕ) (anc : Ancestors) (name : Bytes) (kids : Forest) (t x : Bytes) → isin (tag_of name) (5 ∷ 6 ∷ 7 ∷ 8 ∷ 9 ∷ 10 ∷ []) ≡ true
    → one_text plain_text kids ≡ true → After t x
    → After (write_element_node (writer (suc m)) anc flat name [] kids t).text (gapped (ascii "\n\n") x ++ heading_line (suc (tag_of name - 5)) (words (first_text kids)))
unfolding close_text
heading_real m anc name kids t x e h a =
    let s : Bytes = first_text kids in
    let d : ℕ = tag_of name - 5 in
    let p : plain_text s ≡ true = kids_text plain_text kids h in
    let z : Bytes = cond (ends_with_white s) (ascii " ") [] in
    let c : Bytes = heading_line (suc d) (words s) in
    let l : LineEnd (broken false t) = line_end a in
    let b : Bytes = headed l.front d in
    let o : broken false t ++ md_prefix (tag_of name) ≡ b =
    ap (λ (v : Bytes). broken false t ++ v) (hashes (tag_of name) e) ∙ ap (λ (v : Bytes). v ++ (replicate (suc d) 35 ++ ascii " ")) l.is in
    leaf_real (suc m) anc name kids t x (b ++ normalized flat b s) c z
    (isin_yes is_md_block (tag_of name) _ e (unfold every is_md_block isin in refl))
    (not-true (has_writer flat (tag_of name)) (isin_yes (λ n. not (has_writer flat n)) (tag_of name) _ e (unfold every has_writer isin in refl)))
    (ap (λ (v : Bytes). (write_at DEFAULT_SKIP_TAGS (suc m) ([] ∷ anc) flat kids v).text) o ∙ text_below m ([] ∷ anc) kids b (one_text_lem plain_text kids h))
    (heading_open l.front s d p)
    (ap (λ (q : Bool). close_text q (b ++ normalized flat b s)) (isin_yes is_heading (tag_of name) _ e (unfold every is_heading isin in refl))
    ∙ (heading_text flat l.front s d refl refl refl p ∙ (append_assoc (l.front ++ ascii "\n") c z ∙ ap (λ (v : Bytes). v ++ (c ++ z)) (sym l.is))))
    (heading_first d (words s)) (heading_last s d p) (end_blank (ends_with_white s)) a

-- ---- rules

no_nodes : (kids : Forest) → no_node kids ≡ true → kids ≡ nothing
unfolding no_node
no_nodes nothing h = refl
no_nodes (text s f) h = absurd (false≢true h)
no_nodes (comment s f) h = absurd (false≢true h)
no_nodes (element name attrs f g) h = absurd (false≢true h)

pub rule_real : (m : ℕ) (anc : Ancestors) (name : Bytes) (kids : Forest) (t x : Bytes) → tag_of name ≡ 15 → no_node kids ≡ true → After t x
    → After (write_element_node (writer (suc m)) anc flat name [] kids t).text (gapped (ascii "\n\n") x ++ ascii "---")
rule_real m anc name kids t x e h a =
    let u : Bytes = broken false t in
    leaf_real (suc m) anc name kids t x (u ++ ascii "---") (ascii "---") [] (rw e (unfold is_md_block isin in refl)) (rw e (unfold has_writer isin in refl))
    (rw (e, no_nodes kids h) (unfold md_prefix write_at write_nodes keep in refl))
    (last_keep (λ b. eqb b 10) u (ascii "---") (unfold last_is null in refl))
    (rw e (unfold close_text is_heading isin in refl)) (unfold first_is white isin in refl) (unfold last_is null white isin in refl) (unfold every in refl) a

-- ---- fixed texts

pub fixed_real : (m : ℕ) (anc : Ancestors) (name : Bytes) (kids : Forest) (t x : Bytes) → bare_all anc ≡ true → tag_of name ≡ 23 → kids ≡ text (first_text kids) nothing → After t x
    → After (write_element_node (writer m) anc flat name [] kids t).text (gapped (ascii "\n\n") x ++ join (ascii "\n") (fenced_lines (first_text kids)))
fixed_real m anc name kids t x b e h a =
    let s : Bytes = first_text kids in
    let F : Bytes = join (ascii "\n") (fenced_lines s) in
    let o : (opened flat (tag_of name) [] kids t).text ≡ t = rw e (unfold opened open_break and_then push keep is_md_block md_prefix isin in append-nil t) in
    let w : (in_element (writer m) anc flat name [] kids t).text ≡ (write_pre anc flat [] kids t).text =
    unfold in_element has_writer write_element isin is_list in rw e in
    let p : (write_pre anc flat [] kids t).text ≡ (t ++ fence_break t) ++ (F ++ ascii "\n") =
    ap (λ (f : Forest). (write_pre anc flat [] f t).text) h ∙ (pre_text anc flat s t b refl ∙ (unfold fence_break in sym (append_assoc t (fence_break t) (F ++ ascii "\n")))) in
    subst (λ (r : Bytes). After r (gapped (ascii "\n\n") x ++ F))
    (sym (node_text m anc name [] kids t (rw e) ∙ (ap (λ (r : Bytes). (in_element (writer m) anc flat name [] kids r).text) o ∙ (w ∙ p))))
    (unfold sep in lines_after F true (fence_first s) (fence_last s) (fence_opens a))

-- ---- tables

pub table_real : (m : ℕ) (anc : Ancestors) (name : Bytes) (kids : Forest) (t x : Bytes) → tag_of name ≡ 14 → plain_table kids ≡ true → After t x
    → After (write_element_node (writer (suc m)) anc flat name [] kids t).text (gapped (ascii "\n\n\n") x ++ join (ascii "\n") (table_lines (rows_of kids)))
unfolding sep
table_real m anc name kids t x e h a =
    let u : Bytes = broken false t in
    let T : Bytes = join (ascii "\n") (table_lines (rows_of kids)) in
    let o : (opened flat (tag_of name) [] kids t).text ≡ u =
    rw e (opened_block 14 [] kids t (unfold is_md_block isin in refl) ∙ (unfold md_prefix in append-nil u)) in
    let w : (in_element (writer (suc m)) anc flat name [] kids u).text ≡ (write_table (writer (suc m)) anc flat name [] kids u).text =
    unfold in_element has_writer write_element isin is_list in rw e in
    subst (λ (r : Bytes). After r (gapped (ascii "\n\n\n") x ++ T))
    (sym
    (node_text (suc m) anc name [] kids t (rw e)
    ∙ (ap (λ (r : Bytes). (in_element (writer (suc m)) anc flat name [] kids r).text) o
    ∙ (w ∙ (table_text DEFAULT_SKIP_TAGS m anc flat name kids u h ∙ sym (append_assoc u (ascii "\n") (T ++ ascii "\n\n")))))))
    (lines_after T false (table_first kids h) (table_last kids h) (table_opens a))

-- ---- lists

list_ends : (y : Bytes) (ls : List Bytes) → null ls ≡ false → tidy ls ≡ true → broken false (y ++ ended ls) ≡ (y ++ join (ascii "\n") ls) ++ ascii "\n\n"
list_ends y ls n h =
    let J : Bytes = join (ascii "\n") ls in
    ap (λ (v : Bytes). broken false (y ++ v)) (ended_join ls n)
    ∙ (ap (broken false) (sym (append_assoc y J (ascii "\n"))) ∙ broken_line (y ++ J) (last_keep white y J (tidy_join ls n h)))

pub list_real : (m : ℕ) (anc : Ancestors) (name : Bytes) (attrs : List Attr) (kids : Forest) (t x : Bytes) → lists (element name attrs kids nothing) ≡ true → height kids < m → After t x
    → After (write_element_node (writer m) anc flat name attrs kids t).text
    (gapped (ascii "\n\n") x ++ join (ascii "\n") (items_lines kids 0 (first_due (tag_of name) attrs)))
unfolding lfs sep
list_real m anc name attrs kids t x h low a =
    let ok : ListOk name attrs kids nothing = list_ok name attrs kids nothing h in
    let due : Option ℕ = first_due (tag_of name) attrs in
    let ls : List Bytes = items_lines kids 0 due in
    let y : Bytes = gapped (ascii "\n\n") x in
    let o : Opens (broken false t) y = block_opens a in
    let n : null ls ≡ false = items_some kids 0 due ok.inner ok.some_item in
    let d : tidy ls ≡ true = items_tidy kids 0 due ok.inner in
    let w : (write_element_node (writer m) anc flat name attrs kids t).text ≡ (y ++ join (ascii "\n") ls) ++ ascii "\n\n" =
    list_step m anc false 0 name attrs kids nothing t o.k y ok o.is
    (λ p. items_real kids m (attrs ∷ anc) false p 0 due o.k y low ok.inner o.room)
    ∙ list_ends y ls n d in
    behind 0 false w (o.room.begins (join (ascii "\n") ls) (items_begin kids due ok.inner ok.some_item))
    (last_keep white y (join (ascii "\n") ls) (tidy_join ls n d))
