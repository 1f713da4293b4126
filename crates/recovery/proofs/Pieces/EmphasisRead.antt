-- A reader finds the phrases of a paragraph and of an item that hold texts and emphasis in turn: words, strong words, emphasised words.
use Rattle.std.specs.Prelude.{ℕ, suc, ◌+◌, ◌≡◌, Bool, ◌&&◌, ◌||◌, replicate}
use Rattle.std.proofs.Math.Path.{refl, ap}
use Rattle.std.proofs.Common.{sym, ◌∙◌, subst, true≢false, eqb-true}
use Rattle.std.proofs.Math.Bool.{true, false, not, and-false}
use Rattle.std.proofs.lemmas.Bool.{false≢true, not-true}
use mathlib.Core.List.{List, [], ◌∷◌, ◌++◌, append-nil, append_assoc}
use Rattle.std.proofs.Math.Option.{Option, none, some}
use Rattle.std.proofs.Math.Dec.{eqb}
use Rattle.std.proofs.Math.Seq.{drop-append_seam}
use Rattle.spec.specs.Bytes.{Bytes, ascii, null, same, isin, every, white, blank, digit, ends_with, trim_ascii_end, decimal}
use Rattle.spec.specs.Names as tag
use Rattle.spec.specs.Names.{tag_of}
use Rattle.spec.specs.Tree.{Attr, Forest, nothing, text, comment, element}
use Rattle.spec.specs.Plain.{one_text, no_node}
use Rattle.spec.specs.Out.{keep, and_then}
use Rattle.spec.specs.Md.Constants.{DEFAULT_SKIP_TAGS}
use Rattle.spec.specs.Md.TextUtils.{ends_with_white}
use Rattle.spec.specs.Md.Heading.{md_prefix, is_heading}
use Rattle.spec.specs.Md.MDSerializer.{Ancestors, MDSerializer}
use Rattle.spec.specs.Md.Elements.Blocks.{is_md_block, is_list}
use Rattle.spec.specs.Md.Elements.Emphasis.{ends_with_emphasis, is_exact_marker_end}
use Rattle.spec.specs.Md.Elements.List.{node_is_list_item_block, has_blocks, write_list_item, list_item_text}
use Rattle.spec.specs.Md.Serializer.{has_writer, write_element_node, write_nodes, write_at, serializer, write_fragment, serialize}
use Rattle.spec.specs.declared.ctx.ListContext.{ListContext}
use Rattle.spec.specs.Pieces.Emphasis.{Classes}
use Rattle.spec.specs.Pieces.EmphasisReading as reading
use Rattle.spec.specs.Pieces.EmphasisReading.{phrases_in}
use Rattle.spec.proofs.Tests.{and_l, and_r, or_elim, every_imp}
use Rattle.recovery.specs.Closed.{marker, deeper}
use Rattle.recovery.proofs.Written.Ends.{last_is, first_is, last_keep, last_app, last_none, trim_cut, trim_none, ends_by}
use Rattle.recovery.proofs.Written.Breaks.{lfs, sep, broken, last_lf, lfs_white, trimmed, trim_core, blank_white}
use Rattle.recovery.proofs.Written.Contexts.{opts_at, context_at}
use Rattle.recovery.proofs.Written.Blocks.{After, begun, behind, LineEnd, line_end, gapped, broken_after}
use Rattle.recovery.proofs.Written.Lists.{Room, lfs_last, trim_behind}
use Rattle.recovery.proofs.Written.ListTexts.{stem, marker_stem, item_text}
use Rattle.recovery.proofs.Written.Phrases.{marker_first}
use Rattle.recovery.proofs.Written.Leaves.{flat, writer, close_text, leaf_real}
use Rattle.recovery.proofs.Written.Sheet.{trim_after}
use Rattle.recovery.proofs.Pieces.Emphasis.{star}
use Rattle.recovery.proofs.Pieces.EmphasisTokens.{extra, marks}
use Rattle.recovery.proofs.Pieces.EmphasisSpelt.{spelt_inlines}
use Rattle.recovery.proofs.Pieces.EmphasisSheets.{is_emphasis, blank_next, beside_emphasis, emphasis_text, black_first, turns, in_turn, phrases_of}
use Rattle.recovery.proofs.Pieces.EmphasisTexts.{shut}
use Rattle.recovery.proofs.Pieces.EmphasisElements.{not_emphasis}
use Rattle.recovery.proofs.Pieces.EmphasisPhrases.{between_white}
use Rattle.recovery.proofs.Pieces.EmphasisFlags.{no_digits, quiet_word}
use Rattle.recovery.proofs.Pieces.EmphasisWritten.{Place, Told}
use Rattle.recovery.proofs.Pieces.EmphasisTurns.{told_all}

-- ---- where a paragraph or an item begins

record Begins (u : Bytes) : Type 0 where
  closed : shut u ≡ true
  last : last_is digit u ≡ false
  quiet : (m : Bool) → ends_with_emphasis (marks m) u ≡ false

-- what stands between the beginning and blanks at the end: it is read as the phrases of f
record Content (k : Classes) (f : Forest) (u out : Bytes) : Type 0 where
  c : Bytes
  z : Bytes
  is : out ≡ u ++ (c ++ z)
  blanks : every blank z ≡ true
  read : reading.read k c ≡ some (phrases_of f)
  first : first_is white c ≡ false
  last : last_is white c ≡ false

place : (w : Bool) (u : Bytes) → Begins u → Place w true false u
place w u h =
    record {
      digits = λ q. rw (append-nil u) (no_digits u h.last);
      quiet = λ q m. rw (append-nil u) (h.quiet m);
      base = λ q v. refl;
    }

first_some_lem : (x : Bytes) → first_is white x ≡ false → null x ≡ false
unfolding first_is null
first_some_lem [] h = absurd (true≢false h)
first_some_lem (b ∷ x) h = refl

last_by : (b : ℕ) (x : Bytes) → null x ≡ false → last_is white (b ∷ x) ≡ false → last_is white x ≡ false
unfolding last_is
last_by b x n h = rw n at h

told_content : (k : Classes) (w : Bool) (f : Forest) (u out : Bytes) → shut u ≡ true → black_first f ≡ true → no_node f ≡ false → Told k w true false f u out → Content k f u out
unfolding reading.read phrases_in
told_content k w f u out s b n t =
    let e : first_is white t.c ≡ false = t.first refl s b n in
    record {
      c = t.c;
      z = t.z;
      is = t.is;
      blanks = t.blanks;
      read =
          ap phrases_in (spelt_inlines k t.c t.y t.spelt)
          ∙ (t.told [] (λ q. unfold every in refl) ∙ ap some (between_white [] (phrases_of f) (unfold every in refl)));
      first = e;
      last = last_by 42 t.c (first_some_lem t.c e) (t.last (42 ∷ []) (unfold last_is null white isin in refl));
    }

content : (k : Classes) (m : ℕ) (anc : Ancestors) (item : Bool) (o : ℕ) (f : Forest) (u : Bytes) → Begins u → in_turn f ≡ true
    → Content k f u (write_at DEFAULT_SKIP_TAGS (suc (suc m)) anc (opts_at item o) f u).text
unfolding in_turn write_at serializer
content k m anc item o f u b h = or_elim (turns true true f) (turns false true f) (go true) (go false) (and_r (not (no_node f) && black_first f) _ h)
  where
    q : (not (no_node f) && black_first f) ≡ true
    q = and_l (not (no_node f) && black_first f) _ h

    go : (w : Bool) → turns w true f ≡ true → Content k f u (write_nodes (serializer DEFAULT_SKIP_TAGS (suc m)) anc (opts_at item o) f u).text
    go w e =
        told_content k w f u (write_nodes (serializer DEFAULT_SKIP_TAGS (suc m)) anc (opts_at item o) f u).text b.closed (and_r (not (no_node f)) _ q)
        (not-true (no_node f) (and_l (not (no_node f)) _ q))
        (subst (λ (v : Bytes). Told k w true false f u (write_nodes (serializer DEFAULT_SKIP_TAGS (suc m)) anc (opts_at item o) f v).text) (append-nil u)
        (told_all k m anc item o f w true false u (place w u b) e))

-- ---- paragraphs

-- behind line ends no emphasis has just ended
quiet_lines : (m : Bool) (u x : Bytes) → After u x → ends_with_emphasis (marks m) u ≡ false
unfolding ends_with_emphasis trim_ascii_end
quiet_lines m u x (begun k e n) =
    rw (e, trim_none white (lfs k) (lfs_white k)) (none m)
  where
    none : (m : Bool) → (not (null (marks m) || null (lfs k)) && ((null (lfs k) || same (lfs k) (ascii " ")) && is_exact_marker_end [] (marks m))) ≡ false
    none true = unfold is_exact_marker_end extra ends_with same in rw (and-false (null (lfs k) || same (lfs k) (ascii " ")), and-false (not (null (ascii "**") || null (lfs k))))
    none false = unfold is_exact_marker_end extra ends_with same in rw (and-false (null (lfs k) || same (lfs k) (ascii " ")), and-false (not (null (ascii "*") || null (lfs k))))
quiet_lines m u x (behind k g e f l) =
    let y : Bytes = lfs k ++ x in
    rw (e, ← append_assoc (lfs k) x (sep g), trim_cut white y (sep g) (last_keep white (lfs k) x l) (gap_white g), drop-append_seam y (sep g), gap_long g)
    (and-false (not (null (marks m) || null (y ++ sep g))))
  where
    gap_white : (g : Bool) → every white (sep g) ≡ true
    gap_white true = unfold sep every white isin in refl
    gap_white false = unfold sep every white isin in refl

    gap_long : (g : Bool) → (null (sep g) || same (sep g) (ascii " ")) ≡ false
    gap_long true = unfold sep null same in refl
    gap_long false = unfold sep null same in refl

begins_line : (y : Bytes) → ((m : Bool) → ends_with_emphasis (marks m) (y ++ ascii "\n") ≡ false) → Begins (y ++ ascii "\n")
unfolding shut
begins_line y q =
    let e : ends_with (ascii "\n") (y ++ ascii "\n") ≡ true = ends_by (ascii "\n") y (ascii "\n") refl ∙ unfold same in refl in
    record {
      closed = rw e;
      last = last_keep digit y (ascii "\n") (unfold last_is null digit in refl);
      quiet = q;
    }

begins_paragraph : (t x : Bytes) → After t x → Begins (broken false t)
begins_paragraph t x a =
    let l : LineEnd (broken false t) = line_end a in
    subst Begins (sym l.is) (begins_line l.front (λ m. ap (ends_with_emphasis (marks m)) (sym l.is) ∙ quiet_lines m (broken false t) x (broken_after a)))

-- blanks are no line end
no_line_end : (c z : Bytes) → last_is white c ≡ false → every blank z ≡ true → last_is (λ b. eqb b 10) (c ++ z) ≡ false
no_line_end c [] l h = rw (append-nil c) (last_lf c l)
no_line_end c (b ∷ z) l h =
    last_app (λ x. eqb x 10) c (b ∷ z) (unfold null in refl)
    ∙ last_none (λ x. eqb x 10) (b ∷ z) (every_imp blank (λ x. not (eqb x 10)) (b ∷ z) (λ x e. ap (λ (y : ℕ). not (eqb y 10)) (eqb-true x 32 (unfold blank in e))) h) (unfold null in refl)

-- a text c that is written as P says, and that is read as the phrases of f
pub record Read (k : Classes) (f : Forest) (P : Bytes → Type 0) : Type 0 where
  pub c : Bytes
  pub written : P c
  pub read : reading.read k c ≡ some (phrases_of f)

-- A paragraph behind what is written so far, x. The writer's text grows by c, a line of its own between line ends, and c is read as the
-- phrases of what the paragraph holds
pub emphasis_paragraph : (k : Classes) (m : ℕ) (anc : Ancestors) (name : Bytes) (kids : Forest) (t x : Bytes) → tag_of name ≡ tag.p → in_turn kids ≡ true → After t x
    → Read k kids (λ c. After (write_element_node (writer (suc (suc m))) anc flat name [] kids t).text (gapped (ascii "\n\n") x ++ c))
emphasis_paragraph k m anc name kids t x e h a =
    let u : Bytes = broken false t in
    let r : Content k kids u (write_at DEFAULT_SKIP_TAGS (suc (suc m)) ([] ∷ anc) flat kids u).text = content k m ([] ∷ anc) false 0 kids u (begins_paragraph t x a) h in
    let o : u ++ md_prefix (tag_of name) ≡ u = rw e (unfold md_prefix in append-nil u) in
    record {
      c = r.c;
      written =
          leaf_real (suc (suc m)) anc name kids t x (u ++ (r.c ++ r.z)) r.c r.z (rw e (unfold is_md_block isin in refl)) (rw e (unfold has_writer isin in refl))
          (ap (λ (v : Bytes). (write_at DEFAULT_SKIP_TAGS (suc (suc m)) ([] ∷ anc) flat kids v).text) o ∙ r.is)
          (last_keep (λ b. eqb b 10) u (r.c ++ r.z) (no_line_end r.c r.z r.last r.blanks))
          (rw e (unfold close_text is_heading isin in refl)) r.first r.last r.blanks a;
      read = r.read;
    }

-- a sheet of one paragraph: what the call's definition gives is read as the phrases of what the paragraph holds
pub emphasis_sheet : (k : Classes) (m : ℕ) (name : Bytes) (kids : Forest) → tag_of name ≡ tag.p → in_turn kids ≡ true
    → reading.read k (serialize (writer (suc (suc (suc m)))) (element name [] kids nothing) 0 false).text ≡ some (phrases_of kids)
unfolding serialize write_fragment and_then write_at serializer write_nodes keep trimmed gapped null
emphasis_sheet k m name kids e h =
    let r : Read k kids (λ c. After (write_element_node (writer (suc (suc m))) [] flat name [] kids []).text (gapped (ascii "\n\n") [] ++ c)) =
    emphasis_paragraph k m [] name kids [] [] e h (begun 0 (unfold lfs in refl) refl) in
    ap (reading.read k) (trim_after r.written) ∙ r.read

-- ---- items

-- none of the four is a block of an item
turns_flat : (w b : Bool) (f : Forest) → turns w b f ≡ true → has_blocks f ≡ false
unfolding turns has_blocks
turns_flat w b nothing h = refl
turns_flat true b (text s rest) h = turns_flat false (ends_with_white s) rest (and_r (beside_emphasis s) _ h)
turns_flat false b (text s rest) h = absurd (false≢true h)
turns_flat true b (comment s rest) h = absurd (false≢true h)
turns_flat false b (comment s rest) h = absurd (false≢true h)
turns_flat true b (element name attrs kids rest) h = absurd (false≢true h)
turns_flat false b (element name attrs kids rest) h =
    let q : Bool = is_emphasis (tag_of name) && one_text (emphasis_text b (blank_next rest)) kids in
    rw (not_emphasis node_is_list_item_block (tag_of name) (and_l (is_emphasis (tag_of name)) _ (and_l q _ h)) (unfold every node_is_list_item_block is_list is_md_block isin in refl))
    (turns_flat true false rest (and_r q _ h))

in_flat : (f : Forest) → in_turn f ≡ true → has_blocks f ≡ false
unfolding in_turn
in_flat f h = or_elim (turns true true f) (turns false true f) (turns_flat true true f) (turns_flat false true f) (and_r (not (no_node f) && black_first f) _ h)

begins_blank : (y : Bytes) → last_is white y ≡ false → last_is star y ≡ false → Begins (y ++ ascii " ")
unfolding shut
begins_blank y l s =
    let e : ends_with (ascii " ") (y ++ ascii " ") ≡ true = ends_by (ascii " ") y (ascii " ") refl ∙ unfold same in refl in
    let n : ends_with (ascii "\n") (y ++ ascii " ") ≡ false = ends_by (ascii "\n") y (ascii " ") refl ∙ unfold same in refl in
    record {
      closed = rw (e, n);
      last = last_keep digit y (ascii " ") (unfold last_is null digit in refl);
      quiet = λ m. quiet_word m y (ascii " ") l s (unfold every white isin in refl);
    }

begins_item : (y : Bytes) (number : Option ℕ) → Begins (y ++ marker number)
unfolding stem
begins_item y number = subst Begins (sym (ap (λ (v : Bytes). y ++ v) (marker_stem number) ∙ sym (append_assoc y (stem number) (ascii " ")))) (go number)
  where
    black : (number : Option ℕ) → last_is white (y ++ stem number) ≡ false
    black none = last_keep white y (ascii "-") (unfold last_is null white isin in refl)
    black (some n) = last_keep white y (decimal n ++ ascii ".") (last_keep white (decimal n) (ascii ".") (unfold last_is null white isin in refl))

    bare : (number : Option ℕ) → last_is star (y ++ stem number) ≡ false
    bare none = last_keep star y (ascii "-") (unfold last_is null star in refl)
    bare (some n) = last_keep star y (decimal n ++ ascii ".") (last_keep star (decimal n) (ascii ".") (unfold last_is null star in refl))

    go : (number : Option ℕ) → Begins ((y ++ stem number) ++ ascii " ")
    go number = begins_blank (y ++ stem number) (black number) (bare number)

item_flat : (self : MDSerializer) (anc : Ancestors) (name : Bytes) (attrs : List Attr) (kids : Forest) (ctx : ListContext) (t : Bytes) → has_blocks kids ≡ false
    → (list_item_text self anc name attrs kids ctx t).text ≡ (write_list_item self anc (element name attrs kids nothing) ctx t).text
unfolding list_item_text
item_flat self anc name attrs kids ctx t h = rw h

item_shape : (j : ℕ) (x a b c z : Bytes) → ((lfs j ++ x) ++ (a ++ b)) ++ (c ++ z) ≡ lfs j ++ ((x ++ (a ++ (b ++ c))) ++ z)
item_shape j x a b c z = simp append_assoc

-- An item behind what is written so far, x. The writer's text grows by a line: blanks, the marker and c, and c is read as the phrases of what
-- the item holds
pub emphasis_item : (k : Classes) (m : ℕ) (anc : Ancestors) (name : Bytes) (attrs : List Attr) (kids : Forest) (b : Bool) (o i : ℕ) (number : Option ℕ) (j : ℕ) (x : Bytes)
    → in_turn kids ≡ true → Room x i
    → Read k kids (λ c. (list_item_text (writer (suc (suc m))) anc name attrs kids (context_at b o i number) (lfs j ++ x)).text ≡ x ++ ((replicate i 32 ++ (marker number ++ c)) ++ ascii "\n"))
unfolding serializer
emphasis_item k m anc name attrs kids b o i number j x h room =
    let y : Bytes = lfs j ++ x in
    let u : Bytes = y ++ (replicate i 32 ++ marker number) in
    let g : Begins u = subst Begins (append_assoc y (replicate i 32) (marker number)) (begins_item (y ++ replicate i 32) number) in
    let r : Content k kids u (write_at DEFAULT_SKIP_TAGS (suc (suc m)) (attrs ∷ anc) (opts_at true (i + deeper number)) kids u).text = content k m (attrs ∷ anc) true (i + deeper number) kids u g h in
    let L : Bytes = replicate i 32 ++ (marker number ++ r.c) in
    record {
      c = r.c;
      written =
          item_flat (writer (suc (suc m))) anc name attrs kids (context_at b o i number) y (in_flat kids h)
          ∙ (item_text (writer (suc (suc m))) anc name attrs kids b o i number y
          ∙ (ap (λ (v : Bytes). trimmed (write_at DEFAULT_SKIP_TAGS (suc (suc m)) (attrs ∷ anc) (opts_at true (i + deeper number)) kids (v ++ (replicate i 32 ++ marker number))).text ++ ascii "\n")
          (trim_behind y (lfs_last j x room.after))
          ∙ (ap (λ (v : Bytes). trimmed v ++ ascii "\n") (r.is ∙ item_shape j x (replicate i 32) (marker number) r.c r.z)
          ∙ (ap (λ (v : Bytes). v ++ ascii "\n")
          (trim_core j (x ++ L) r.z (room.begins (marker number ++ r.c) (marker_first number r.c))
          (last_keep white x L (last_keep white (replicate i 32) (marker number ++ r.c) (last_keep white (marker number) r.c r.last)))
          (blank_white r.z r.blanks))
          ∙ append_assoc x L (ascii "\n")))));
      read = r.read;
    }
