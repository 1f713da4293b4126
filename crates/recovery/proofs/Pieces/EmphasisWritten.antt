-- What the writer appends for texts and emphasis in turn is read as their phrases.
use Rattle.std.specs.Prelude.{ℕ, ◌≡◌, refl, Bool, true, false, cond, ◌&&◌, ◌||◌}
use Rattle.std.proofs.Common.{sym, ◌∙◌, subst, true≢false}
use Rattle.std.proofs.Math.Path.{ap}
use Rattle.std.proofs.lemmas.Bool.{false≢true, not-true}
use mathlib.Core.List.{List, [], ◌∷◌, ◌++◌, append-nil, append_assoc}
use Rattle.std.proofs.Math.Option.{some}
use Rattle.spec.specs.Bytes.{Bytes, ascii, null, isin, every, white, blank, ends_with, words}
use Rattle.spec.specs.Names.{tag_of}
use Rattle.spec.specs.Tree.{Attr, Forest, nothing, text, element}
use Rattle.spec.specs.Plain.{plain_text, one_text, no_node}
use Rattle.spec.specs.SheetList.{first_text}
use Rattle.spec.specs.Md.TextUtils.{ends_with_marker_digits, starts_with_white, ends_with_white}
use Rattle.spec.specs.Md.Elements.Emphasis.{ends_with_emphasis}
use Rattle.spec.specs.Reading.Lines.{head_is}
use Rattle.spec.specs.Pieces.Emphasis.{Classes}
use Rattle.spec.specs.Pieces.EmphasisReading as reading
use Rattle.spec.specs.Pieces.EmphasisReading.{Inlines, joined, bytes, plain_words, between, phrases}
use Rattle.spec.proofs.Tests.{and_l, and_r}
use Rattle.recovery.proofs.TableBlocks.{kids_text}
use Rattle.recovery.proofs.Words.{text_words, text_some}
use Rattle.recovery.proofs.Escapes.{Esc, Esc_app}
use Rattle.recovery.proofs.Written.Ends.{last_is, first_is, last_keep, last_replicate, last_some_lem}
use Rattle.recovery.proofs.Written.Breaks.{blank_white, end_blank}
use Rattle.recovery.proofs.Pieces.Emphasis.{stars}
use Rattle.recovery.proofs.Pieces.EmphasisTokens.{extra, wrap, marks}
use Rattle.recovery.proofs.Pieces.EmphasisSpelt.{edge, white_behind, Spelt, spelt_nothing, spelt_words, spelt_marks, head_Esc}
use Rattle.recovery.proofs.Pieces.EmphasisSheets.{is_strong, in_line, blank_next, beside_emphasis, emphasis_text, black_first, phrases_of}
use Rattle.recovery.proofs.Pieces.EmphasisTexts.{blank_if, spelled, last_Esc, Spelled, shut}
use Rattle.recovery.proofs.Pieces.EmphasisElements.{text_spelled}
use Rattle.recovery.proofs.Pieces.EmphasisPhrases.{words_before, words_in_line, phrases_bytes, phrases_wrap, between_white, between_some, between_behind}
use Rattle.recovery.proofs.Pieces.EmphasisFlags.{first_edge, first_wide, last_wide, white_before, blanks_white, blank_Esc, black_behind, blank_first, black_first_lem}

-- ---- what is known of the text

-- w: a text comes next; p: white space, or nothing, stands before the blank that r tells of
pub record Place (w p r : Bool) (t : Bytes) : Type 0 where
  pub digits : w ≡ true → ends_with_marker_digits (t ++ blank_if r) ≡ false
  pub quiet : w ≡ false → (m : Bool) → ends_with_emphasis (marks m) (t ++ blank_if r) ≡ false
  pub base : w ≡ false → ends_with (ascii " ") t ≡ true → p ≡ true

-- the text becomes t, c and z; c is read as y, whose phrases are those of f
pub record Told (k : Classes) (w p r : Bool) (f : Forest) (t out : Bytes) : Type 0 where
  pub c : Bytes
  pub z : Bytes
  pub y : Inlines
  pub is : out ≡ t ++ (c ++ z)
  pub blanks : every blank z ≡ true
  pub spelt : Spelt k p c y
  pub told : (s : Bytes) → (w ≡ true → every white s ≡ true) → phrases s y ≡ some (between s (phrases_of f))
  pub head : w ≡ true → head_is 42 c ≡ false
  pub behind : w ≡ true → shut t ≡ false → (r || blank_next f) ≡ true → first_is white c ≡ true
  pub last : (x : Bytes) → last_is white x ≡ false → last_is white (x ++ c) ≡ false
  pub first : r ≡ false → shut t ≡ true → black_first f ≡ true → no_node f ≡ false → first_is white c ≡ false

pub told_nothing : (k : Classes) (w p r : Bool) (t : Bytes) → Told k w p r nothing t (t ++ blank_if r)
unfolding phrases phrases_of head_is first_is no_node
told_nothing k w p r t =
    record {
      c = [];
      z = blank_if r;
      y = reading.nothing;
      is = refl;
      blanks = end_blank r;
      spelt = spelt_nothing k p;
      told = λ s h. refl;
      head = λ h. refl;
      behind = λ h n q. refl;
      last = λ x h. rw (append-nil x) h;
      first = λ a b c d. absurd (true≢false d);
    }

-- ---- a text

text_words_read : (s u : Bytes) (r l : Bool) → every white s ≡ true → plain_text u ≡ true → words (s ++ (blank_if r ++ (blank_if l ++ in_line (words u)))) ≡ words u
text_words_read s u r l h p =
    words_before s (blank_if r ++ (blank_if l ++ in_line (words u))) h
    ∙ (words_before (blank_if r) (blank_if l ++ in_line (words u)) (blank_white (blank_if r) (end_blank r))
    ∙ (words_before (blank_if l) (in_line (words u)) (blank_white (blank_if l) (end_blank l)) ∙ words_in_line (words u) (text_words u p)))

pub told_text : (k : Classes) (s : Bytes) (rest : Forest) (p r l start : Bool) (t out : Bytes)
    → (r ≡ false → shut t ≡ false → l ≡ starts_with_white s) → (r ≡ false → shut t ≡ true → l ≡ false) → beside_emphasis s ≡ true
    → Told k false false (ends_with_white s) rest (t ++ (blank_if r ++ (blank_if l ++ spelled start (words s)))) out
    → Told k true p r (text s rest) t out
unfolding beside_emphasis
told_text k s rest p r l start t out unshut closed h ih =
    record {
      c = X ++ ih.c;
      z = ih.z;
      y = joined (bytes W) ih.y;
      is = ih.is ∙ (append_assoc t X (ih.c ++ ih.z) ∙ ap (λ (v : Bytes). t ++ v) (sym (append_assoc X ih.c ih.z)));
      blanks = ih.blanks;
      spelt = spelt_words k p esc (subst (λ (q : Bool). Spelt k q ih.c ih.y) (sym (black_behind p X black)) ih.spelt);
      told = told;
      head = λ e. head_Esc ih.c esc (last_some_lem white X black);
      behind = λ e n q. blank_first r l E ih.c (lead r refl n q);
      last =
          λ x v.
          ap (last_is white) (sym (append_assoc x X ih.c)) ∙ ih.last (x ++ X) (last_keep white x X black);
      first = λ a b q n. black_first_lem r l E ih.c a (closed a b) w.first;
    }
  where
    plain : plain_text s ≡ true
    plain = and_l (plain_text s) _ h

    E : Bytes
    E = spelled start (words s)

    X : Bytes
    X = blank_if r ++ (blank_if l ++ E)

    W : Bytes
    W = blank_if r ++ (blank_if l ++ in_line (words s))

    w : Spelled E (words s)
    w = text_spelled start s plain

    esc : Esc X W
    esc = Esc_app (blank_Esc r) (Esc_app (blank_Esc l) w.esc)

    black : last_is white X ≡ false
    black = last_keep white (blank_if r) (blank_if l ++ E) (last_keep white (blank_if l) E w.last)

    lead : (q : Bool) → r ≡ q → shut t ≡ false → (q || blank_next (text s rest)) ≡ true → (q || l) ≡ true
    lead true e n v = refl
    lead false e n v = unshut e n ∙ unfold blank_next in v

    told : (u : Bytes) → (true ≡ true → every white u ≡ true) → phrases u (joined (bytes W) ih.y) ≡ some (between u (phrases_of (text s rest)))
    told u v =
        let ws : words (u ++ W) ≡ words s = text_words_read u s r l (v refl) plain in
        phrases_bytes u W ih.y
        ∙ (ih.told (u ++ W) (λ e. absurd (false≢true e))
        ∙ ap some
        (between_some (u ++ W) (phrases_of rest) (ap null ws ∙ text_some s plain)
        ∙ (ap (λ (x : List Bytes). plain_words x ∷ phrases_of rest) ws ∙ (sym (between_white u (plain_words (words s) ∷ phrases_of rest) (v refl)) ∙ unfold phrases_of in refl))))

-- ---- an emphasis

pub star_white : (n : ℕ) (x : Bytes) → last_is white (x ++ stars n) ≡ false
star_white n x = last_keep white x (stars n) (last_replicate white n 42 (unfold white isin in refl))

pub told_mark : (k : Classes) (name : Bytes) (attrs : List Attr) (kids rest : Forest) (p r b : Bool) (t out : Bytes)
    → one_text (emphasis_text (p || r) (blank_next rest)) kids ≡ true
    → (r ≡ false → b ≡ false → starts_with_white (first_text kids) ≡ true → p ≡ true) → (starts_with_white (first_text kids) ≡ false → b ≡ false)
    → shut (t ++ ((blank_if r ++ blank_if b) ++ (marks (is_strong (tag_of name)) ++ (spelled true (words (first_text kids)) ++ marks (is_strong (tag_of name)))))) ≡ false
    → Told k true false (ends_with_white (first_text kids)) rest
    (t ++ ((blank_if r ++ blank_if b) ++ (marks (is_strong (tag_of name)) ++ (spelled true (words (first_text kids)) ++ marks (is_strong (tag_of name)))))) out
    → Told k false p r (element name attrs kids rest) t out
unfolding emphasis_text
told_mark k name attrs kids rest p r b t out h before brings shown ih =
    record {
      c = X ++ (M ++ (E ++ (M ++ ih.c)));
      z = ih.z;
      y = joined (bytes X) (joined (wrap K (bytes (in_line (words s)))) ih.y);
      is = ih.is ∙ simp append_assoc;
      blanks = ih.blanks;
      spelt = spelt_words k p (Esc_app (blank_Esc r) (blank_Esc b)) (spelt_marks k K (white_behind p X) w.esc w.some first last (ih.head refl) ih.spelt);
      told = told;
      head = λ e. absurd (false≢true e);
      behind = λ e n q. absurd (false≢true e);
      last = λ x v. ap (last_is white) (regroup x) ∙ ih.last (x ++ ((X ++ (M ++ E)) ++ M)) (rw (← append_assoc x (X ++ (M ++ E)) M) (star_white (extra K) (x ++ (X ++ (M ++ E)))));
      first = λ a n q v. black r b a (brings (not-true _ (unfold black_first in q)));
    }
  where
    s : Bytes
    s = first_text kids

    K : Bool
    K = is_strong (tag_of name)

    M : Bytes
    M = marks K

    E : Bytes
    E = spelled true (words s)

    X : Bytes
    X = blank_if r ++ blank_if b

    tested : ((plain_text s && first_is (edge ((p || r) || starts_with_white s)) (in_line (words s))) && last_is (edge (ends_with_white s || blank_next rest)) (in_line (words s))) ≡ true
    tested = kids_text (emphasis_text (p || r) (blank_next rest)) kids h

    front : (plain_text s && first_is (edge ((p || r) || starts_with_white s)) (in_line (words s))) ≡ true
    front = and_l (plain_text s && first_is (edge ((p || r) || starts_with_white s)) (in_line (words s))) _ tested

    plain : plain_text s ≡ true
    plain = and_l (plain_text s) _ front

    w : Spelled E (words s)
    w = text_spelled true s plain

    first : first_is (edge (white_behind p X)) E ≡ true
    first =
        first_wide ((p || r) || starts_with_white s) (white_behind p X) E (λ e. white_before p r (starts_with_white s) b e before)
        (first_edge ((p || r) || starts_with_white s) w.esc (and_r (plain_text s) _ front))

    last : last_is (edge (first_is white ih.c)) E ≡ true
    last =
        last_wide (ends_with_white s || blank_next rest) (first_is white ih.c) E (λ e. ih.behind refl shown e)
        (last_Esc (edge (ends_with_white s || blank_next rest)) w.esc
        ∙ and_r (plain_text s && first_is (edge ((p || r) || starts_with_white s)) (in_line (words s))) _ tested)

    told : (u : Bytes) → (false ≡ true → every white u ≡ true)
        → phrases u (joined (bytes X) (joined (wrap K (bytes (in_line (words s)))) ih.y)) ≡ some (between u (phrases_of (element name attrs kids rest)))
    told u v =
        let q : phrases [] ih.y ≡ some (phrases_of rest) = ih.told [] (λ e. unfold every in refl) ∙ ap some (between_white [] (phrases_of rest) (unfold every in refl)) in
        phrases_bytes u X (joined (wrap K (bytes (in_line (words s)))) ih.y)
        ∙ (phrases_wrap K (u ++ X) (in_line (words s)) ih.y (phrases_of rest) q
        ∙ ap some
        (between_behind u X (cond K reading.strongly reading.emphasised (words (in_line (words s))) ∷ phrases_of rest) (blanks_white r b)
        ∙ (ap (λ (x : List Bytes). between u (cond K reading.strongly reading.emphasised x ∷ phrases_of rest)) (words_in_line (words s) (text_words s plain)) ∙ unfold phrases_of in refl)))

    regroup : (x : Bytes) → x ++ (X ++ (M ++ (E ++ (M ++ ih.c)))) ≡ (x ++ ((X ++ (M ++ E)) ++ M)) ++ ih.c
    regroup x = simp append_assoc

    black : (r b : Bool) → r ≡ false → b ≡ false → first_is white ((blank_if r ++ blank_if b) ++ (M ++ (E ++ (M ++ ih.c)))) ≡ false
    black r b p q = unfold first_is white isin in rw (p, q)
