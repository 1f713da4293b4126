-- Texts and emphasis in turn, written one after the other: their text is read as their phrases.
use Rattle.std.specs.Prelude.{ℕ, suc, ◌≡◌, refl, Bool, true, false, not, ◌&&◌, ◌||◌, List, [], ◌++◌, eqb}
use Rattle.std.proofs.Common.{sym, ap, ◌∙◌, subst, true≢false, append-nil, append_assoc}
use Rattle.std.proofs.lemmas.Bool.{false≢true, not-true}
use Rattle.spec.specs.Bytes.{Bytes, ascii, null, white, digit, ends_with, words}
use Rattle.spec.specs.Names.{tag_of}
use Rattle.spec.specs.Tree.{Attr, Forest, nothing, text, comment, element}
use Rattle.spec.specs.Plain.{plain_text, one_text}
use Rattle.spec.specs.SheetList.{first_text}
use Rattle.spec.specs.Out.{keep, push, and_then}
use Rattle.spec.specs.Md.Constants.{DEFAULT_SKIP_TAGS}
use Rattle.spec.specs.Md.TextUtils.{ends_with_marker_digits, starts_with_white, ends_with_white, normalized, push_normalized_text}
use Rattle.spec.specs.Md.MDSerializer.{Ancestors, MDSerializer}
use Rattle.spec.specs.Md.Serializer.{write_element_node, write_nodes, serializer}
use Rattle.spec.specs.Pieces.Emphasis.{Classes}
use Rattle.spec.proofs.Tests.{and_l, and_r}
use Rattle.recovery.proofs.TableBlocks.{kids_text, one_text_lem}
use Rattle.recovery.proofs.Written.Ends.{last_is, first_is, last_keep, last_not, last_replicate, last_some_lem}
use Rattle.recovery.proofs.Written.Breaks.{blank_white, end_blank}
use Rattle.recovery.proofs.Written.Contexts.{opts_at}
use Rattle.recovery.proofs.Pieces.Emphasis.{star, stars}
use Rattle.recovery.proofs.Pieces.EmphasisTokens.{extra, marks}
use Rattle.recovery.proofs.Pieces.EmphasisSpelt.{edge}
use Rattle.recovery.proofs.Pieces.EmphasisSheets.{is_strong, is_emphasis, in_line, blank_next, beside_emphasis, emphasis_text, turns}
use Rattle.recovery.proofs.Pieces.EmphasisTexts.{blank_if, spelled, last_Esc, Spelled, shut, line_start, appended, ends_black}
use Rattle.recovery.proofs.Pieces.EmphasisElements.{text_spelled, emphasis_appended}
use Rattle.recovery.proofs.Pieces.EmphasisFlags.{no_digits, quiet_word, first_edge}
use Rattle.recovery.proofs.Pieces.EmphasisWritten.{Place, Told, told_nothing, told_text, told_mark, star_white}

abbrev at : ℕ → MDSerializer
at m = serializer DEFAULT_SKIP_TAGS m

-- ---- blanks between

lead_open : (r w : Bool) (t : Bytes) → r ≡ false → shut t ≡ false → (not (shut (t ++ blank_if r)) && w) ≡ w
lead_open r w t e n = rw (e, append-nil t, n)

lead_shut : (r w : Bool) (t : Bytes) → r ≡ false → shut t ≡ true → (not (shut (t ++ blank_if r)) && w) ≡ false
lead_shut r w t e n = rw (e, append-nil t, n)

blank_there : (r w : Bool) (t : Bytes) → r ≡ false → (w && not (ends_with (ascii " ") (t ++ blank_if r))) ≡ false → w ≡ true → ends_with (ascii " ") t ≡ true
blank_there r w t e h v = go (ends_with (ascii " ") t) (rw (e, append-nil t, v) at h)
  where
    go : (q : Bool) → not q ≡ false → q ≡ true
    go true n = refl
    go false n = absurd (true≢false n)

shut_star : (n : ℕ) (x : Bytes) → shut (x ++ stars n) ≡ false
unfolding shut
shut_star n x =
    let w : last_is white (x ++ stars n) ≡ false = star_white n x in
    rw (last_not [] 10 (x ++ stars n) (last_keep (λ b. eqb b 10) x (stars n) (last_replicate (λ b. eqb b 10) n 42 refl)), ends_black (x ++ stars n) w, last_some_lem white (x ++ stars n) w)

digit_star : (n : ℕ) (x : Bytes) (r : Bool) → last_is digit ((x ++ stars n) ++ blank_if r) ≡ false
digit_star n x true = last_keep digit (x ++ stars n) (ascii " ") (unfold last_is null digit in refl)
digit_star n x false = rw (append-nil (x ++ stars n)) (last_keep digit x (stars n) (last_replicate digit n 42 (unfold digit in refl)))

-- ---- behind a text and behind an emphasis

beside_plain : (s : Bytes) → beside_emphasis s ≡ true → plain_text s ≡ true
unfolding beside_emphasis
beside_plain s h = and_l (plain_text s) _ h

behind_text : (s t : Bytes) (start : Bool) (z : Bytes) → beside_emphasis s ≡ true → Place false false (ends_with_white s) (t ++ (z ++ spelled start (words s)))
unfolding beside_emphasis
behind_text s t start z h =
    let w : Spelled (spelled start (words s)) (words s) = text_spelled start s (and_l (plain_text s) _ h) in
    let e : Bytes = z ++ spelled start (words s) in
    let black : last_is white (t ++ e) ≡ false = last_keep white t e (last_keep white z (spelled start (words s)) w.last) in
    let bare : last_is star (t ++ e) ≡ false =
    last_keep star t e
    (last_keep star z (spelled start (words s)) (last_Esc star w.esc ∙ not-true (last_is star (in_line (words s))) (and_r (plain_text s) _ h))) in
    record {
      digits = λ q. absurd (false≢true q);
      quiet = λ q m. quiet_word m (t ++ e) (blank_if (ends_with_white s)) black bare (blank_white (blank_if (ends_with_white s)) (end_blank (ends_with_white s)));
      base = λ q v. absurd (true≢false (sym v ∙ ends_black (t ++ e) black));
    }

behind_mark : (n : ℕ) (x : Bytes) (r : Bool) → Place true false r (x ++ stars n)
behind_mark n x r =
    record {
      digits = λ q. no_digits ((x ++ stars n) ++ blank_if r) (digit_star n x r);
      quiet = λ q m. absurd (true≢false q);
      base = λ q v. absurd (true≢false q);
    }

-- ---- all of them

-- a text, as it is appended
text_out : (item : Bool) (o : ℕ) (s t : Bytes) (r : Bool) → ends_with_marker_digits (t ++ blank_if r) ≡ false → plain_text s ≡ true
    → (t ++ blank_if r) ++ normalized (opts_at item o) (t ++ blank_if r) s
    ≡ (t ++ (blank_if r ++ (blank_if (not (shut (t ++ blank_if r)) && starts_with_white s) ++ spelled (line_start (opts_at item o) (t ++ blank_if r)) (words s)))) ++ blank_if (ends_with_white s)
text_out item o s t r h p =
    ap (λ (v : Bytes). (t ++ blank_if r) ++ v) (appended (opts_at item o) (t ++ blank_if r) s refl h p) ∙ simp append_assoc

-- an emphasis, as it is appended
mark_out : (m : ℕ) (anc : Ancestors) (item : Bool) (o : ℕ) (name : Bytes) (attrs : List Attr) (kids : Forest) (t : Bytes) (p before behind r : Bool)
    → Place false p r t → is_emphasis (tag_of name) ≡ true → one_text (emphasis_text before behind) kids ≡ true
    → (write_element_node (at (suc m)) anc (opts_at item o) name attrs kids (t ++ blank_if r)).text
    ≡ (t ++ ((blank_if r ++ blank_if (starts_with_white (first_text kids) && not (ends_with (ascii " ") (t ++ blank_if r))))
    ++ (marks (is_strong (tag_of name)) ++ (spelled true (words (first_text kids)) ++ marks (is_strong (tag_of name))))))
    ++ blank_if (ends_with_white (first_text kids))
unfolding emphasis_text
mark_out m anc item o name attrs kids t p before behind r h i k =
    let s : Bytes = first_text kids in
    let a : (plain_text s && first_is (edge (before || starts_with_white s)) (in_line (words s))) ≡ true =
    and_l (plain_text s && first_is (edge (before || starts_with_white s)) (in_line (words s))) _ (kids_text (emphasis_text before behind) kids k) in
    let u : plain_text s ≡ true = and_l (plain_text s) _ a in
    let w : Spelled (spelled true (words s)) (words s) = text_spelled true s u in
    ap (λ (f : Forest). (write_element_node (at (suc m)) anc (opts_at item o) name attrs f (t ++ blank_if r)).text) (one_text_lem (emphasis_text before behind) kids k)
    ∙ (emphasis_appended m anc item o name attrs s (t ++ blank_if r) (before || starts_with_white s) i u
    (first_edge (before || starts_with_white s) w.esc (and_r (plain_text s) _ a)) (h.quiet refl (is_strong (tag_of name)))
    ∙ simp append_assoc)

-- where a text comes next, what stands before it does not matter
turns_text : (a b : Bool) (f : Forest) → turns true a f ≡ turns true b f
unfolding turns
turns_text a b nothing = refl
turns_text a b (text s rest) = refl
turns_text a b (comment s rest) = refl
turns_text a b (element name attrs kids rest) = refl

pub told_all : (k : Classes) (m : ℕ) (anc : Ancestors) (item : Bool) (o : ℕ) (f : Forest) (w p r : Bool) (t : Bytes) → Place w p r t → turns w (p || r) f ≡ true
    → Told k w p r f t (write_nodes (at (suc m)) anc (opts_at item o) f (t ++ blank_if r)).text
unfolding turns write_nodes push_normalized_text and_then push keep
told_all k m anc item o nothing w p r t q h = told_nothing k w p r t
told_all k m anc item o (text s rest) false p r t q h = absurd (false≢true h)
told_all k m anc item o (text s rest) true p r t q h =
    let b : beside_emphasis s ≡ true = and_l (beside_emphasis s) _ h in
    let l : Bool = not (shut (t ++ blank_if r)) && starts_with_white s in
    let start : Bool = line_start (opts_at item o) (t ++ blank_if r) in
    let X : Bytes = blank_if r ++ (blank_if l ++ spelled start (words s)) in
    told_text k s rest p r l start t _ (lead_open r (starts_with_white s) t) (lead_shut r (starts_with_white s) t) b
    (subst (λ (v : Bytes). Told k false false (ends_with_white s) rest (t ++ X) (write_nodes (at (suc m)) anc (opts_at item o) rest v).text)
    (sym (text_out item o s t r (q.digits refl) (beside_plain s b)))
    (told_all k m anc item o rest false false (ends_with_white s) (t ++ X)
    (subst (λ (v : Bytes). Place false false (ends_with_white s) (t ++ v)) (append_assoc (blank_if r) (blank_if l) (spelled start (words s))) (behind_text s t start (blank_if r ++ blank_if l) b))
    (and_r (beside_emphasis s) _ h)))
told_all k m anc item o (comment s rest) true p r t q h = absurd (false≢true h)
told_all k m anc item o (comment s rest) false p r t q h = absurd (false≢true h)
told_all k m anc item o (element name attrs kids rest) true p r t q h = absurd (false≢true h)
told_all k m anc item o (element name attrs kids rest) false p r t q h =
    let s : Bytes = first_text kids in
    let c : (is_emphasis (tag_of name) && one_text (emphasis_text (p || r) (blank_next rest)) kids) ≡ true = and_l (is_emphasis (tag_of name) && one_text (emphasis_text (p || r) (blank_next rest)) kids) _ h in
    let i : is_emphasis (tag_of name) ≡ true = and_l (is_emphasis (tag_of name)) _ c in
    let one : one_text (emphasis_text (p || r) (blank_next rest)) kids ≡ true = and_r (is_emphasis (tag_of name)) _ c in
    let M : Bytes = marks (is_strong (tag_of name)) in
    let b : Bool = starts_with_white s && not (ends_with (ascii " ") (t ++ blank_if r)) in
    let E : Bytes = spelled true (words s) in
    let X : Bytes = (blank_if r ++ blank_if b) ++ (M ++ (E ++ M)) in
    let x : Bytes = t ++ ((blank_if r ++ blank_if b) ++ (M ++ E)) in
    let e : x ++ M ≡ t ++ X = simp append_assoc in
    told_mark k name attrs kids rest p r b t _ one (λ n z v. q.base refl (blank_there r (starts_with_white s) t n z v)) (λ v. ap (λ (z : Bool). z && not (ends_with (ascii " ") (t ++ blank_if r))) v)
    (ap shut (sym e) ∙ shut_star (extra (is_strong (tag_of name))) x)
    (subst (λ (v : Bytes). Told k true false (ends_with_white s) rest (t ++ X) (write_nodes (at (suc m)) anc (opts_at item o) rest v).text)
    (sym (mark_out m anc item o name attrs kids t p (p || r) (blank_next rest) r q i one))
    (told_all k m anc item o rest true false (ends_with_white s) (t ++ X)
    (subst (λ (v : Bytes). Place true false (ends_with_white s) v) e (behind_mark (extra (is_strong (tag_of name))) x (ends_with_white s)))
    (turns_text (ends_with_white s) false rest ∙ and_r (is_emphasis (tag_of name) && one_text (emphasis_text (p || r) (blank_next rest)) kids) _ h)))
