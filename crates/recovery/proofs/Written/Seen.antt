-- A plain text is more than White_Space, so that a list whose first item begins with it can interrupt a paragraph by its number.
use Rattle.std.specs.Prelude.{ℕ, ◌≡◌, refl, Bool, true, false, cond, not, ◌&&◌, ◌||◌, List, [], ◌∷◌, ◌++◌, eqb}
use Rattle.std.proofs.Common.{sym, ap, ◌∙◌, subst, true≢false, eq-eqb}
use Rattle.std.proofs.Math.Bool.{and-false, or-true}
use Rattle.std.proofs.lemmas.Bool.{false≢true, not-true}
use Rattle.std.proofs.Math.Option.{Option, none, some}
use Rattle.spec.specs.Bytes.{Bytes, ascii, null, same, isin, among, every, starts_with, white, white_space_of, is_white_space, unless, trim_end_matches, trim_end, cut_at, parts, split, filled, words, first_word}
use Rattle.spec.specs.Names as tag
use Rattle.spec.specs.Tree.{Attr, Forest, nothing, text, comment, element, attr}
use Rattle.spec.specs.ListNumber.{as_number, or_else, first_due, item_value, item_number}
use Rattle.spec.specs.Plain.{wide_blanks, begins_with_any, plain_ends, without, plain_text, items, item_content}
use Rattle.spec.specs.Md.Elements.List.{has_text_before_list, can_interrupt_paragraph}
use Rattle.spec.proofs.Tests.{and_l, and_r, or_elim, apart, same_eq, all_of, among_yes}
use Rattle.recovery.proofs.Words.{kept, plain_byte, text_kept, text_some}
use Rattle.recovery.proofs.Numbers.{number_of_lem, number_or_lem, start_of_lem}
use Rattle.recovery.proofs.Lists.{ItemOk, item_ok}
use Rattle.recovery.specs.Closed.{interrupts, list_interrupts}
use Rattle.recovery.proofs.Written.WhiteSpace.{among_wide}

unfoldable black : ℕ → Bool
black b = not (white b)

-- ---- White_Space characters

starts_app : (x r : Bytes) → starts_with x (x ++ r) ≡ true
unfolding starts_with same
starts_app [] r = refl
starts_app (b ∷ x) r = rw (eq-eqb b b refl) (starts_app x r)

begins_among : (xs : List Bytes) (c r : Bytes) → among c xs ≡ true → begins_with_any xs (c ++ r) ≡ true
unfolding among begins_with_any
begins_among [] c r h = absurd (false≢true h)
begins_among (x ∷ xs) c r h =
    or_elim (same c x) (among c xs)
    (λ e. ap (λ (t : Bool). t || begins_with_any xs (c ++ r)) (subst (λ (y : Bytes). starts_with y (c ++ r) ≡ true) (same_eq c x e) (starts_app c r)))
    (λ e. rw (begins_among xs c r e) (or-true (starts_with x (c ++ r)))) h

wide_black : (c : Bytes) → among c wide_blanks ≡ true → every black c ≡ true
unfolding all_of wide_blanks white_space_of every black white isin
wide_black c h = among_yes (every black) c wide_blanks h refl

-- no White_Space character of more than one byte begins with a white byte
pub not_high : (b c : ℕ) (r : Bytes) → white b ≡ true → is_white_space (b ∷ c ∷ r) ≡ false
unfolding is_white_space white_space_of among same white isin
not_high b c r h =
    rw (apart white b 0xC2 h refl, apart white b 0xE1 h refl, apart white b 0xE2 h refl, apart white b 0xE3 h refl, and-false (eqb b 9), and-false (eqb b 10), and-false (eqb b 11), and-false (eqb b 12), and-false (eqb b 13), and-false (eqb b 32))

-- ---- the trim of a text's end

-- what is left is the front of the text
record Front (x s : Bytes) : Type 0 where
  rest : Bytes
  is : s ≡ x ++ rest

trim_front : (q : Bytes → Bool) (s : Bytes) → Front (trim_end_matches q s) s
unfolding trim_end_matches unless
trim_front q [] = record { rest = []; is = refl }
trim_front q (b ∷ s) = go (q (b ∷ trim_end_matches q s)) (trim_front q s)
  where
    go : (t : Bool) → Front (trim_end_matches q s) s → Front (unless t (b ∷ trim_end_matches q s)) (b ∷ s)
    go true f = record { rest = b ∷ s; is = refl }
    go false f = record { rest = f.rest; is = ap (λ (y : Bytes). b ∷ y) f.is }

-- ---- the first word

parts_black : (x r : Bytes) → every black x ≡ true → (parts white (x ++ r)).0 ≡ x ++ (parts white r).0
unfolding every parts cut_at black
parts_black [] r h = refl
parts_black (b ∷ x) r h =
    rw (not-true (white b) (and_l (not (white b)) _ h)) (ap (λ (y : Bytes). b ∷ y) (parts_black x r (and_r (not (white b)) _ h)))

words_white : (b : ℕ) (s : Bytes) → white b ≡ true → words (b ∷ s) ≡ words s
unfolding words split parts cut_at filled null
words_white b s h = rw h

first_black : (b : ℕ) (s : Bytes) → white b ≡ false → first_word (words (b ∷ s)) ≡ b ∷ (parts white s).0
unfolding words split parts cut_at filled null first_word
first_black b s h = rw h

-- a text that begins with a word has not only White_Space, if the word does not begin with a blank outside ASCII
word_seen : (b : ℕ) (s : Bytes) → plain_byte b ≡ true → begins_with_any wide_blanks (b ∷ (parts white s).0) ≡ false
    → is_white_space (b ∷ trim_end s) ≡ false
unfolding trim_end every black
word_seen b s h n = go (is_white_space (b ∷ trim_end_matches is_white_space s)) refl
  where
    x : Bytes
    x = trim_end_matches is_white_space s

    f : Front x s
    f = trim_front is_white_space s

    go : (t : Bool) → is_white_space (b ∷ x) ≡ t → t ≡ false
    go true e =
        let a : among (b ∷ x) wide_blanks ≡ true = sym (among_wide b x h) ∙ e in
        let k : every black x ≡ true = and_r (not (white b)) (every black x) (wide_black (b ∷ x) a) in
        let p : (parts white s).0 ≡ x ++ (parts white f.rest).0 = ap (λ (y : Bytes). (parts white y).0) f.is ∙ parts_black x f.rest k in
        sym (begins_among wide_blanks (b ∷ x) (parts white f.rest).0 a) ∙ (ap (λ (y : Bytes). begins_with_any wide_blanks (b ∷ y)) (sym p) ∙ n)
    go false e = refl

seen : (s : Bytes) → every kept s ≡ true → null (words s) ≡ false → begins_with_any wide_blanks (first_word (words s)) ≡ false
    → null (trim_end s) ≡ false
unfolding trim_end trim_end_matches every null unless
seen [] k w n = absurd (true≢false (unfold words split parts filled in w))
seen (b ∷ s) k w n = go (white b) refl (λ v m. seen s (and_r (kept b) _ k) v m)
  where
    more : (y : Bytes) → white b ≡ true → null y ≡ false → null (unless (is_white_space (b ∷ y)) (b ∷ y)) ≡ false
    more [] e h = absurd (true≢false h)
    more (c ∷ y) e h = rw (not_high b c y e)

    go : (t : Bool) → white b ≡ t → (null (words s) ≡ false → begins_with_any wide_blanks (first_word (words s)) ≡ false → null (trim_end_matches is_white_space s) ≡ false)
        → null (unless (is_white_space (b ∷ trim_end_matches is_white_space s)) (b ∷ trim_end_matches is_white_space s)) ≡ false
    go true e ih =
        more (trim_end_matches is_white_space s) e
        (ih (ap null (sym (words_white b s e)) ∙ w) (ap (λ (l : List Bytes). begins_with_any wide_blanks (first_word l)) (sym (words_white b s e)) ∙ n))
    go false e ih =
        rw (word_seen b s (unfold plain_byte in rw e (and_l (kept b) _ k)) (ap (begins_with_any wide_blanks) (sym (first_black b s e)) ∙ n))

pub text_seen : (s : Bytes) → plain_text s ≡ true → null (trim_end s) ≡ false
unfolding plain_text plain_ends
text_seen s h =
    seen s (text_kept s h) (text_some s h)
    (not-true (begins_with_any wide_blanks (first_word (words s)))
    (and_l (not (begins_with_any wide_blanks (first_word (words s)))) _ (and_r (not (null (words s)) && without (0 ∷ 11 ∷ 38 ∷ []) s) _ h)))

-- ---- lists that can interrupt a paragraph

content_seen : (kids : Forest) → item_content kids ≡ true → has_text_before_list kids ≡ true
unfolding item_content has_text_before_list
content_seen nothing h = absurd (false≢true h)
content_seen (text s rest) h = rw (text_seen s (and_l (plain_text s) _ h))
content_seen (comment s rest) h = absurd (false≢true h)
content_seen (element name attrs kids rest) h = absurd (false≢true h)

interrupts_by : (t : Bool) (v : Option ℕ) (n : ℕ) (attrs : List Attr) → item_value attrs ≡ v
    → (not t || eqb (or_else v n) 1) ≡ interrupts (item_number (cond t (some n) none) attrs)
unfolding interrupts item_number
interrupts_by true v n attrs e = rw e
interrupts_by false v n attrs e = refl

pub list_interrupts_lem : (name : ℕ) (attrs : List Attr) (kids : Forest) → items kids (first_due name attrs) ≡ true
    → can_interrupt_paragraph name attrs kids ≡ list_interrupts (first_due name attrs) kids
unfolding can_interrupt_paragraph list_interrupts items
list_interrupts_lem name attrs nothing h = refl
list_interrupts_lem name attrs (text s rest) h = absurd (false≢true h)
list_interrupts_lem name attrs (comment s rest) h = absurd (false≢true h)
list_interrupts_lem name attrs (element li lattrs kids rest) h =
    let ok : ItemOk (first_due name attrs) li lattrs kids rest = item_ok (first_due name attrs) li lattrs kids rest h in
    rw (ok.is_li, content_seen kids ok.inner, number_of_lem (attr (ascii "value") lattrs), start_of_lem attrs, number_or_lem (as_number (attr (ascii "value") lattrs)) (or_else (as_number (attr (ascii "start") attrs)) 1))
    (unfold first_due in interrupts_by (eqb name tag.ol) (as_number (attr (ascii "value") lattrs)) (or_else (as_number (attr (ascii "start") attrs)) 1) lattrs (unfold item_value in refl))
