-- The first and last bytes of phrases, markers and items, and the lines of lists: none begins or ends with a white byte.
use Rattle.std.specs.Prelude.{ℕ, ◌+◌, ◌≤◌, ◌≡◌, refl, Bool, true, false, ◌&&◌, List, [], ◌∷◌, ◌++◌, length, replicate}
use Rattle.std.proofs.Common.{arith, ◌∙◌, true≢false, append-nil, append_assoc}
use Rattle.std.proofs.Math.Bool.{not}
use Rattle.std.proofs.lemmas.Bool.{false≢true, not-true}
use Rattle.std.proofs.Math.Option.{Option, none, some}
use Rattle.spec.specs.Bytes.{Bytes, ascii, null, every, white, isin, digit, words, join, decimal}
use Rattle.spec.specs.Decimal.{length_least}
use Rattle.spec.specs.Names.{tag_of}
use Rattle.spec.specs.Tree.{Forest, nothing, text, comment, element}
use Rattle.spec.specs.ListNumber.{first_due, item_number, next_due}
use Rattle.spec.specs.Plain.{plain_text, no_node, items, item_content, lists}
use Rattle.spec.specs.Md.TextUtils.{escaped_chunk, more_words}
use Rattle.spec.proofs.Tests.{and_l, and_r, isin_no, every_imp}
use Rattle.recovery.proofs.Digits.{decimal_digits}
use Rattle.recovery.proofs.Words.{plain_byte, plain_word, plain_words, plain_bytes, text_words, text_some}
use Rattle.recovery.proofs.Escapes.{Esc, chunk_Esc, every_Esc, null_Esc}
use Rattle.recovery.proofs.Clean.{some_app}
use Rattle.recovery.proofs.Lists.{ItemOk, item_ok, ListOk, list_ok}
use Rattle.recovery.specs.Closed.{phrase, marker, deeper, item_line, list_interrupts, items_lines, content_lines, lists_lines}
use Rattle.recovery.proofs.Written.Ends.{last_is, first_is, last_keep, last_none, first_app}
use Rattle.recovery.proofs.Written.Lines.{join_first, tidy, tidy_nil, tidy_cons, tidy_app, tidy_spaced}

-- ---- a word

plain_visible : (b : ℕ) → plain_byte b ≡ true → not (white b) ≡ true
unfolding plain_byte
plain_visible b h = and_l (not (white b)) _ h

pub word_some : (w : Bytes) → plain_word w ≡ true → null w ≡ false
unfolding plain_word
word_some w h = not-true (null w) (and_l (not (null w)) _ h)

-- what is written of a word has no white byte
pub word_visible : {e : Bytes} (w : Bytes) → Esc e w → plain_word w ≡ true → every (λ b. not (white b)) e ≡ true
word_visible w q h =
    every_Esc (λ b. not (white b)) (unfold white isin in refl) q (every_imp plain_byte (λ b. not (white b)) w plain_visible (plain_bytes w h))

pub word_last : {e : Bytes} (w : Bytes) → Esc e w → plain_word w ≡ true → last_is white e ≡ false
word_last {e} w q h = last_none white e (word_visible w q h) (null_Esc q ∙ word_some w h)

first_none : (p : ℕ → Bool) (e : Bytes) → every (λ b. not (p b)) e ≡ true → null e ≡ false → first_is p e ≡ false
unfolding every first_is null
first_none p [] h n = absurd (true≢false n)
first_none p (b ∷ e) h n = not-true (p b) (and_l (not (p b)) _ h)

-- ---- words

pub more_last : (x : Bytes) (ws : List Bytes) → plain_words ws ≡ true → last_is white x ≡ false → last_is white (x ++ more_words true ws) ≡ false
unfolding plain_words more_words
more_last x [] h k = rw (append-nil x) k
more_last x (w ∷ ws) h k =
    let p : plain_word w ≡ true = and_l (plain_word w) _ h in
    let c : Bytes = escaped_chunk w true false in
    let l : last_is white c ≡ false = word_last w (chunk_Esc false w (plain_bytes w p)) p in
    rw (← append_assoc x (32 ∷ c) (more_words true ws))
    (more_last (x ++ (32 ∷ c)) ws (and_r (plain_word w) _ h) (last_keep white x (32 ∷ c) (last_keep white (32 ∷ []) c l)))

pub phrase_first : (ws : List Bytes) → plain_words ws ≡ true → null ws ≡ false → first_is white (phrase ws) ≡ false
unfolding plain_words phrase null
phrase_first [] h n = absurd (true≢false n)
phrase_first (w ∷ ws) h n =
    let p : plain_word w ≡ true = and_l (plain_word w) _ h in
    let q : Esc (escaped_chunk w true true) w = chunk_Esc true w (plain_bytes w p) in
    first_app white (escaped_chunk w true true) (more_words true ws)
    (first_none white (escaped_chunk w true true) (word_visible w q p) (null_Esc q ∙ word_some w p))

pub phrase_last : (ws : List Bytes) → plain_words ws ≡ true → null ws ≡ false → last_is white (phrase ws) ≡ false
unfolding plain_words phrase null
phrase_last [] h n = absurd (true≢false n)
phrase_last (w ∷ ws) h n =
    let p : plain_word w ≡ true = and_l (plain_word w) _ h in
    more_last (escaped_chunk w true true) ws (and_r (plain_word w) _ h) (word_last w (chunk_Esc true w (plain_bytes w p)) p)

pub text_last : (s : Bytes) → plain_text s ≡ true → last_is white (phrase (words s)) ≡ false
text_last s h = phrase_last (words s) (text_words s h) (text_some s h)

pub text_first : (s : Bytes) → plain_text s ≡ true → first_is white (phrase (words s)) ≡ false
text_first s h = phrase_first (words s) (text_words s h) (text_some s h)

-- ---- markers and items

digits_first : (ds t : Bytes) → every digit ds ≡ true → 1 ≤ length ds → first_is white (ds ++ t) ≡ false
unfolding every first_is digit white isin
digits_first [] t h k = absurd (omega arith)
digits_first (b ∷ ds) t h k = isin_no digit b (9 ∷ 10 ∷ 12 ∷ 13 ∷ 32 ∷ []) (and_l (digit b) _ h) refl

pub marker_first : (number : Option ℕ) (t : Bytes) → first_is white (marker number ++ t) ≡ false
unfolding marker first_is white isin
marker_first none t = refl
marker_first (some n) t = rw (append_assoc (decimal n) (46 ∷ 32 ∷ []) t) (digits_first (decimal n) (46 ∷ 32 ∷ t) (decimal_digits n) (length_least n))

pub item_last : (i : ℕ) (number : Option ℕ) (s : Bytes) → plain_text s ≡ true → last_is white (item_line i number (words s)) ≡ false
unfolding item_line
item_last i number s h =
    last_keep white (replicate i 32) (marker number ++ phrase (words s)) (last_keep white (marker number) (phrase (words s)) (text_last s h))

-- ---- the lines of lists

content_some : (kids : Forest) (i : ℕ) (number : Option ℕ) → item_content kids ≡ true → null (content_lines kids i number) ≡ false
unfolding item_content content_lines null
content_some nothing i number h = absurd (false≢true h)
content_some (text s rest) i number h = refl
content_some (comment s rest) i number h = absurd (false≢true h)
content_some (element name attrs kids rest) i number h = absurd (false≢true h)

pub items_some : (f : Forest) (i : ℕ) (due : Option ℕ) → items f due ≡ true → no_node f ≡ false → null (items_lines f i due) ≡ false
unfolding items_lines no_node items
items_some nothing i due h n = absurd (true≢false n)
items_some (text s rest) i due h n = absurd (false≢true h)
items_some (comment s rest) i due h n = absurd (false≢true h)
items_some (element name attrs kids rest) i due h n =
    some_app (content_lines kids i (item_number due attrs)) _ (content_some kids i (item_number due attrs) (item_ok due name attrs kids rest h).inner)

-- the items of a list that begins a line begin with a marker
content_begin : (kids : Forest) (number : Option ℕ) (more : List Bytes) → item_content kids ≡ true → first_is white (join (ascii "\n") (content_lines kids 0 number ++ more)) ≡ false
unfolding item_content content_lines item_line
content_begin nothing number more h = absurd (false≢true h)
content_begin (text s rest) number more h =
    join_first white (marker number ++ phrase (words s)) (lists_lines rest (0 + deeper number) true ++ more) (marker_first number (phrase (words s)))
content_begin (comment s rest) number more h = absurd (false≢true h)
content_begin (element name attrs kids rest) number more h = absurd (false≢true h)

pub items_begin : (f : Forest) (due : Option ℕ) → items f due ≡ true → no_node f ≡ false → first_is white (join (ascii "\n") (items_lines f 0 due)) ≡ false
unfolding items_lines no_node items
items_begin nothing due h n = absurd (true≢false n)
items_begin (text s rest) due h n = absurd (false≢true h)
items_begin (comment s rest) due h n = absurd (false≢true h)
items_begin (element name attrs kids rest) due h n =
    content_begin kids (item_number due attrs) (items_lines rest 0 (next_due (item_number due attrs))) (item_ok due name attrs kids rest h).inner

mutual
  unfolding items_lines content_lines lists_lines items item_content lists

  pub items_tidy : (f : Forest) (i : ℕ) (due : Option ℕ) → items f due ≡ true → tidy (items_lines f i due) ≡ true
  items_tidy nothing i due h = tidy_nil
  items_tidy (text s rest) i due h = absurd (false≢true h)
  items_tidy (comment s rest) i due h = absurd (false≢true h)
  items_tidy (element name attrs kids rest) i due h =
      let ok : ItemOk due name attrs kids rest = item_ok due name attrs kids rest h in
      tidy_app (content_lines kids i (item_number due attrs)) (items_lines rest i (next_due (item_number due attrs)))
      (content_tidy kids i (item_number due attrs) ok.inner) (items_tidy rest i (next_due (item_number due attrs)) ok.others)

  pub content_tidy : (kids : Forest) (i : ℕ) (number : Option ℕ) → item_content kids ≡ true → tidy (content_lines kids i number) ≡ true
  content_tidy nothing i number h = absurd (false≢true h)
  content_tidy (text s rest) i number h =
      tidy_cons (item_line i number (words s)) (lists_lines rest (i + deeper number) true) (item_last i number s (and_l (plain_text s) _ h))
      (lists_tidy rest (i + deeper number) true (and_r (plain_text s) _ h))
  content_tidy (comment s rest) i number h = absurd (false≢true h)
  content_tidy (element name attrs kids rest) i number h = absurd (false≢true h)

  pub lists_tidy : (f : Forest) (j : ℕ) (first : Bool) → lists f ≡ true → tidy (lists_lines f j first) ≡ true
  lists_tidy nothing j first h = tidy_nil
  lists_tidy (text s rest) j first h = absurd (false≢true h)
  lists_tidy (comment s rest) j first h = absurd (false≢true h)
  lists_tidy (element name attrs kids rest) j first h =
      let ok : ListOk name attrs kids rest = list_ok name attrs kids rest h in
      let due : Option ℕ = first_due (tag_of name) attrs in
      let ls : List Bytes = items_lines kids j due in
      tidy_spaced (first && list_interrupts due kids) (ls ++ lists_lines rest j false)
      (some_app ls _ (items_some kids j due ok.inner ok.some_item))
      (tidy_app ls (lists_lines rest j false) (items_tidy kids j due ok.inner) (lists_tidy rest j false ok.others))
