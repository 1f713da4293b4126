-- The line of an item: it opens the item at its content column, with its number and its words.
use Rattle.std.specs.Prelude.{ℕ, zero, suc, ◌+◌, ◌≤◌, ◌<◌, min, ◌≡◌, refl, Bool, true, false, ◌&&◌, List, [], ◌∷◌, ◌++◌, map, leb, length, replicate}
use Rattle.std.proofs.Common.{arith, zero-add, ap, ◌∙◌, leb-true, leb-false, le-leb}
use Rattle.std.proofs.Math.Bool.{and-false}
use Rattle.std.proofs.lemmas.Bool.{false≢true, lt-leb}
use Rattle.std.proofs.Math.Option.{Option, none, some}
use Rattle.spec.specs.Bytes.{Bytes, null, every, decimal}
use Rattle.spec.specs.Entries.{Piece, word, Entry, item}
use Rattle.spec.specs.ListNumber.{largest_number}
use Rattle.spec.specs.Reading.Lines.{space_or_tab, blank_line, column, width, strip, drop_while}
use Rattle.spec.specs.Reading.Starts.{start_in}
use Rattle.spec.specs.Reading.Held.{state, Leaf, text_leaf, item_role, closed, text_entries, is_raw, is_fresh, is_paragraph, is_table, is_quote, add_line, with_line}
use Rattle.spec.specs.Reading.Step.{kept, all_kept, base, content_column, text_by, goes_on, text_line, opened, item_line, line_by, line_in, line, leaf_step, step_by, step}
use Rattle.spec.specs.Decimal.{length_least}
use Rattle.spec.proofs.Tests.{and_l, and_r}
use Rattle.recovery.proofs.Digits.{Near, decimal_next}
use Rattle.recovery.proofs.Words.{plain_words}
use Rattle.recovery.proofs.Escapes.{inline_phrase}
use Rattle.recovery.proofs.Starts.{start_phrase}
use Rattle.recovery.proofs.Markers.{opens, opens_phrase, opens_definition, opens_solid, solid, indented_blank, indented_column, indented_strip, marker_width, small_number, start_item, marker_solid}
use Rattle.recovery.specs.Closed as closed
use Rattle.recovery.specs.Closed.{phrase, marker, deeper, interrupts}

-- ---- columns

pub base_last : (b c : ℕ) (ks : List ℕ) → base b (ks ++ (c ∷ [])) ≡ c
unfolding base
base_last b c [] = refl
base_last b c (k ∷ ks) = base_last k c ks

-- behind an item's marker stands one blank, and then its content
unfoldable pub content : ℕ → Option ℕ → ℕ
content i number = suc (i + marker_width number)

pub behind_column : (m : ℕ) (t : Bytes) → solid t ≡ true → column m (32 ∷ t) ≡ suc m
unfolding column space_or_tab width
behind_column m t h = indented_column (m + 1) 0 t h ∙ omega arith

pub behind_strip : (t : Bytes) → solid t ≡ true → strip (32 ∷ t) ≡ t
unfolding strip drop_while space_or_tab
behind_strip t h = indented_strip 0 t h

pub behind_blank : (t : Bytes) → solid t ≡ true → blank_line (32 ∷ t) ≡ false
unfolding blank_line every space_or_tab
behind_blank t h = indented_blank 0 t h

pub content_next : (m : ℕ) → content_column m (suc m) ≡ suc m
unfolding content_column
content_next m = rw (le-leb (suc m) (m + 4) (omega arith))

-- ---- the words of an item begin it

line_words : (f c : ℕ) (ks : List ℕ) (o : List Entry) (d : ℕ) (number : Option ℕ) (w : Bytes) (ws : List Bytes) → plain_words (w ∷ ws) ≡ true
    → line (suc f) true (ks ++ (c ∷ [])) c (phrase (w ∷ ws)) o (ks ++ (c ∷ [])) (text_leaf (item_role d number) [])
    ≡ state o (ks ++ (c ∷ [])) (text_leaf (item_role d number) (phrase (w ∷ ws)))
unfolding line line_in is_paragraph null start_in line_by text_line text_by goes_on is_fresh is_table is_quote add_line with_line
line_words f c ks o d number w ws h = rw (base_last 0 c ks, lt-leb (c + 4) c (omega arith), start_phrase w ws h)

-- ---- the line

pub line_some : (i : ℕ) (t : Bytes) → solid t ≡ true → (n : ℕ) × (length (replicate i 32 ++ t) ≡ suc n)
line_some zero [] h = unfold solid in absurd (false≢true h)
line_some zero (b ∷ t) h = (length t, refl)
line_some (suc i) t h = (length (replicate i 32 ++ t), refl)

line_item : (f : ℕ) (all : Bool) (ks : List ℕ) (i : ℕ) (number : Option ℕ) (w : Bytes) (ws : List Bytes) (o : List Entry) (op : List ℕ) (lf : Leaf)
    → i < base 0 ks + 4
    → small_number number ≡ true
    → plain_words (w ∷ ws) ≡ true
    → ((all && is_paragraph lf) ≡ true → interrupts number ≡ true)
    → line (suc (suc f)) all ks i (marker number ++ phrase (w ∷ ws)) o op lf
    ≡ state (o ++ closed lf) (ks ++ (content i number ∷ [])) (text_leaf (item_role (suc (length ks)) number) (phrase (w ∷ ws)))
unfolding line line_in line_by item_line opened content
line_item f all ks i number w ws o op lf near small plain ready =
    let t : Bytes = phrase (w ∷ ws) in
    let begins : opens t ≡ true = opens_phrase w ws plain in
    let s : solid t ≡ true = opens_solid t begins in
    rw (
      lt-leb (base 0 ks + 4) i near,
      start_item (all && is_paragraph lf) number t small begins ready,
      behind_blank t s,
      behind_column (i + marker_width number) t s,
      behind_strip t s,
      content_next (i + marker_width number),
    )
    (line_words f (suc (i + marker_width number)) ks (o ++ closed lf) (suc (length ks)) number w ws plain)

-- if a paragraph is open with which the line would go on, the item can interrupt it
pub step_item : (o : List Entry) (op : List ℕ) (lf : Leaf) (i : ℕ) (number : Option ℕ) (w : Bytes) (ws : List Bytes)
    → is_raw lf ≡ false
    → i < base 0 (kept i op) + 4
    → small_number number ≡ true
    → plain_words (w ∷ ws) ≡ true
    → ((all_kept i op && is_paragraph lf) ≡ true → interrupts number ≡ true)
    → step (state o op lf) (closed.item_line i number (w ∷ ws))
    ≡ state (o ++ closed lf) (kept i op ++ (content i number ∷ []))
    (text_leaf (item_role (suc (length (kept i op))) number) (phrase (w ∷ ws)))
unfolding closed.item_line step step_by leaf_step
step_item o op lf i number w ws raw near small plain ready =
    let t : Bytes = phrase (w ∷ ws) in
    let first : solid (marker number ++ t) ≡ true = marker_solid number t in
    let some : (n : ℕ) × (length (replicate i 32 ++ (marker number ++ t)) ≡ suc n) = line_some i (marker number ++ t) first in
    rw (
      raw,
      indented_blank i (marker number ++ t) first,
      indented_column 0 i (marker number ++ t) first,
      indented_strip i (marker number ++ t) first,
      zero-add i,
      some.1,
    )
    (line_item some.0 (all_kept i op) (kept i op) i number w ws o op lf near small plain ready)

-- ---- content columns of nested items

next_digits : (n : ℕ) → n ≤ 999999999 → Near (length (decimal n)) (length (decimal (min (suc n) 999999999)))
next_digits n h = go (leb (suc n) 999999999) refl
  where
    go : (t : Bool) → leb (suc n) 999999999 ≡ t → Near (length (decimal n)) (length (decimal (min (suc n) 999999999)))
    go true e =
        let same : min (suc n) 999999999 ≡ suc n = omega (arith, leb-true (suc n) 999999999 e) in
        rw same (decimal_next n)
    go false e =
        let same : min (suc n) 999999999 ≡ n = omega (arith, leb-false (suc n) 999999999 e) in
        rw same (omega arith)

-- an item's lists stand at its content column or less than four columns behind it
pub deeper_near : (i : ℕ) (number : Option ℕ) → small_number number ≡ true
    → (content i number ≤ i + deeper number) × (i + deeper number < content i number + 4)
unfolding content deeper marker_width small_number largest_number
deeper_near i none h = omega arith
deeper_near i (some n) h =
    let next : Near (length (decimal n)) (length (decimal (min (suc n) 999999999))) = next_digits n (leb-true n 999999999 h) in
    omega (arith, length_least n)

pub content_beyond : (i : ℕ) (number : Option ℕ) → i < content i number
unfolding content
content_beyond i number = omega arith

-- all columns up to i go on at i
pub all_kept_lem : (i : ℕ) (ks : List ℕ) → all_kept i ks ≡ true → kept i ks ≡ ks
unfolding kept all_kept
all_kept_lem i [] h = refl
all_kept_lem i (k ∷ ks) h = rw (and_l (leb k i) _ h) (ap (λ (l : List ℕ). k ∷ l) (all_kept_lem i ks (and_r (leb k i) _ h)))

-- and those from the first that stands beyond it do not
pub kept_before : (i c : ℕ) (ks rest : List ℕ) → all_kept i ks ≡ true → i < c → kept i (ks ++ (c ∷ rest)) ≡ ks
unfolding kept all_kept
kept_before i c [] rest h l = rw (lt-leb c i l)
kept_before i c (k ∷ ks) rest h l =
    rw (and_l (leb k i) _ h) (ap (λ (l : List ℕ). k ∷ l) (kept_before i c ks rest (and_r (leb k i) _ h) l))

pub not_all_kept : (i c : ℕ) (ks rest : List ℕ) → i < c → all_kept i (ks ++ (c ∷ rest)) ≡ false
unfolding all_kept
not_all_kept i c [] rest l = rw (lt-leb c i l)
not_all_kept i c (k ∷ ks) rest l = rw (not_all_kept i c ks rest l) (and-false (leb k i))

pub all_kept_more : (i j c : ℕ) (ks : List ℕ) → all_kept i ks ≡ true → i ≤ j → c ≤ j → all_kept j (ks ++ (c ∷ [])) ≡ true
unfolding all_kept
all_kept_more i j c [] h l m = rw (le-leb c j m)
all_kept_more i j c (k ∷ ks) h l m =
    rw (le-leb k j (omega (arith, leb-true k i (and_l (leb k i) _ h)))) (all_kept_more i j c ks (and_r (leb k i) _ h) l m)

-- ---- what the item gives

pub item_closed : (d : ℕ) (number : Option ℕ) (w : Bytes) (ws : List Bytes) → plain_words (w ∷ ws) ≡ true
    → closed (text_leaf (item_role d number) (phrase (w ∷ ws))) ≡ item d number (map word (w ∷ ws)) ∷ []
unfolding closed text_entries
item_closed d number w ws h =
    rw (opens_definition (phrase (w ∷ ws)) (opens_phrase w ws h))
    (ap (λ (ps : List Piece). item d number ps ∷ []) (inline_phrase (w ∷ ws) h))
