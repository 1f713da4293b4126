-- The parts of a normalized text.
use Prim.Native.Nat.{ℕ, zero, suc, ◌+◌, ◌-◌, ◌≤◌, ◌<◌}
use mathlib.Core.Path.{◌≡◌, refl, sym, ap, ap₂, ◌∙◌}
use mathlib.Core.Bool.{Bool, true, false, cond, not, ◌&&◌, ◌||◌, and-false, and-true, and_assoc, and-eq-true_iff}
use mathlib.Core.List.{List, [], ◌∷◌, ◌++◌, append_assoc, append-nil}
use native.Mathlib.Omega.{arith}
use lib.ListN.{length, take, drop, get_or}
use lib.Dec.{eqb, ltb}
use lib.Seq.{slice, length-slice, take-length, drop_at}
use borrow.Author.Tests.{eq-eqb, ne_eqb, eqb-true, eqb-false, ltb-true, ltb-false}
use Rattle.spec.specs.Bytes.{ascii, null, every, ends_with, is_blank, white, words, split, parts, filled}
use Rattle.spec.specs.Out.{push}
use Rattle.spec.specs.Md.TextUtils.{ends_with_marker_digits, push_normalized_text, normalized, normalized_words, starts_with_white, ends_with_white, escaped_chunk, more_words}
use Rattle.spec.specs.declared.ctx.FormatOpts.{FormatOpts}
use Rattle.text.specs.Marks.{lead_of, dot_word, lead_text, blank_text, line_start}
use Rattle.text.specs.Class.{ordinary}
use Rattle.text.specs.Flow.{starts_black, flow, flow_before}
use Rattle.normalized.specs.Words.{WordAt, WordEnd}
use Rattle.normalized.specs.Layout.{LineSign, Laid}
use Rattle.text.proofs.Sourcing.{part_none}
use Rattle.normalized.proofs.Flowing.{added_ordinary, words_flow}
use Rattle.normalized.proofs.Streaming.{begins_some, flow_from}
use Rattle.normalized.proofs.Wording.{slice_front}
use Rattle.input.proofs.Rules.{null_length}

module _ (opts : FormatOpts) (text : List ℕ) (white dot e : Bool) (q : e ≡ ends_with (10 ∷ []) text || ends_with (32 ∷ []) text) where
  abbrev tested : Bool
  tested = (opts.inline || not (e || eqb (length text) 0)) && white

  lead_tested : lead_text opts text white dot ≡ cond tested (ascii " ") (cond ((not opts.skip_escape && dot) && ends_with_marker_digits text) (ascii "\\") [])
  lead_tested = rw (sym q, null_length, sym (and_assoc (not opts.skip_escape) dot (ends_with_marker_digits text)))

  pub lead_blank_lem : tested ≡ true → (32 ∷ []) ≡ lead_text opts text white dot
  lead_blank_lem h = sym (lead_tested ∙ rw h)

  pub lead_none : tested ≡ false → not opts.skip_escape && dot ≡ false → [] ≡ lead_text opts text white dot
  lead_none h k = sym (lead_tested ∙ rw (h, k))

  pub lead_slash : (m : Bool) → tested ≡ false → not opts.skip_escape && dot ≡ true → m ≡ ends_with_marker_digits text → m ≡ true → (92 ∷ []) ≡ lead_text opts text white dot
  lead_slash m h k z w = sym (lead_tested ∙ rw (h, k, sym z, w))

  pub lead_plain : (m : Bool) → tested ≡ false → not opts.skip_escape && dot ≡ true → m ≡ ends_with_marker_digits text → m ≡ false → [] ≡ lead_text opts text white dot
  lead_plain m h k z w = sym (lead_tested ∙ rw (h, k, sym z, w))

-- a byte is wanted unless it is 0
pub lead_is : (b : ℕ) → lead_of b ≡ cond (not (eqb b 0)) (b ∷ []) []
lead_is b = on (eqb b 0)
  where
    on : (t : Bool) → cond t [] (b ∷ []) ≡ cond (not t) (b ∷ []) []
    on true = refl
    on false = refl

-- ---- the options

words_opts : (o p : FormatOpts) (text s : List ℕ) (ws : List (List ℕ)) → o.inline ≡ p.inline → o.skip_escape ≡ p.skip_escape → o.list_item ≡ p.list_item → normalized_words o text s ws ≡ normalized_words p text s ws
unfolding normalized_words
words_opts o p text s [] a b c = refl
words_opts o p text s (w ∷ ws) a b c = rw (a, b, c)

-- three of them matter
pub normal_opts : (o p : FormatOpts) (s text : List ℕ) → o.inline ≡ p.inline → o.skip_escape ≡ p.skip_escape → o.list_item ≡ p.list_item → push_normalized_text s o text ≡ push_normalized_text s p text
unfolding push_normalized_text normalized
normal_opts o p s text a b c = rw (words_opts o p text s (words s) a b c)

-- ---- the text

-- a text of white bytes
normal_blank : (opts : FormatOpts) (text s : List ℕ) (i to r : ℕ) (some : Bool) → WordAt s i to r → r ≡ to → to ≤ length s → some ≡ not (eqb i to) → push_normalized_text (slice i to s) opts text ≡ push (blank_text text some) text
unfolding push_normalized_text normalized normalized_words words split parts filled null
normal_blank opts text s i to r some w e l f =
    let a : is_blank (slice i to s) ≡ true = w.all_white ∙ eq-eqb r to e in
    let b : words (slice i to s) ≡ [] = w.same_words ∙ ap words (part_none r to s (omega arith)) in
    let n : not (null (slice i to s)) ≡ some = ap not (null_length (slice i to s) ∙ ends) ∙ sym f in
    rw (a, b, n, and-true)
  where
    ends : eqb (length (slice i to s)) 0 ≡ eqb i to
    ends = go (eqb i to) refl
      where
        go : (t : Bool) → eqb i to ≡ t → eqb (length (slice i to s)) 0 ≡ t
        go true z = eq-eqb (length (slice i to s)) 0 (omega (arith, eqb-true i to z, length-slice i to s l))
        go false z = ne_eqb (length (slice i to s)) 0 (λ q. eqb-false i to z (omega (arith, length-slice i to s l, w.from, w.within)))

-- a text of words
normal_words : (opts : FormatOpts) (text s first : List ℕ) (more : List (List ℕ)) (white dot start : Bool) (lead : ℕ) (last : Bool)
    → is_blank s ≡ false → words s ≡ first ∷ more → starts_with_white s ≡ white → dot ≡ dot_word first → lead_of lead ≡ lead_text opts text white dot → start ≡ line_start opts text → last ≡ ends_with_white s
    → push_normalized_text s opts text ≡ push (lead_of lead ++ (escaped_chunk first (not opts.skip_escape) start ++ (more_words (not opts.skip_escape) more ++ cond last (ascii " ") []))) text
unfolding push_normalized_text normalized normalized_words
normal_words opts text s first more white dot start lead last a b c d e f g =
    rw (a, b, c, and-false, and-false)
    (ap (λ (x : List ℕ). push (x ++ (escaped_chunk first (not opts.skip_escape) (line_start opts text) ++ (more_words (not opts.skip_escape) more ++ cond (ends_with_white s) (ascii " ") []))) text)
    (ap (lead_text opts text white) (sym d) ∙ sym e)
    ∙ ap (λ (x : Bool). push (lead_of lead ++ (escaped_chunk first (not opts.skip_escape) x ++ (more_words (not opts.skip_escape) more ++ cond (ends_with_white s) (ascii " ") []))) text) (sym f)
    ∙ ap (λ (x : Bool). push (lead_of lead ++ (escaped_chunk first (not opts.skip_escape) start ++ (more_words (not opts.skip_escape) more ++ cond x (ascii " ") []))) text) (sym g))

-- ---- the first word in the flow

-- elsewhere than at the beginning of a line it is like the words behind it
flow_first : (escape : Bool) (s w : List ℕ) (ws : List (List ℕ)) → words s ≡ w ∷ ws → starts_black s ≡ true → escaped_chunk w escape false ++ more_words escape ws ≡ flow escape s
unfolding more_words
flow_first escape s w ws e b = ap (drop 1) (sym (ap (more_words escape) e) ∙ words_flow s b escape)

-- ordinary bytes add themselves
flow_bare : (escape : Bool) (p rest : List ℕ) → every ordinary p ≡ true → flow_before escape p rest ≡ p
unfolding flow_before every
flow_bare escape [] rest h = refl
flow_bare escape (b ∷ p) rest h =
    let q = (and-eq-true_iff (ordinary b) (every ordinary p)).0 h in
    ap₂ (λ (x y : List ℕ). x ++ y) (added_ordinary escape b (p ++ rest) q.0) (flow_bare escape p rest q.1)

module _ (s : List ℕ) (escape start : Bool) (at end k mark : ℕ) (a : at < length s) (black : white (get_or s at 0) ≡ false) (e : WordEnd s at (length s) end) (l : LineSign (slice at end s) (escape && start) k)
    (low : at ≤ mark) (high : mark ≤ length s) (here : k < end - at → mark ≡ at + k) where
  abbrev word : List ℕ
  word = slice at end s

  abbrev more : List ℕ
  more = more_words escape (words (slice end (length s) s))

  abbrev tail : List ℕ
  tail = slice mark (length s) s

  abbrev head : List ℕ
  head = flow_before escape (slice at mark s) tail

  word_long : length word ≡ end - at
  word_long = length-slice at end s e.within

  inside : escaped_chunk word escape false ++ more ≡ head ++ flow escape tail
  inside =
      flow_first escape (slice at (length s) s) word (words (slice end (length s) s)) e.first (sym (begins_some at (length s) s a (omega arith)) ∙ ap not black)
      ∙ flow_from s escape at mark low high

  no_sign : (o b : Bool) → o ≡ escape → b ≡ start → k ≡ length word → escaped_chunk word o b ≡ escaped_chunk word o false
  unfolding escaped_chunk
  no_sign false b p q z = refl
  no_sign true b p q z = ap (escaped_chunk word true) (q ∙ ap (λ (x : Bool). x && start) p) ∙ l.none z

  with_sign : k < end - at → escaped_chunk word escape start ++ more ≡ head ++ (ascii "\\" ++ flow escape tail)
  with_sign h =
      let m = l.some (omega (arith, word_long)) in
      let both = (and-eq-true_iff escape start).0 m.begins in
      let x = take k word in
      let part : slice at mark s ≡ x = ap (λ (j : ℕ). slice at j s) (here h) ∙ sym (slice_front s at end k (omega (arith, e.some))) in
      let bare : head ≡ x = ap (λ (p : List ℕ). flow_before escape p tail) part ∙ flow_bare escape x tail m.bare in
      let split : x ++ (m.rest ++ more) ≡ x ++ flow escape tail =
      sym (append_assoc x m.rest more) ∙ ap (λ (y : List ℕ). y ++ more) (sym m.without ∙ ap (λ (o : Bool). escaped_chunk word o false) (sym both.0))
      ∙ inside ∙ ap (λ (y : List ℕ). y ++ flow escape tail) bare in
      let rest : m.rest ++ more ≡ flow escape tail = sym (drop_at x (m.rest ++ more) (length x) refl) ∙ ap (drop (length x)) split ∙ drop_at x (flow escape tail) (length x) refl in
      ap (λ (y : List ℕ). y ++ more) (ap₂ (λ (o b : Bool). escaped_chunk word o b) both.0 both.1 ∙ m.with_sign)
      ∙ append_assoc x (ascii "\\" ++ m.rest) more
      ∙ ap (λ (y : List ℕ). x ++ (ascii "\\" ++ y)) rest
      ∙ ap (λ (y : List ℕ). y ++ (ascii "\\" ++ flow escape tail)) (sym bare)

  -- the first word and those behind it are the flow, with its backslash
  pub first_flow : escaped_chunk word escape start ++ more ≡ head ++ (cond (ltb k (end - at)) (ascii "\\") [] ++ flow escape tail)
  first_flow = on (ltb k (end - at)) refl
    where
      on : (t : Bool) → ltb k (end - at) ≡ t → escaped_chunk word escape start ++ more ≡ head ++ (cond t (ascii "\\") [] ++ flow escape tail)
      on true q = with_sign (ltb-true k (end - at) q)
      on false q =
          ap (λ (x : List ℕ). x ++ more) (no_sign escape start refl refl (omega (arith, ltb-false k (end - at) q, l.within, word_long))) ∙ inside

-- ---- the layout

whole : (s : List ℕ) → slice 0 (length s) s ≡ s
whole s = take-length s

pub laid_words : (opts : FormatOpts) (text s : List ℕ) (at end k mark : ℕ) (dot start : Bool) (lead : ℕ) (last : Bool) → WordAt s 0 (length s) at → (at ≡ length s → ⊥) → WordEnd s at (length s) end
    → dot ≡ dot_word (slice at end s) → lead_of lead ≡ lead_text opts text (not (eqb at 0)) dot → start ≡ line_start opts text → LineSign (slice at end s) (not opts.skip_escape && start) k
    → at ≤ mark → mark ≤ length s → (k < end - at → mark ≡ at + k) → last ≡ ends_with_white s
    → Laid opts text s (record { lead = lead; at = at; mark = mark; sign = ltb k (end - at); last = last })
laid_words opts text s at end k mark dot start lead last a some e d le st sg low high here la =
    let escape = not opts.skip_escape in
    let h : at < length s = omega (arith, a.within, some) in
    let f = flow_before escape (slice at mark s) (slice mark (length s) s) in
    let sign = cond (ltb k (end - at)) (ascii "\\") [] in
    let g = flow escape (slice mark (length s) s) in
    let z = cond last (ascii " ") [] in
    let w = escaped_chunk (slice at end s) escape start in
    let more = more_words escape (words (slice end (length s) s)) in
    record {
      ordered = low;
      within = high;
      is =
          normal_words opts text s (slice at end s) (words (slice end (length s) s)) (not (eqb at 0)) dot start lead last
          (sym (ap is_blank (whole s)) ∙ a.all_white ∙ ne_eqb at (length s) some) (sym (ap words (whole s)) ∙ a.same_words ∙ e.first) (sym (ap starts_with_white (whole s)) ∙ a.begins_white) d le st la
          ∙ ap (λ (x : List ℕ). push x text)
          (ap (λ (x : List ℕ). lead_of lead ++ x) (sym (append_assoc w more z) ∙ ap (λ (x : List ℕ). x ++ z) (first_flow s escape start at end k mark h (a.black h) e sg low high here))
          ∙ regroup (lead_of lead) f sign g z);
    }
  where
    regroup : (a b c d e : List ℕ) → a ++ ((b ++ (c ++ d)) ++ e) ≡ (a ++ (b ++ c)) ++ (d ++ e)
    regroup a b c d e = simp append_assoc

-- a text of white bytes
pub laid_blank : (opts : FormatOpts) (text s : List ℕ) (at lead : ℕ) (ends : Bool) → WordAt s 0 (length s) at → at ≡ length s → ends ≡ ends_with (10 ∷ []) text || ends_with (32 ∷ []) text
    → lead_of lead ≡ cond (not ends && not (eqb at 0)) (ascii " ") [] → Laid opts text s (record { lead = lead; at = at; mark = at; sign = false; last = false })
unfolding flow flow_before
laid_blank opts text s at lead ends a z e le =
    let escape = not opts.skip_escape in
    let none : (j : ℕ) → j ≤ at → slice at j s ≡ [] = λ j h. part_none at j s h in
    let some : not (eqb at 0) ≡ not (eqb 0 (length s)) = on at (length s) z in
    record {
      ordered = omega arith;
      within = omega arith;
      is =
          ap (λ (x : List ℕ). push_normalized_text x opts text) (sym (whole s))
          ∙ normal_blank opts text s 0 (length s) at (not (eqb at 0)) a z (omega arith) some
          ∙ ap (λ (x : List ℕ). push x text) (ap (λ (t : Bool). cond (not t && not (eqb at 0)) (ascii " ") []) (sym e) ∙ sym le ∙ grown (lead_of lead)
          ∙ sym (ap₂ (λ (x y : List ℕ). (lead_of lead ++ (flow_before escape x y ++ [])) ++ (flow escape y ++ [])) (none at (omega arith)) (none (length s) (omega (arith, z)))));
    }
  where
    on : (x y : ℕ) → x ≡ y → not (eqb x 0) ≡ not (eqb 0 y)
    on x y q = ap (λ (k : ℕ). not (eqb k 0)) q ∙ turned y
      where
        turned : (y : ℕ) → not (eqb y 0) ≡ not (eqb 0 y)
        turned zero = refl
        turned (suc y) = ap not (ne_eqb (suc y) 0 (λ q. omega arith) ∙ sym (ne_eqb 0 (suc y) (λ q. omega arith)))

    grown : (x : List ℕ) → x ≡ (x ++ []) ++ []
    grown x = sym (append-nil (x ++ []) ∙ append-nil x)
