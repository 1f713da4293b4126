-- Questions 1 to 6 together, from field to field.
use Prim.Native.Nat.{ℕ, ◌+◌, ◌-◌, ◌≤◌, ◌<◌}
use native.Mathlib.Omega.{arith}
use mathlib.Core.Path.{◌≡◌, refl, ◌∙◌, sym}
use mathlib.Core.Bool.{Bool, true, not, ◌&&◌, and-eq-true_iff}
use lib.ListN.{length, get_or, take, drop, length-drop}
use lib.Seq.{take_all}
use lib.Dec.{eqb, leb}
use borrow.Author.Tests.{le-leb, le-ltb, leb-true, eq-eqb, eqb-true, eqb-false, ne_eqb, not-true}
use Rattle.std.specs.Prelude.{Option, None, Some, IfSome}
use Rattle.spec.specs.Bytes.{Bytes, isin}
use Rattle.spec.specs.Utf8.{is_utf8}
use Rattle.spec.specs.Fields.{fields, whole}
use Rattle.spec.specs.Questions.{
  SkipList,
  every_field,
  may_follow,
  open_after,
  no_stray,
  keep_rules,
  still_open,
  utf8_body,
  nodes_in,
  node_count,
  max_open,
  shallow,
  no_blockquote,
  question1,
  question2,
  question4,
  question5,
  question6,
  question7,
  question9,
  first_no,
  refusal,
}
use Rattle.input.specs.Spans.{length_at, span_at}
use Rattle.input.specs.Scans.{field_right, count_after, opens_blockquote}
use Rattle.input.specs.Sound.{ruled_field, sound_field, Ended, Sound, refusal_of_sound}
use Rattle.input.specs.declared.fields.Span.{Span}
use Rattle.input.proofs.Walking.{fits, whole_end}
use Rattle.input.proofs.Rules.{part_length, rules_on, still_on, kept, answer_open}
use Rattle.input.proofs.ByTag.{of_close}
use Rattle.input.proofs.Every.{every_right, every_end, count_on, count_end, depth_on, depth_end}

-- the fields before p are sound, begin `count` nodes, and leave `depth` elements open behind the tag `before`
pub record SoFar (s : Bytes) (before depth count p : ℕ) : Type 0 where
  pub short : length s ≤ 1048576
  pub inside : p ≤ length s
  pub low : depth ≤ 100
  pub counted : count ≤ p
  pub ends : whole 1 6 s ≡ whole 1 6 (drop p s)
  pub rules : keep_rules 0 0 (fields s) ≡ keep_rules before depth (fields (drop p s))
  pub still : still_open 0 (fields s) ≡ still_open depth (fields (drop p s))
  pub utf8 : every_field utf8_body (fields s) ≡ every_field utf8_body (fields (drop p s))
  pub nodes : nodes_in (fields s) ≡ count + nodes_in (fields (drop p s))
  pub levels : shallow 0 (fields s) ≡ shallow depth (fields (drop p s))
  pub plain : every_field no_blockquote (fields s) ≡ every_field no_blockquote (fields (drop p s))

pub begun : (s : Bytes) → length s ≤ 1048576 → SoFar s 0 0 0 0
begun s h =
    record {
      short = h;
      inside = omega arith;
      low = omega arith;
      counted = omega arith;
      ends = refl;
      rules = refl;
      still = refl;
      utf8 = refl;
      nodes = omega arith;
      levels = refl;
      plain = refl;
    }

-- how many elements are open behind the name of one, and behind a field that is none and no close
pub opened : (depth tag d : ℕ) → tag ≡ 1 → d ≡ depth + 1 → d ≤ 100 → (d ≡ open_after depth tag) × (d ≤ 100)
unfolding open_after
opened depth tag d one e low = (rw one (omega (arith, e)), low)

pub level : (depth tag d : ℕ) → (tag ≡ 1 → ⊥) → (tag ≡ 6 → ⊥) → d ≡ depth → d ≤ 100 → (d ≡ open_after depth tag) × (d ≤ 100)
unfolding open_after
level depth tag d n1 n6 e low = (rw (ne_eqb tag 1 n1, ne_eqb tag 6 n6) e, low)

-- the tests of a field, each for itself
record Parts (before depth tag : ℕ) (body : Bytes) : Type 0 where
  least : 1 ≤ tag
  most : tag ≤ 6
  right : field_right before depth tag (length body) ≡ true
  other : not (opens_blockquote tag body) ≡ true
  utf8 : is_utf8 body ≡ true

parts : (before depth tag : ℕ) (body : Bytes) → sound_field before depth tag body ≡ true → Parts before depth tag body
unfolding sound_field ruled_field
parts before depth tag body e =
    let u = (and-eq-true_iff (ruled_field before depth tag body) (is_utf8 body)).0 e in
    let a = (and-eq-true_iff (leb 1 tag && leb tag 6) _).0 u.0 in let b = (and-eq-true_iff (leb 1 tag) (leb tag 6)).0 a.0 in
    let c = (and-eq-true_iff (field_right before depth tag (length body)) (not (opens_blockquote tag body))).0 a.1 in
    record { least = leb-true 1 tag b.0; most = leb-true tag 6 b.1; right = c.0; other = c.1; utf8 = u.1 }

-- the field at p, whose n bytes end inside
module _ (s : Bytes) (p n before depth count : ℕ) (h : p + 3 ≤ length s) (n-is : n ≡ length_at s p) (fit : n ≤ length s - (p + 3)) where
  abbrev span : Span
  span = record { tag = get_or s p 0; start = p + 3; end = p + 3 + n }

  span_is : span ≡ span_at s p
  span_is = rw (n-is, le-ltb (length s - (p + 3)) (length_at s p) (rw n-is at fit))

  pub on : SoFar s before depth count p
      → sound_field before depth (get_or s p 0) (take (p + 3 + n - (p + 3)) (drop (p + 3) s)) ≡ true
      → (d m : ℕ) → d ≡ open_after depth (get_or s p 0) → d ≤ 100 → m ≡ count_after count (get_or s p 0) → m ≤ count + 1
      → SoFar s (get_or s p 0) d m (p + 3 + n)
  unfolding utf8_body no_blockquote max_open
  on f t d m d-is d-low m-is m-low =
      let k = parts before depth (get_or s p 0) (take (p + 3 + n - (p + 3)) (drop (p + 3) s)) t in
      let right : field_right before depth (get_or s p 0) (p + 3 + n - (p + 3)) ≡ true =
      rw (part_length s (p + 3) (p + 3 + n) (omega arith) (omega arith)) at k.right in
      record {
        short = f.short;
        inside = omega arith;
        low = d-low;
        counted = omega arith;
        ends = fits 1 6 s p n (get_or s p 0) h n-is refl f.ends k.least k.most fit;
        rules = rw d-is (rules_on s p before depth span h span_is f.rules f.still right);
        still = rw d-is (still_on s p before depth span h span_is f.rules f.still);
        utf8 = every_right utf8_body s p f.utf8 span h span_is k.utf8;
        nodes = rw m-is (count_on s p count span h span_is f.nodes);
        levels = rw d-is (depth_on s p depth f.levels h span span_is f.low);
        plain = every_right no_blockquote s p f.plain span h span_is k.other;
      }

-- the field's n bytes at p + 3, as the first n behind its head
pub field_bytes : (before depth : ℕ) (s : Bytes) (p n : ℕ) (r : Bool) → p + 3 + n ≤ length s
    → r ≡ sound_field before depth (get_or s p 0) (take n (take (length s - (p + 3)) (drop (p + 3) s)))
    → sound_field before depth (get_or s p 0) (take (p + 3 + n - (p + 3)) (drop (p + 3) s)) ≡ r
field_bytes before depth s p n r h e =
    let long : p + 3 + n - (p + 3) ≡ n = omega arith in
    rw long (sym (e ∙ rw (take_all (length s - (p + 3)) (drop (p + 3) s) (omega (arith, length-drop (p + 3) s))) refl))

pub empty_close : (before depth n : ℕ) → field_right before depth 6 n ≡ true → (n ≡ 0) × (0 < depth)
unfolding may_follow isin no_stray
empty_close before depth n e =
    let a = (and-eq-true_iff (not (eqb before 2) && eqb n 0) (not (eqb depth 0))).0 e in
    let some = eqb-false depth 0 (not-true (eqb depth 0) a.1) in
    (eqb-true n 0 ((and-eq-true_iff (not (eqb before 2)) (eqb n 0)).0 a.0).1, omega (arith, some))

-- the close at p: the next field begins behind its head
pub on_close : (s : Bytes) (p n before depth count : ℕ) → p + 3 ≤ length s → n ≡ length_at s p → get_or s p 0 ≡ 6
    → field_right before depth 6 n ≡ true → SoFar s before depth count p → SoFar s (get_or s p 0) (depth - 1) count (p + 3)
unfolding open_after isin
on_close s p n before depth count h n-is tag_is right f =
    let e = empty_close before depth n right in let none : p + 3 + 0 ≡ p + 3 = omega arith in
    let long : length (take (p + 3 + 0 - (p + 3)) (drop (p + 3) s)) ≡ n =
    part_length s (p + 3) (p + 3 + 0) (omega arith) (omega arith) ∙ omega (arith, e.0) in
    rw none at
    (on s p 0 before depth count h (sym e.0 ∙ n-is) (omega arith) f
    (rw (tag_is, of_close before depth (take (p + 3 + 0 - (p + 3)) (drop (p + 3) s)), long) right)
    (depth - 1) count (rw tag_is refl) (omega (arith, f.low)) (rw tag_is refl) (omega arith))

-- at the end of the fields
sound : (s : Bytes) (p before depth count r : ℕ) → length s - p < 3 → SoFar s before depth count p
    → Ended (length s - p) before depth (count + 1) r → Sound s r
unfolding question1 question2 question4 question5 question6 max_open
sound s p before depth count r h f e =
    let n : count + 1 ≡ node_count s = count_end s p count h f.nodes in
    record {
      one = le-leb (length s) 1048576 f.short;
      two = sym (whole_end 1 6 s p f.inside h f.ends) ∙ eq-eqb p (length s) (omega arith);
      three = sym (answer_open s depth (kept s p before depth h f.rules f.still e.named)) ∙ eq-eqb depth 0 e.shut;
      four = sym (every_end utf8_body s p f.utf8 h);
      five = rw (← n, le-leb (count + 1) 65535 e.few) (sym (depth_end s p depth f.levels h) ∙ le-leb depth 100 f.low);
      six = sym (every_end no_blockquote s p f.plain h);
      nodes = e.same ∙ n;
    }

pub sound_if : (s : Bytes) (p before depth count : ℕ) (r : Option ℕ) → length s - p < 3 → SoFar s before depth count p
    → IfSome r (λ n. Ended (length s - p) before depth (count + 1) n) → IfSome r (λ n. Sound s n)
sound_if s p before depth count None h f e = e
sound_if s p before depth count (Some n) h f e = sound s p before depth count n h f e

-- the first no of a sheet to which questions 1 to 6 say yes
pub sound_refusal : (s : Bytes) (skips : SkipList) (start memory r : ℕ) → Sound s r → refusal_of_sound r skips start memory ≡ refusal s skips start memory
unfolding refusal_of_sound refusal first_no question7 question9
sound_refusal s skips start memory r f = rw (f.one, f.two, f.three, f.four, f.five, f.six, f.nodes)
