-- A name among the bytes of a run's fields, from field to field, and the number of a name.
use Prim.Native.Nat.{ℕ, zero, suc, ◌<◌, ◌≤◌}
use mathlib.Core.Path.{◌≡◌, refl, ap, ◌∙◌, sym}
use native.Mathlib.Omega.{arith}
use mathlib.Core.Bool.{Bool, true, false, cond, ◌&&◌, ◌||◌, or-true}
use mathlib.Core.List.{List, [], ◌∷◌}
use lib.ListN.{length, get_or}
use lib.Dec.{eqb, eqb-suc-suc}
use borrow.Author.Tests.{ne_eqb}
use Rattle.spec.specs.Bytes.{Bytes, same, among}
use Rattle.spec.specs.Fields.{Field, fields}
use Rattle.spec.specs.Names.{place, names, tag_of}
use Rattle.spec.specs.Call.{bodies}
use Rattle.spec.specs.Md.Constants.{DEFAULT_SKIP_TAGS}
use denote.Param.Members.{Mut, Called}
use Rattle.std.proofs.lemmas.Iterator.{cases_from_any}
use Rattle.std.specs.Bool.{MatchBool}
use Rattle.std.specs.Iterator.{YieldsFirstBy, ChecksAny}
use Rattle.std.specs.List.{AllWithin, HoldsAt}
use Rattle.input.specs.Fields.{field, fields_left}
use Rattle.input.specs.declared.fields.Fields.{Fields}
use Rattle.input.specs.declared.fields.Field as code
use Rattle.input.proofs.Splitting.{fields_from_run}
use Rattle.std.proofs.lemmas.Bool.Decides.{nat_tests}

-- ---- the answer of `any` over the fields of a run, where the closure compares each with a name

among_some : (x : Bytes) (fs : List Field) (k : ℕ) → k < length fs → HoldsAt (λ f. same x f.body ≡ true) fs k → true ≡ among x (bodies fs)
unfolding among bodies
among_some x [] k h e = absurd (omega arith)
among_some x (f ∷ fs) zero h e = rw (e f) refl
among_some x (f ∷ fs) (suc k) h e = rw (sym (among_some x fs k (omega arith) (λ d. e d)), or-true) refl

among_none : (x : Bytes) (fs : List Field) → AllWithin (λ f. same x f.body ≡ false) fs 0 (length fs) → false ≡ among x (bodies fs)
unfolding among bodies
among_none x [] h = refl
among_none x (f ∷ fs) h = rw (h 0 f (omega arith) (omega arith)) (among_none x fs (λ k d l m. h (suc k) d (omega arith) (omega arith)))

among_cases : (x : Bytes) (fs : List Field) (r : Bool)
    → MatchBool r ((k : ℕ) × (k < length fs) × HoldsAt (λ f. same x f.body ≡ true) fs k) (AllWithin (λ f. same x f.body ≡ false) fs 0 (length fs)) → r ≡ among x (bodies fs)
among_cases x fs true h = among_some x fs h.0 h.1 h.2
among_cases x fs false h = among_none x fs h

pub among_from_any : {F : Type 0} {g : Mut F (code.Field × Unit {0}) Bool} (x run : Bytes) (u : Fields) {i : Fields} {f : F} {r : Bool}
    → ChecksAny (YieldsFirstBy field fields_left) g i f r u → fields_left i ≡ fields run
    → ((y : code.Field) (b : Bool) (k : F) → Called g f (y, tt) b k → (k ≡ f) × (b ≡ same x (field y).body)) → r ≡ among x (bodies (fields run))
among_from_any x run u {i} {f} {r} ran e closure =
    among_cases x (fields run) r
    (cases_from_any u f r (λ y. same x y.body ≡ true) (λ y. same x y.body ≡ false) ran (fields_from_run i run e)
    (λ y k t. sym (closure y true k t).1) (λ y k t. let h = closure y false k t in (h.0, sym h.1)))

-- ---- whether names are the same, by their lengths and their bytes

-- the bytes of y stand in x from index i on
abbrev pub reads : Bytes → ℕ → Bytes → Bool
reads x i [] = true
reads x i (b ∷ y) = eqb (get_or x i 0) b && reads x (suc i) y

reads_behind : (a : ℕ) (x : Bytes) (i : ℕ) (y : Bytes) → reads (a ∷ x) (suc i) y ≡ reads x i y
reads_behind a x i [] = refl
reads_behind a x i (b ∷ y) = ap (λ (t : Bool). eqb (get_or x i 0) b && t) (reads_behind a x (suc i) y)

and_swap : (s t u : Bool) → (s && (t && u)) ≡ (t && (s && u))
and_swap true t u = refl
and_swap false true u = refl
and_swap false false u = refl

-- where x has k bytes, so that a name of another length is known to differ by its length alone
abbrev pub alike : ℕ → Bytes → Bytes → Bool
alike k x y = eqb k (length y) && reads x 0 y

same_alike : (x y : Bytes) → same x y ≡ alike (length x) x y
unfolding same
same_alike [] [] = refl
same_alike [] (b ∷ y) = rw (ne_eqb 0 (length (b ∷ y)) (λ e. omega arith))
same_alike (a ∷ x) [] = rw (ne_eqb (length (a ∷ x)) 0 (λ e. omega arith))
same_alike (a ∷ x) (b ∷ y) =
    rw (same_alike x y, eqb-suc-suc (length x) (length y), reads_behind a x 0 y) (and_swap (eqb a b) (eqb (length x) (length y)) (reads x 0 y))

-- ---- the number of a name by its length and its bytes

unfoldable pub place_of : ℕ → ℕ → Bytes → List Bytes → ℕ
place_of k n x [] = 0
place_of k n x (y ∷ ys) = cond (alike k x y) n (place_of k (suc n) x ys)

place_alike : (n : ℕ) (x : Bytes) (ys : List Bytes) → place n x ys ≡ place_of (length x) n x ys
unfolding place place_of
place_alike n x [] = refl
place_alike n x (y ∷ ys) = rw (same_alike x y, place_alike (suc n) x ys)

number_of_lem : (k : ℕ) (x : Bytes) → length x ≡ k → tag_of x ≡ place_of k 1 x names
unfolding tag_of
number_of_lem k x e = rw (← e) (place_alike 1 x names)

pub of_one : (x : Bytes) → length x ≡ 1 → tag_of x ≡ place_of 1 1 x names
of_one x e = number_of_lem 1 x e

pub of_two : (x : Bytes) → length x ≡ 2 → tag_of x ≡ place_of 2 1 x names
of_two x e = number_of_lem 2 x e

pub of_three : (x : Bytes) → length x ≡ 3 → tag_of x ≡ place_of 3 1 x names
of_three x e = number_of_lem 3 x e

pub of_four : (x : Bytes) → length x ≡ 4 → tag_of x ≡ place_of 4 1 x names
of_four x e = number_of_lem 4 x e

pub of_five : (x : Bytes) → length x ≡ 5 → tag_of x ≡ place_of 5 1 x names
of_five x e = number_of_lem 5 x e

pub of_six : (x : Bytes) → length x ≡ 6 → tag_of x ≡ place_of 6 1 x names
of_six x e = number_of_lem 6 x e

pub of_seven : (x : Bytes) → length x ≡ 7 → tag_of x ≡ place_of 7 1 x names
of_seven x e = number_of_lem 7 x e

-- no name is so short or so long
pub of_none : (x : Bytes) → length x < 1 → tag_of x ≡ 0
unfolding place_of names
of_none x l = let e : length x ≡ 0 = omega arith in number_of_lem 0 x e

pub of_more : (x : Bytes) → 8 ≤ length x → tag_of x ≡ 0
unfolding place_of names
of_more x l =
    number_of_lem (length x) x refl
    ∙ simp (
      ne_eqb (length x) 1 (λ e. omega arith),
      ne_eqb (length x) 2 (λ e. omega arith),
      ne_eqb (length x) 3 (λ e. omega arith),
      ne_eqb (length x) 4 (λ e. omega arith),
      ne_eqb (length x) 5 (λ e. omega arith),
      ne_eqb (length x) 6 (λ e. omega arith),
      ne_eqb (length x) 7 (λ e. omega arith),
    )

pub ruleset by_bytes = (nat_tests, of_none, of_one, of_two, of_three, of_four, of_five, of_six, of_seven, of_more)

-- ---- whether a name is one of the default skip list, by its length and its bytes

unfoldable pub among_of : ℕ → Bytes → List Bytes → Bool
among_of k x [] = false
among_of k x (y ∷ ys) = alike k x y || among_of k x ys

among_alike : (k : ℕ) (x : Bytes) (ys : List Bytes) → length x ≡ k → among x ys ≡ among_of k x ys
unfolding among among_of
among_alike k x [] e = refl
among_alike k x (y ∷ ys) e = rw (same_alike x y, e, among_alike k x ys e)

pub skip_four : (x : Bytes) → length x ≡ 4 → among x DEFAULT_SKIP_TAGS ≡ among_of 4 x DEFAULT_SKIP_TAGS
skip_four x e = among_alike 4 x DEFAULT_SKIP_TAGS e

pub skip_five : (x : Bytes) → length x ≡ 5 → among x DEFAULT_SKIP_TAGS ≡ among_of 5 x DEFAULT_SKIP_TAGS
skip_five x e = among_alike 5 x DEFAULT_SKIP_TAGS e

pub skip_six : (x : Bytes) → length x ≡ 6 → among x DEFAULT_SKIP_TAGS ≡ among_of 6 x DEFAULT_SKIP_TAGS
skip_six x e = among_alike 6 x DEFAULT_SKIP_TAGS e

other_length : (x : Bytes) → (length x ≡ 4 → ⊥) → (length x ≡ 5 → ⊥) → (length x ≡ 6 → ⊥) → among x DEFAULT_SKIP_TAGS ≡ false
unfolding among_of
other_length x four five six =
    among_alike (length x) x DEFAULT_SKIP_TAGS refl ∙ simp (ne_eqb (length x) 4 four, ne_eqb (length x) 5 five, ne_eqb (length x) 6 six)

-- no skipped name is so short or so long
pub skip_none : (x : Bytes) → length x < 4 → among x DEFAULT_SKIP_TAGS ≡ false
skip_none x l = other_length x (λ e. omega arith) (λ e. omega arith) (λ e. omega arith)

pub skip_more : (x : Bytes) → 7 ≤ length x → among x DEFAULT_SKIP_TAGS ≡ false
skip_more x l = other_length x (λ e. omega arith) (λ e. omega arith) (λ e. omega arith)

pub ruleset skips_by_bytes = (nat_tests, skip_none, skip_four, skip_five, skip_six, skip_more)
