-- The first URL of a `srcset`: where the writer's choice is the HTML Standard's, and where not.
use Rattle.std.specs.Prelude.{ℕ, ◌≡◌, Bool, cond, not, ◌&&◌, ◌||◌, List, [], ◌∷◌, eqb}
use Rattle.std.proofs.Math.Path.{refl, sym}
use Rattle.std.proofs.Common.{ap, ◌∙◌, true≢false}
use Rattle.std.proofs.Math.Bool.{true, false}
use Rattle.std.proofs.Math.Option.{Option, none, some}
use borrow.Author.Tests.{not-false}
use Rattle.spec.specs.Bytes.{Bytes, null, every, white, one, unless, trim_end_matches, trim_start_matches, take_while, cut_at, parts, split, filled, words, first_word}
use Rattle.spec.specs.Md.Elements.Image.{first_source}
use Rattle.spec.specs.Reading.Lines.{head_is}
use Rattle.spec.proofs.Tests.{and_l, and_r, or_l, or_r}
use Rattle.recovery.proofs.Written.Ends.{trim_none}
use Rattle.spec.specs.Pieces.Srcset.{comma, white_or_comma, splitting, collected, url, first_url, behind_url, candidate, first_candidate}

-- ---- the first word

abbrev black : ℕ → Bool
black b = not (white b)

first_part : (s : Bytes) → (parts white s).0 ≡ take_while black s
unfolding parts cut_at take_while
first_part [] = refl
first_part (b ∷ s) = go (white b) (first_part s)
  where
    go : (t : Bool) → (parts white s).0 ≡ take_while black s → (cut_at t b (parts white s)).0 ≡ cond (not t) (b ∷ take_while black s) []
    go true h = refl
    go false h = rw h

first_word_lem : (s : Bytes) → first_word (words s) ≡ take_while black (trim_start_matches white s)
unfolding words split parts cut_at filled first_word trim_start_matches null
first_word_lem [] = unfold take_while in refl
first_word_lem (b ∷ s) = go (white b) refl (first_word_lem s)
  where
    go : (t : Bool) → white b ≡ t → first_word (words s) ≡ take_while black (trim_start_matches white s)
        → first_word (filled ((cut_at t b (parts white s)).0 ∷ (cut_at t b (parts white s)).1))
        ≡ take_while black (cond t (trim_start_matches white s) (b ∷ s))
    go true e h = h
    go false e h = unfold take_while in rw (e, first_part s)

-- the writer's choice, from the first byte that is not white
unfoldable choice : Bytes → Option Bytes
choice w = cond (null (url w)) none (some (url w))

source_choice : (s : Bytes) → first_source (some s) ≡ choice (trim_start_matches white s)
unfolding first_source choice url collected comma
source_choice s = rw (first_word_lem s)

-- ---- the Standard's skip

unfoldable begins_with : (ℕ → Bool) → Bytes → Bool
begins_with p [] = false
begins_with p (b ∷ s) = p b

skip_twice : (s : Bytes) → trim_start_matches white_or_comma s ≡ trim_start_matches white_or_comma (trim_start_matches white s)
unfolding trim_start_matches
skip_twice [] = refl
skip_twice (b ∷ s) = go (white b) refl (skip_twice s)
  where
    go : (t : Bool) → white b ≡ t → trim_start_matches white_or_comma s ≡ trim_start_matches white_or_comma (trim_start_matches white s)
        → cond (white_or_comma b) (trim_start_matches white_or_comma s) (b ∷ s)
        ≡ trim_start_matches white_or_comma (cond t (trim_start_matches white s) (b ∷ s))
    go true e h = unfold white_or_comma in rw e h
    go false e h = refl

url_twice : (s : Bytes) → first_url s ≡ first_url (trim_start_matches white s)
unfolding first_url splitting
url_twice s = ap (λ (r : Bytes). cond (null r) none (some (url r))) (skip_twice s)

-- what is left begins with no byte of the class
begun : (p : ℕ → Bool) (s : Bytes) → begins_with p (trim_start_matches p s) ≡ false
unfolding trim_start_matches begins_with
begun p [] = refl
begun p (b ∷ s) = go (p b) refl (begun p s)
  where
    go : (t : Bool) → p b ≡ t → begins_with p (trim_start_matches p s) ≡ false
        → begins_with p (cond t (trim_start_matches p s) (b ∷ s)) ≡ false
    go true e h = h
    go false e h = e

all_skipped : (p : ℕ → Bool) (s : Bytes) → null (trim_start_matches p s) ≡ true → every p s ≡ true
unfolding trim_start_matches every
all_skipped p [] h = refl
all_skipped p (b ∷ s) h = go (p b) refl h (all_skipped p s)
  where
    go : (t : Bool) → p b ≡ t → null (cond t (trim_start_matches p s) (b ∷ s)) ≡ true
        → (null (trim_start_matches p s) ≡ true → every p s ≡ true) → (t && every p s) ≡ true
    go true e k f = f k
    go false e k f = unfold null in k

-- ---- the URL

-- a word of commas alone leaves nothing
commas_only : (s : Bytes) → every white_or_comma s ≡ true → every comma (take_while black s) ≡ true
unfolding every take_while white_or_comma
commas_only [] h = refl
commas_only (b ∷ s) h = go (white b) (and_l (white b || comma b) _ h) (commas_only s (and_r (white b || comma b) _ h))
  where
    go : (t : Bool) → (t || comma b) ≡ true → every comma (take_while black s) ≡ true
        → every comma (cond (not t) (b ∷ take_while black s) []) ≡ true
    go true e k = refl
    go false e k = rw e k

no_url : (s : Bytes) → every white_or_comma s ≡ true → url s ≡ []
unfolding url collected
no_url s h = trim_none comma (take_while black s) (commas_only s h)

-- of any other the first byte stays
url_of : (b : ℕ) (r : Bytes) → white b ≡ false
    → url (b ∷ r)
    ≡ unless (one comma (b ∷ trim_end_matches (one comma) (take_while black r))) (b ∷ trim_end_matches (one comma) (take_while black r))
unfolding url collected take_while trim_end_matches
url_of b r h = rw h

one_not : (b : ℕ) (x : Bytes) → comma b ≡ false → one comma (b ∷ x) ≡ false
unfolding one
one_not b [] h = h
one_not b (c ∷ x) h = refl

url_some : (b : ℕ) (r : Bytes) → white b ≡ false → comma b ≡ false
    → url (b ∷ r) ≡ b ∷ trim_end_matches (one comma) (take_while black r)
unfolding unless
url_some b r h n = rw (url_of b r h, one_not b _ n)

-- ---- where the two agree

-- the first byte that is not white is no comma, or the text holds nothing but white bytes and commas
unfoldable pub agrees : Bytes → Bool
agrees s = not (head_is 44 (trim_start_matches white s)) || null (trim_start_matches white_or_comma s)

choice_none : (w : Bytes) → url w ≡ [] → choice w ≡ none
unfolding choice null
choice_none w h = rw h

choice_some : (b : ℕ) (w x : Bytes) → url w ≡ b ∷ x → choice w ≡ some (b ∷ x)
unfolding choice null
choice_some b w x h = rw h

first_none : (w : Bytes) → null (trim_start_matches white_or_comma w) ≡ true → first_url w ≡ none
unfolding first_url splitting
first_none w h = rw h

first_some_lem : (b : ℕ) (w r : Bytes) → trim_start_matches white_or_comma w ≡ b ∷ r → first_url w ≡ some (url (b ∷ r))
unfolding first_url splitting null
first_some_lem b w r h = rw h

kept : (b : ℕ) (r : Bytes) → white b ≡ false → comma b ≡ false → trim_start_matches white_or_comma (b ∷ r) ≡ b ∷ r
unfolding trim_start_matches white_or_comma
kept b r h n = rw (h, n)

agree_from : (w : Bytes) → begins_with white w ≡ false → (not (head_is 44 w) || null (trim_start_matches white_or_comma w)) ≡ true
    → choice w ≡ first_url w
unfolding begins_with head_is
agree_from [] n h = unfold choice first_url splitting url collected take_while trim_end_matches trim_start_matches null in refl
agree_from (b ∷ r) n h = go (comma b) refl (unfold comma in h)
  where
    go : (t : Bool) → comma b ≡ t → (not (comma b) || null (trim_start_matches white_or_comma (b ∷ r))) ≡ true
        → choice (b ∷ r) ≡ first_url (b ∷ r)
    go true e k =
        let z : null (trim_start_matches white_or_comma (b ∷ r)) ≡ true = rw e at k in
        choice_none (b ∷ r) (no_url (b ∷ r) (all_skipped white_or_comma (b ∷ r) z)) ∙ sym (first_none (b ∷ r) z)
    go false e k =
        choice_some b (b ∷ r) _ (url_some b r n e) ∙ (ap some (sym (url_some b r n e)) ∙ sym (first_some_lem b (b ∷ r) r (kept b r n e)))

-- HTML: the writer's choice is the Standard's first URL there
pub srcset_agrees : (s : Bytes) → agrees s ≡ true → first_source (some s) ≡ first_url s
unfolding agrees
srcset_agrees s h =
    source_choice s
    ∙ (agree_from (trim_start_matches white s) (begun white s) (rw skip_twice at h) ∙ sym (url_twice s))

-- ---- and where not

-- none, or begins with a comma
unfoldable pub comma_first : Option Bytes → Bool
comma_first none = true
comma_first (some u) = head_is 44 u

unless_comma : (t : Bool) (b : ℕ) (x : Bytes) → comma b ≡ true
    → comma_first (cond (null (unless t (b ∷ x))) none (some (unless t (b ∷ x)))) ≡ true
unfolding unless null comma_first head_is comma
unless_comma true b x e = refl
unless_comma false b x e = e

choice_comma : (b : ℕ) (r : Bytes) → white b ≡ false → comma b ≡ true → comma_first (choice (b ∷ r)) ≡ true
unfolding choice
choice_comma b r n e = rw (url_of b r n) (unless_comma _ b _ e)

other_white : (b : ℕ) → white_or_comma b ≡ false → white b ≡ false
unfolding white_or_comma
other_white b h = or_l (white b) _ h

other_comma : (b : ℕ) → white_or_comma b ≡ false → comma b ≡ false
unfolding white_or_comma
other_comma b h = or_r (white b) _ h

-- the Standard's URL begins with no comma
first_black : (w k : Bytes) → trim_start_matches white_or_comma w ≡ k → null k ≡ false → begins_with white_or_comma k ≡ false
    → comma_first (first_url w) ≡ false
unfolding begins_with null comma
first_black w [] e n h = absurd (true≢false n)
first_black w (b ∷ r) e n h =
    rw (first_some_lem b w r e, url_some b r (other_white b h) (other_comma b h))
    (unfold comma_first head_is in other_comma b h)

differ_from : (w : Bytes) → begins_with white w ≡ false → (not (head_is 44 w) || null (trim_start_matches white_or_comma w)) ≡ false
    → choice w ≡ first_url w → ⊥
unfolding begins_with head_is
differ_from [] n h e = true≢false h
differ_from (b ∷ r) n h e =
    true≢false
    (sym (choice_comma b r n (unfold comma in not-false (eqb b 44) (or_l (not (eqb b 44)) _ h)))
    ∙ (ap comma_first e ∙ first_black (b ∷ r) _ refl (or_r (not (eqb b 44)) _ h) (begun white_or_comma (b ∷ r))))

-- everywhere else it is another
pub srcset_differs : (s : Bytes) → agrees s ≡ false → first_source (some s) ≡ first_url s → ⊥
unfolding agrees
srcset_differs s h e =
    differ_from (trim_start_matches white s) (begun white s) (rw skip_twice at h) (sym (source_choice s) ∙ (e ∙ url_twice s))

-- ---- candidates

-- HTML: the first URL is that of the first candidate where its descriptors are allowed
pub candidate_first : (allowed : List Bytes → Bool) (s : Bytes) → allowed (behind_url (splitting s)).0 ≡ true
    → first_candidate allowed s ≡ first_url s
unfolding first_candidate candidate first_url
candidate_first allowed s h = rw h
