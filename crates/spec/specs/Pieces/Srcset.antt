-- The first URL and the first candidate of a `srcset` (HTML Standard, "parse a srcset attribute").
use Rattle.std.specs.Prelude.{ℕ, zero, suc, Bool, true, false, cond, not, ◌||◌, List, [], ◌∷◌, ◌++◌, eqb, length, drop}
use Rattle.std.proofs.Math.Option.{Option, none, some}
use Rattle.spec.specs.Bytes.{Bytes, ascii, null, ends_with, white, one, trim_end_matches, trim_start_matches, take_while}

unfoldable pub comma : ℕ → Bool
comma b = eqb b 44

unfoldable pub white_or_comma : ℕ → Bool
white_or_comma b = white b || comma b

-- ---- the first URL

-- HTML: "Splitting loop: Collect a sequence of code points that are ASCII whitespace or U+002C COMMA characters from input given
-- position."
unfoldable pub splitting : Bytes → Bytes
splitting input = trim_start_matches white_or_comma input

-- HTML: "Collect a sequence of code points that are not ASCII whitespace from input given position, and let url be the result."
unfoldable pub collected : Bytes → Bytes
collected s = take_while (λ b. not (white b)) s

-- HTML: "If url ends with U+002C (,), then: Remove all trailing U+002C COMMA characters from url."
unfoldable pub url : Bytes → Bytes
url s = trim_end_matches (one comma) (collected s)

-- HTML: "If position is past the end of input, return candidates." The first round of the loop
unfoldable pub first_url : Bytes → Option Bytes
first_url input =
    let rest = splitting input in
    cond (null rest) none (some (url rest))

-- ---- descriptors

-- HTML: "If current descriptor is not empty, append current descriptor to descriptors"
unfoldable pub with_current : Bytes → List Bytes → List Bytes
with_current current ds = cond (null current) ds (current ∷ ds)

-- HTML: the descriptor tokenizer, and what is left of the input behind it. The first argument: the state is "in parens". "After
-- descriptor" is "in descriptor" with no current descriptor. "U+002C COMMA (,): Advance position to the next character in input. If
-- current descriptor is not empty, append current descriptor to descriptors. Jump to the step labeled descriptor parser."
unfoldable pub descriptors : Bool → Bytes → Bytes → List Bytes × Bytes
descriptors parens current [] = (with_current current [], [])
descriptors true current (c ∷ s) = descriptors (not (eqb c 41)) (current ++ (c ∷ [])) s
descriptors false current (c ∷ s) =
    let r = descriptors (eqb c 40) (cond (white c) [] (current ++ (c ∷ []))) s in
    cond (comma c) (with_current current [], s) (cond (white c) (with_current current r.0) r.0, r.1)

-- the descriptors behind the URL that begins s. HTML: the tokenizer runs only where the URL does not end with a comma
unfoldable pub behind_url : Bytes → List Bytes × Bytes
behind_url s =
    let more = drop (length (collected s)) s in
    cond (ends_with (ascii ",") (collected s)) ([], more) (descriptors false [] more)

-- ---- candidates

-- HTML: "If error is still no, then append a new image source to candidates whose URL is url". "Return to the step labeled splitting
-- loop." `allowed` says for which descriptors the descriptor parser leaves error at no. The first argument is the number of rounds;
-- a text has no more than bytes
unfoldable pub candidate : (List Bytes → Bool) → ℕ → Bytes → Option Bytes
candidate allowed zero s = none
candidate allowed (suc n) s =
    let rest = splitting s in
    let later = candidate allowed n (behind_url rest).1 in
    cond (null rest) none (cond (allowed (behind_url rest).0) (some (url rest)) later)

unfoldable pub first_candidate : (List Bytes → Bool) → Bytes → Option Bytes
first_candidate allowed input = candidate allowed (suc (length input)) input
