-- Code spans (CommonMark 0.31, section 6.1).
use Rattle.std.specs.Prelude.{ℕ, suc, ◌-◌, cond, not, ◌&&◌, [], ◌∷◌, ◌++◌, length, take, drop, replicate, eqb}
use Rattle.std.proofs.Math.Option.{Option, none, some}
use Rattle.spec.specs.Bytes.{Bytes, ascii, every, starts_with, ends_with, blank}
use Rattle.spec.specs.Reading.Lines.{head_is, run, drop_run, ends_line}

-- a pair is the content so far and what stands behind the span
unfoldable pub preceded : Bytes → Option (Bytes × Bytes) → Option (Bytes × Bytes)
preceded x none = none
preceded x (some p) = some (x ++ p.0, p.1)

-- 6.1: "A backtick string is a string of one or more backtick characters (`) that is neither preceded nor followed by a backtick."
-- What stands before the first backtick string of n, and behind it. k backticks were read last, and are not given out yet
unfoldable pub up_to : ℕ → ℕ → Bytes → Option (Bytes × Bytes)
up_to n k [] = cond (eqb k n) (some ([], [])) none
up_to n k (b ∷ r) =
    let further = up_to n (cond (eqb b 96) (suc k) 0) r in
    cond (eqb b 96) further (cond (eqb k n) (some ([], b ∷ r)) (preceded (replicate k 96 ++ (b ∷ [])) further))

-- 6.1: "First, line endings are converted to spaces." The CR of a CR LF gives nothing
unfoldable pub unbroken : Bytes → Bytes
unbroken [] = []
unbroken (b ∷ r) = cond (ends_line b r) (ascii " ") (cond (eqb b 13) [] (b ∷ [])) ++ unbroken r

-- without its first and last byte
unfoldable pub inner : Bytes → Bytes
inner s = take (length s - 2) (drop 1 s)

-- 6.1: "If the resulting string both begins and ends with a space character, but does not consist entirely of space characters, a
-- single space character is removed from the front and back."
unfoldable pub stripped : Bytes → Bytes
stripped s =
    cond (starts_with (ascii " ") s && (ends_with (ascii " ") s && not (every blank s))) (inner s) s

unfoldable pub content : Option (Bytes × Bytes) → Option (Bytes × Bytes)
content none = none
content (some p) = some (stripped (unbroken p.0), p.1)

-- 6.1: "A code span begins with a backtick string and ends with a backtick string of equal length. The contents of the code span are
-- the characters between these two backtick strings". The content of the span that begins s, and what stands behind the span. Before
-- s stands no backtick
unfoldable pub code_span : Bytes → Option (Bytes × Bytes)
code_span s = cond (head_is 96 s) (content (up_to (run 96 s) 0 (drop_run 96 s))) none
