-- Emphasis in the text of a paragraph, an item or another leaf: its delimiter runs and the delimiter stack (CommonMark 0.31, section 6.2,
-- and "process emphasis" in its appendix, "A parsing strategy"), for any way of telling the characters outside ASCII.
--
-- Text, `*` and `_` are read. Where a code span, a link, an autolink, raw HTML, a character reference or a hard line break may begin, the
-- text is not read at all (none); "may" is as wide as in Reading/Inline.
use Rattle.std.specs.Prelude.{ℕ, zero, suc, ◌-◌, Bool, true, false, cond, not, ◌&&◌, ◌||◌, List, [], ◌∷◌, ◌++◌, replicate, eqb, leb}
use Rattle.std.proofs.Math.Option.{Option, none, some}
use Rattle.spec.specs.Bytes.{Bytes, ascii, null, isin, words}
use Rattle.spec.specs.Reading.Lines.{run, drop_run}
use Rattle.spec.specs.Reading.Inline.{escaped, slashed, anywhere, Beside, may_open, lengths_match, begins}
use Rattle.spec.specs.Pieces.Emphasis.{Classes}

-- ---- what is read

-- a text from some place on: nothing more; or a byte, or emphasis and what it holds, and what follows
pub data Inlines : Type 0 where
  nothing : Inlines
  byte : ℕ → Inlines → Inlines
  emphasis : Inlines → Inlines → Inlines
  strong : Inlines → Inlines → Inlines

unfoldable pub joined : Inlines → Inlines → Inlines
joined nothing y = y
joined (byte b x) y = byte b (joined x y)
joined (emphasis z x) y = emphasis z (joined x y)
joined (strong z x) y = strong z (joined x y)

unfoldable pub bytes : Bytes → Inlines
bytes [] = nothing
bytes (b ∷ s) = byte b (bytes s)

-- ---- delimiter runs

-- 6.2: "A delimiter run is either a sequence of one or more * characters that is not preceded or followed by a
-- non-backslash-escaped * character, or a sequence of one or more _ characters that is not preceded or followed by a
-- non-backslash-escaped _ character."
pub record Run : Type 0 where
  pub sign : ℕ
  pub length : ℕ
  pub opens : Bool
  pub closes : Bool

pub data Token : Type 0 where
  plain : ℕ → Token
  delimiters : Run → Token

-- the classes of the character that a text ends with, and of the one that it begins with (`Classes`)
abbrev pub Beside_of : Type 0
Beside_of = Bytes → Beside

-- the run that begins with b, behind x and before r. The appendix: "whether the delimiter is a potential opener, a potential closer, or both
-- (which depends on what sort of characters precede and follow the delimiters)"
unfoldable pub run_at : Beside_of → Beside_of → Bytes → ℕ → Bytes → Run
run_at last first x b r =
    let p = last x in
    let n = first (drop_run b r) in
    record { sign = b; length = suc (run b r); opens = may_open b p n; closes = may_open b n p }

-- a backslash waits for the byte behind it; before a byte that it cannot escape it is text (2.4)
unfoldable pub behind_slash : Bool → Bool → ℕ → List Token → List Token
behind_slash true e b ts = cond e (plain b ∷ ts) (plain 92 ∷ plain b ∷ ts)
behind_slash false e b ts = cond (eqb b 92) ts (plain b ∷ ts)

-- The tokens of a text, behind x. The first k bytes belong to a run that is taken already; s: an unescaped backslash stands before. A run is
-- taken whole, so that none is preceded by an unescaped byte of its own
unfoldable pub tokens : Beside_of → Beside_of → Bytes → ℕ → Bool → Bytes → List Token
tokens last first x k s [] = cond s (plain 92 ∷ []) []
tokens last first x (suc k) s (b ∷ r) = tokens last first (x ++ (b ∷ [])) k false r
tokens last first x zero s (b ∷ r) =
    let begun = not (escaped s b) && isin b (ascii "*_") in
    let more = tokens last first (x ++ (b ∷ [])) (cond begun (run b r) 0) (slashed s b) r in
    cond begun (delimiters (run_at last first x b r) ∷ more) (behind_slash s (escaped s b) b more)

-- ---- the delimiter stack

-- a run that can open emphasis, how many of its delimiters are left, and what stands behind it, up to the next of the stack
pub record Opener : Type 0 where
  pub run : Run
  pub left : ℕ
  pub content : Inlines

-- what stands before the first opener, and the openers, from the last
pub record Stack : Type 0 where
  pub base : Inlines
  pub openers : List Opener

unfoldable pub stack : Inlines → List Opener → Stack
stack base os = record { base = base; openers = os }

-- delimiters that are no emphasis are text
unfoldable pub signs : Run → ℕ → Inlines
signs d n = bytes (replicate n d.sign)

unfoldable pub opener : Run → ℕ → Inlines → Opener
opener d n y = record { run = d; left = n; content = y }

unfoldable pub put_on : Inlines → Inlines → List Opener → Stack
put_on y base [] = stack (joined base y) []
put_on y base (o ∷ os) = stack base (opener o.run o.left (joined o.content y) ∷ os)

unfoldable pub put : Inlines → Stack → Stack
put y s = put_on y s.base s.openers

-- 6.2: "Emphasis begins with a delimiter that can open emphasis and ends with a delimiter that can close emphasis, and that uses the
-- same character (_ or *) as the opening delimiter. The opening and closing delimiters must belong to separate delimiter runs. If one of
-- the delimiters can both open and close emphasis, then the sum of the lengths of the delimiter runs containing the opening and closing
-- delimiters must not be a multiple of 3 unless both lengths are multiples of 3."
unfoldable pub matches : Run → Run → Bool
matches o d = eqb o.sign d.sign && lengths_match (o.closes || d.opens) o.length d.length

-- an opener with all that stands behind it, and the openers before it
pub record Match : Type 0 where
  pub found : Opener
  pub others : List Opener

-- The appendix: "look back in the stack (staying above stack_bottom and the openers_bottom for this delimiter type) for the first
-- matching potential opener ("matching" means same delimiter)." "Remove any delimiters between the opener and closer from the delimiter
-- stack." (`openers_bottom` only spares a search that finds nothing.) y: what stands behind the openers
unfoldable pub look_back : Run → Inlines → List Opener → Option Match
look_back d y [] = none
look_back d y (o ∷ os) =
    let here = joined o.content y in
    let further = look_back d (joined (signs o.run o.left) here) os in
    cond (matches o.run d) (some (record { found = opener o.run o.left here; others = os })) further

-- "if both closer and opener spans have length >= 2, we have strong, otherwise regular"
unfoldable pub taken : ℕ → ℕ → ℕ
taken m n = cond (leb 2 m && leb 2 n) 2 1

unfoldable pub wrapped : ℕ → Inlines → Inlines
wrapped n y = cond (eqb n 2) (strong y nothing) (emphasis y nothing)

-- "Insert an emph or strong emph node accordingly, after the text node corresponding to the opener." "Remove 1 (for regular emph) or 2
-- (for strong emph) delimiters from the opening and closing text nodes. If they become empty as a result, remove them and remove the
-- corresponding element of the delimiter stack."
unfoldable pub inserted : ℕ → Inlines → Match → Stack
inserted n base m =
    let o = m.found in
    let node = wrapped n o.content in
    cond (eqb (o.left - n) 0) (put_on node base m.others) (stack base (opener o.run (o.left - n) node ∷ m.others))

-- "If none is found": "If the closer at current_position is not a potential opener, remove it from the delimiter stack (since we know it
-- can't be a closer either)." n of the run's delimiters are left
unfoldable pub unmatched : Run → ℕ → Stack → Stack
unmatched d n s = cond d.opens (stack s.base (opener d n nothing ∷ s.openers)) (put (signs d n) s)

-- a potential closer with n delimiters left; k: as many steps are enough, since each takes a delimiter
unfoldable pub closing : ℕ → Run → ℕ → Stack → Stack
closing zero d n s = s
closing (suc k) d n s =
    elim (look_back d nothing s.openers) [
      | none ↦ unmatched d n s
      | some m ↦
          let t = taken m.found.left n in
          let u = inserted t s.base m in
          let further = closing k d (n - t) u in
          cond (eqb (n - t) 0) u further
    ]

unfoldable pub delimited : Run → Stack → Stack
delimited d s = cond d.closes (closing d.length d d.length s) (unmatched d d.length s)

unfoldable pub processed : Stack → List Token → Stack
processed s [] = s
processed s (plain b ∷ ts) = processed (put (byte b nothing) s) ts
processed s (delimiters d ∷ ts) = processed (delimited d s) ts

-- "After we're done, we remove all delimiters above stack_bottom from the delimiter stack."
unfoldable pub ended : Inlines → List Opener → Inlines
ended y [] = y
ended y (o ∷ os) = ended (joined (signs o.run o.left) (joined o.content y)) os

unfoldable pub whole : Stack → Inlines
whole s = joined s.base (ended nothing s.openers)

-- ---- a text

unfoldable pub foreign : ℕ → ℕ → Bytes → Bool
foreign p b r = not (isin b (ascii "*_")) && begins p b r

unfoldable pub inlines_by : Beside_of → Beside_of → Bytes → Option Inlines
inlines_by last first t =
    let y = whole (processed (stack nothing []) (tokens last first [] 0 false t)) in
    cond (anywhere foreign 32 false t) none (some y)

unfoldable pub inlines : Classes → Bytes → Option Inlines
inlines k t = inlines_by k.last k.first t

-- ---- words, strong words and emphasised words

pub data Phrase : Type 0 where
  plain_words : List Bytes → Phrase
  emphasised : List Bytes → Phrase
  strongly : List Bytes → Phrase

-- the bytes of a text that holds no emphasis
unfoldable pub after : ℕ → Option Bytes → Option Bytes
after b none = none
after b (some s) = some (b ∷ s)

unfoldable pub bytes_of : Inlines → Option Bytes
bytes_of nothing = some []
bytes_of (byte b x) = after b (bytes_of x)
bytes_of (emphasis z x) = none
bytes_of (strong z x) = none

-- the words of a text between two emphases, if it has some
unfoldable pub between : Bytes → List Phrase → List Phrase
between s ps = cond (null (words s)) ps (plain_words (words s) ∷ ps)

unfoldable pub emphasis_then : (List Bytes → Phrase) → Bytes → Option Bytes → Option (List Phrase) → Option (List Phrase)
emphasis_then f s none ps = none
emphasis_then f s (some z) none = none
emphasis_then f s (some z) (some ps) = some (between s (f (words z) ∷ ps))

-- the phrases of a text, behind the bytes s; none where emphasis holds emphasis
unfoldable pub phrases : Bytes → Inlines → Option (List Phrase)
phrases s nothing = some (between s [])
phrases s (byte b x) = phrases (s ++ (b ∷ [])) x
phrases s (emphasis z x) = emphasis_then emphasised s (bytes_of z) (phrases [] x)
phrases s (strong z x) = emphasis_then strongly s (bytes_of z) (phrases [] x)

unfoldable pub phrases_in : Option Inlines → Option (List Phrase)
phrases_in none = none
phrases_in (some y) = phrases [] y

unfoldable pub read : Classes → Bytes → Option (List Phrase)
read k t = phrases_in (inlines k t)
