-- Paragraphs and items of texts and emphasis in turn: what the theorem asks of them, and their phrases.
use Rattle.std.specs.Prelude.{ℕ, Bool, true, false, cond, not, ◌&&◌, ◌||◌, List, [], ◌∷◌, ◌++◌}
use Rattle.spec.specs.Bytes.{Bytes, isin, words}
use Rattle.spec.specs.Names as tag
use Rattle.spec.specs.Names.{tag_of}
use Rattle.spec.specs.Tree.{Forest, nothing, text, comment, element}
use Rattle.spec.specs.Plain.{plain_text, one_text, no_node}
use Rattle.spec.specs.SheetList.{first_text}
use Rattle.spec.specs.Md.TextUtils.{starts_with_white, ends_with_white}
use Rattle.spec.specs.Pieces.EmphasisReading.{Phrase, plain_words, emphasised, strongly}
use Rattle.recovery.proofs.Words.{blanked}
use Rattle.recovery.proofs.Written.Ends.{last_is, first_is}
use Rattle.recovery.proofs.Pieces.Emphasis.{star}
use Rattle.recovery.proofs.Pieces.EmphasisSpelt.{edge}

unfoldable pub is_strong : ℕ → Bool
is_strong n = isin n (tag.strong ∷ tag.b ∷ [])

unfoldable pub is_emphasis : ℕ → Bool
is_emphasis n = isin n (tag.strong ∷ tag.b ∷ tag.em ∷ tag.i ∷ [])

-- words in one line, with a blank between them
unfoldable pub in_line : List Bytes → Bytes
in_line [] = []
in_line (w ∷ ws) = w ++ blanked ws

-- ---- conditions

-- white space, or nothing, begins what follows
unfoldable pub blank_next : Forest → Bool
blank_next nothing = true
blank_next (text s rest) = starts_with_white s
blank_next (comment s rest) = false
blank_next (element name attrs kids rest) = false

-- A text beside emphasis: plain, and not ending with an asterisk
unfoldable pub beside_emphasis : Bytes → Bool
beside_emphasis s = plain_text s && not (last_is star (in_line (words s)))

-- The text of an emphasis is plain; its words begin and end with a letter or a digit of ASCII, or with ASCII punctuation on the side where
-- white space, or nothing, stands: before the emphasis (before) or behind it (behind), or as its own first or last byte
unfoldable pub emphasis_text : Bool → Bool → Bytes → Bool
emphasis_text before behind s =
    (plain_text s && first_is (edge (before || starts_with_white s)) (in_line (words s)))
    && last_is (edge (ends_with_white s || behind)) (in_line (words s))

-- texts and emphasis in turn: behind emphasis (true) a text or nothing, behind a text an emphasis or nothing; blank: white space, or
-- nothing, stands before
unfoldable pub turns : Bool → Bool → Forest → Bool
turns true blank nothing = true
turns true blank (text s rest) = beside_emphasis s && turns false (ends_with_white s) rest
turns true blank (comment s rest) = false
turns true blank (element name attrs kids rest) = false
turns false blank nothing = true
turns false blank (text s rest) = false
turns false blank (comment s rest) = false
turns false blank (element name attrs kids rest) =
    (is_emphasis (tag_of name) && one_text (emphasis_text blank (blank_next rest)) kids) && turns true false rest

-- no white space begins the first emphasis
unfoldable pub black_first : Forest → Bool
black_first nothing = true
black_first (text s rest) = true
black_first (comment s rest) = true
black_first (element name attrs kids rest) = not (starts_with_white (first_text kids))

-- what a paragraph or an item holds: something, and texts and emphasis in turn
unfoldable pub in_turn : Forest → Bool
in_turn f = (not (no_node f) && black_first f) && (turns true true f || turns false true f)

-- ---- phrases

unfoldable pub phrases_of : Forest → List Phrase
phrases_of nothing = []
phrases_of (text s rest) = plain_words (words s) ∷ phrases_of rest
phrases_of (comment s rest) = phrases_of rest
phrases_of (element name attrs kids rest) = cond (is_strong (tag_of name)) strongly emphasised (words (first_text kids)) ∷ phrases_of rest
