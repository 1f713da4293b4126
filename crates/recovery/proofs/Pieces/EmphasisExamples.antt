-- Paragraphs with emphasis, evaluated: one that meets the conditions, and the smallest that break each of them.
use Rattle.std.specs.Prelude.{◌≡◌, refl, Bool, true, false, List, [], ◌∷◌}
use Rattle.std.proofs.Math.Option.{Option, some}
use Rattle.spec.specs.Bytes.{Bytes, ascii}
use Rattle.spec.specs.Tree.{Forest, nothing, text, element}
use Rattle.spec.specs.Everything.{everything}
use Rattle.spec.specs.Md.Constants.{DEFAULT_SKIP_TAGS}
use Rattle.spec.specs.Md.Serializer.{serializer, levels, serialize}
use Rattle.spec.specs.Pieces.EmphasisReading as reading
use Rattle.spec.specs.Pieces.EmphasisReading.{Phrase, plain_words, emphasised, strongly, byte, emphasis, strong, inlines, read}
use Rattle.recovery.proofs.Words.{blanked}
use Rattle.recovery.proofs.Written.Ends.{last_is, first_is}
use Rattle.recovery.proofs.Pieces.Emphasis.{star, known, first_of, last_of, ascii_classes}
use Rattle.recovery.proofs.Pieces.EmphasisSpelt.{edge}
use Rattle.recovery.proofs.Pieces.EmphasisSheets.{is_strong, is_emphasis, in_line, blank_next, beside_emphasis, emphasis_text, turns, black_first, in_turn, phrases_of}

-- an element with one text
abbrev holding : Bytes → Bytes → Forest → Forest
holding name s rest = element name [] (text s nothing) rest

-- the text of a sheet with one paragraph, by the definition
abbrev written : Forest → Bytes
written kids = (serialize (serializer DEFAULT_SKIP_TAGS levels) (element (ascii "p") [] kids nothing) 0 false).text

-- its phrases, with every character outside ASCII taken for text
abbrev found : Forest → Option (List Phrase)
found kids = read ascii_classes (written kids)

unfoldable tests : Bool → Bool
unfolding everything blanked last_is first_is star known first_of last_of ascii_classes edge is_strong is_emphasis in_line blank_next beside_emphasis emphasis_text turns black_first in_turn phrases_of
tests b = b

-- ---- a paragraph in turn

abbrev paragraph : Forest
paragraph =
    text (ascii "Mount the")
    (holding (ascii "strong") (ascii " scanner unit: ")
    (text (ascii "at least 2 m above (see")
    (holding (ascii "em") (ascii " Fig. *3") (text (ascii "), pre") (holding (ascii "b") (ascii "heat") (text (ascii "ed, then [fix]\n it ") (holding (ascii "i") (ascii "(M8 bolts)") nothing)))))))

paragraph_turns : in_turn paragraph ≡ true
unfolding tests
paragraph_turns = refl

paragraph_written : written paragraph ≡ ascii "Mount the **scanner unit:** at least 2 m above (see *Fig. \\*3*), pre**heat**ed, then \\[fix\\] it *(M8 bolts)*"
unfolding tests
paragraph_written = refl

paragraph_found : found paragraph ≡ some (phrases_of paragraph)
unfolding tests
paragraph_found = refl

-- ---- the exceptions

-- punctuation between letters: no emphasis
none_found : found (text (ascii "a") (holding (ascii "b") (ascii "!") (text (ascii "b") nothing))) ≡ some (plain_words (ascii "a**!**b" ∷ []) ∷ [])
unfolding tests
none_found = refl

-- two of one kind with nothing but white space between them: the writer makes one of them
one_found : found (holding (ascii "b") (ascii "a") (text (ascii " ") (holding (ascii "strong") (ascii "c") nothing))) ≡ some (strongly (ascii "a" ∷ ascii "c" ∷ []) ∷ [])
unfolding tests
one_found = refl

-- a blank emphasis at the end of another: the blank stays inside the marks, and there is no emphasis
blank_found : found (element (ascii "b") [] (text (ascii "a ") (holding (ascii "i") (ascii " ") nothing)) nothing) ≡ some (plain_words (ascii "**a" ∷ ascii "**" ∷ []) ∷ [])
unfolding tests
blank_found = refl

-- strong emphasis that holds emphasis: read the other way round
nested_written : written (element (ascii "b") [] (holding (ascii "i") (ascii "a") nothing) nothing) ≡ ascii "***a***"
unfolding tests
nested_written = refl

nested_found : inlines ascii_classes (ascii "***a***") ≡ some (emphasis (strong (byte 97 reading.nothing) reading.nothing) reading.nothing)
unfolding tests
nested_found = refl

-- the asterisk of a text straight before emphasis is escaped, and is not taken for the mark of an emphasis before it
star_written : written (text (ascii "*") (holding (ascii "i") (ascii "b") nothing)) ≡ ascii "\\**b*"
unfolding tests
star_written = refl

star_found : found (text (ascii "*") (holding (ascii "i") (ascii "b") nothing)) ≡ some (plain_words (ascii "*" ∷ []) ∷ emphasised (ascii "b" ∷ []) ∷ [])
unfolding tests
star_found = refl

-- none of them meets the conditions
none_turns : in_turn (text (ascii "a") (holding (ascii "b") (ascii "!") (text (ascii "b") nothing))) ≡ false
unfolding tests
none_turns = refl

one_turns : in_turn (holding (ascii "b") (ascii "a") (text (ascii " ") (holding (ascii "strong") (ascii "c") nothing))) ≡ false
unfolding tests
one_turns = refl

blank_turns : in_turn (element (ascii "b") [] (text (ascii "a ") (holding (ascii "i") (ascii " ") nothing)) nothing) ≡ false
unfolding tests
blank_turns = refl

nested_turns : in_turn (element (ascii "b") [] (holding (ascii "i") (ascii "a") nothing) nothing) ≡ false
unfolding tests
nested_turns = refl

star_turns : in_turn (text (ascii "*") (holding (ascii "i") (ascii "b") nothing)) ≡ false
unfolding tests
star_turns = refl
