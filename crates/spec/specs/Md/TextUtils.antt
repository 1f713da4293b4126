-- `text_utils.rs`.
use Rattle.std.specs.Prelude.{ℕ, zero, suc, ◌-◌, Bool, false, cond, not, ◌&&◌, ◌||◌, List, [], ◌∷◌, ◌++◌, length, take, drop, eqb, leb}
use Rattle.spec.specs.Bytes.{
  Bytes,
  ascii,
  null,
  same,
  isin,
  every,
  starts_with,
  ends_with,
  white,
  blank,
  digit,
  one,
  trim_end_matches,
  trim_ascii_end,
  trim_ascii_start,
  is_blank,
  words,
}
use Rattle.spec.specs.Out.{Step, cut, keep, push, replace, and_then, beside, nested}
use Rattle.spec.specs.Md.Constants.{ALWAYS_ESCAPED, LINE_START_ESCAPED}
use Rattle.spec.specs.Md.Ctx.{new}
use Rattle.spec.specs.declared.ctx.FormatOpts.{FormatOpts}

-- ---- escapes

-- a word of digits and `.` or `)`
unfoldable pub is_ordered_list_marker : Bytes → Bool
is_ordered_list_marker chunk =
    let stem = take (length chunk - 1) chunk in
    (ends_with (ascii ".") chunk || ends_with (ascii ")") chunk) && (not (null stem) && every digit stem)

-- s without the marker of a list item that it ends with, if a blank stands behind that
unfoldable pub before_marker : Bytes → Bytes
before_marker stem =
    let s = take (length stem - 1) stem in
    let before = trim_end_matches (one (λ b. not (isin b (ascii " \n")))) s in
    let word = drop (length before) s in
    let marker = same word (ascii "-") || (same word (ascii "+") || is_ordered_list_marker word) in
    cond (ends_with (ascii " ") stem && marker) before stem

-- nothing but blanks stands between the beginning of a line and the end of the text
unfoldable pub at_indent : Bytes → Bool
at_indent text = let indent = trim_end_matches (one blank) text in null indent || ends_with (ascii "\n") indent

-- the text ends with one to nine digits that begin a line or an item
unfoldable pub ends_with_marker_digits : Bytes → Bool
ends_with_marker_digits text =
    let stem = trim_end_matches (one digit) text in
    let n = length text - length stem in
    (leb 1 n && leb n 9) && at_indent (before_marker stem)

-- whether byte b of a chunk is escaped, where `rest` follows it: `start` says that b is the chunk's first byte and stands
-- at the beginning of a line, `marker` that the chunk is a list marker there, `underline` that it consists of `=` there
unfoldable pub is_escaped : Bool → Bool → Bool → ℕ → Bytes → Bool
is_escaped start marker underline b rest =
    isin b ALWAYS_ESCAPED
    || ((start && isin b LINE_START_ESCAPED)
    || ((eqb b 33 && starts_with (ascii "[") rest)
    || ((marker && isin b (ascii ".)")) || (start && (underline && eqb b 61)))))

unfoldable pub escaped_from : Bool → Bool → Bool → Bytes → Bytes
escaped_from start marker underline [] = []
escaped_from start marker underline (b ∷ rest) =
    cond (is_escaped start marker underline b rest) (ascii "\\") [] ++ (b ∷ escaped_from false marker underline rest)

-- what `push_escaped_chunk` appends
unfoldable pub escaped_chunk : Bytes → Bool → Bool → Bytes
escaped_chunk chunk escape line_start =
    let marker = line_start && is_ordered_list_marker chunk in
    let underline = every (λ b. eqb b 61) chunk in
    cond escape (escaped_from line_start marker underline chunk) chunk

unfoldable pub push_escaped_chunk : Bytes → Bool → Bool → Step
push_escaped_chunk chunk escape line_start = push (escaped_chunk chunk escape line_start)

-- ---- texts

unfoldable pub ends_with_white : Bytes → Bool
ends_with_white s = not (same (trim_ascii_end s) s)

unfoldable pub starts_with_white : Bytes → Bool
starts_with_white [] = false
starts_with_white (b ∷ s) = white b

-- the words behind the first
unfoldable pub more_words : Bool → List Bytes → Bytes
more_words escape [] = []
more_words escape (w ∷ ws) = ascii " " ++ (escaped_chunk w escape false ++ more_words escape ws)

-- what a text's words add to `text`, under f_opts: the words themselves keep no white byte, so that a blank behind them
-- stands for those at the text's end
unfoldable pub normalized_words : FormatOpts → Bytes → Bytes → List Bytes → Bytes
normalized_words opts text newText [] = []
normalized_words opts text newText (first ∷ more) =
    let escape = not opts.skip_escape in
    let followsNewline = (ends_with (ascii "\n") text || ends_with (ascii " ") text) || null text in
    let startWhite = (opts.inline || not followsNewline) && starts_with_white newText in
    let isLineStart = (null text || ends_with (ascii "\n") text) || opts.list_item in
    let dot = same first (ascii ".") || same first (ascii ")") in
    let lead = cond startWhite (ascii " ") (cond (escape && (dot && ends_with_marker_digits text)) (ascii "\\") []) in
    lead
    ++ (escaped_chunk first escape isLineStart ++ (more_words escape more ++ cond (ends_with_white newText) (ascii " ") []))

-- what `push_normalized_text` appends
unfoldable pub normalized : FormatOpts → Bytes → Bytes → Bytes
normalized opts text newText =
    cond
    (not (ends_with (ascii "\n") text || ends_with (ascii " ") text) && (not (null newText) && is_blank newText))
    (ascii " ")
    (normalized_words opts text newText (words newText))

unfoldable pub push_normalized_text : Bytes → FormatOpts → Step
push_normalized_text newText opts text = push (normalized opts text newText) text

-- `!` before what begins with `[` would make an image of it
unfoldable pub escape_trailing_bang : Step
escape_trailing_bang text =
    cond (ends_with (ascii "!") text) (replace (λ t. take (length t - 1) t ++ ascii "\\!") text) (keep text)

-- ---- blanks and line breaks

unfoldable pub trim_blanks : Bytes → Bytes
trim_blanks s = trim_end_matches (one blank) s

unfoldable pub trim_trailing_space : Step
trim_trailing_space = cut trim_blanks

-- at most n line breaks, until the text ends with `end`
unfoldable pub breaks_until : ℕ → Bytes → Bytes → Step
breaks_until zero linebreak end text = keep text
breaks_until (suc n) linebreak end text =
    let more = and_then (push linebreak text) (breaks_until n linebreak end) in
    cond (ends_with end text) (keep text) more

-- `end` consists of line breaks, so that as many as it has bytes are enough
unfoldable pub add_linebreaks : Bytes → Bytes → Step
add_linebreaks linebreak end text = and_then (trim_trailing_space text) (breaks_until (length end) linebreak end)

unfoldable pub push_block_space : Step
push_block_space text = cond (null text || ends_with_white text) (keep text) (push (ascii " ") text)

unfoldable pub trim_space : Step
trim_space = cut (λ t. trim_ascii_start (trim_ascii_end t))

-- ---- link destinations and titles

-- HTML Standard, "escaping a string" in attribute mode, without `<` and `>`: `&`, U+00A0 and `"` are replaced. U+00A0 has
-- two bytes, and `second` says that its second is next
unfoldable pub is_nbsp : ℕ → Bytes → Bool
is_nbsp b rest = eqb b 0xC2 && starts_with (0xA0 ∷ []) rest

unfoldable pub entity : ℕ → Bytes → Bytes
entity b rest =
    cond (eqb b 38) (ascii "&amp;") (cond (eqb b 34) (ascii "&quot;") (cond (is_nbsp b rest) (ascii "&nbsp;") (b ∷ [])))

unfoldable pub html_from : Bool → Bytes → Bytes
html_from second [] = []
html_from second (b ∷ s) = cond second [] (entity b s) ++ html_from (not second && is_nbsp b s) s

unfoldable pub html_escape : Bytes → Bytes
html_escape text = html_from false text

-- a blank, `<`, a control byte
unfoldable pub wants_wrap : ℕ → Bool
wants_wrap b = isin b (ascii " <") || (leb b 31 || eqb b 127)

-- the balance of parentheses is signed in the Rust; it falls below zero just where a `)` comes at zero
unfoldable pub needs_wrap : ℕ → Bytes → Bool
needs_wrap balance [] = not (eqb balance 0)
needs_wrap zero (b ∷ s) = (eqb b 41 || wants_wrap b) || needs_wrap (cond (eqb b 40) 1 0) s
needs_wrap (suc n) (b ∷ s) = wants_wrap b || needs_wrap (cond (eqb b 40) (suc (suc n)) (cond (eqb b 41) n (suc n))) s

unfoldable pub wrapped_byte : ℕ → Bytes
wrapped_byte b =
    cond (isin b (ascii "\\<>")) (ascii "\\" ++ (b ∷ []))
    (cond (eqb b 10) (ascii "%0A") (cond (eqb b 13) (ascii "%0D") (b ∷ [])))

unfoldable pub backslash_twice : ℕ → Bytes
backslash_twice b = cond (eqb b 92) (ascii "\\\\") (b ∷ [])

unfoldable pub quote_escaped : ℕ → Bytes
quote_escaped b = cond (eqb b 34) (ascii "\\\"") (b ∷ [])

unfoldable pub each_byte : (ℕ → Bytes) → Bytes → Bytes
each_byte f [] = []
each_byte f (b ∷ s) = f b ++ each_byte f s

-- what `push_md_url` appends for a destination behind `html_escape`
unfoldable pub destination : Bytes → Bytes
destination dest =
    cond (needs_wrap 0 dest) (ascii "<" ++ (each_byte wrapped_byte dest ++ ascii ">")) (each_byte backslash_twice dest)

unfoldable pub push_md_url : Bytes → Step
push_md_url dest = push (destination (html_escape dest))

-- a title that holds a quote mark is a text of its own before it is appended
unfoldable pub quoted_title : Bytes → Step
quoted_title title =
    let normalized = push_normalized_text title new [] in
    nested normalized (λ t. beside (length normalized.text) (push (each_byte quote_escaped normalized.text) t))

unfoldable pub push_title : Bytes → Step
push_title title text =
    and_then
    (and_then (push (ascii " \"") text) (cond (isin 34 title) (quoted_title title) (push_normalized_text title new)))
    (push (ascii "\""))
