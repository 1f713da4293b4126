-- `elements/code.rs`.
use Rattle.std.specs.Prelude.{ℕ, suc, ◌+◌, max, Bool, false, cond, not, ◌&&◌, ◌||◌, List, [], ◌∷◌, ◌++◌, length, take, drop, replicate, eqb, leb}
use Rattle.std.proofs.Math.Option.{Option, none, some}
use Rattle.spec.specs.Bytes.{
  Bytes,
  ascii,
  null,
  isin,
  among,
  every,
  starts_with,
  ends_with,
  blank,
  digit,
  one,
  trim_end_matches,
  trim_start_matches,
  trim,
  words,
  first_word,
  join,
  or_else,
  or_nothing,
}
use Rattle.spec.specs.Names as tag
use Rattle.spec.specs.Names.{tag_of}
use Rattle.spec.specs.Tree.{Attr, Forest, nothing, text, comment, element, attr, text_of}
use Rattle.spec.specs.Out.{Step, keep, push, and_then, beside, nested}
use Rattle.spec.specs.Md.Constants.{CODE_LANGUAGE_ATTRIBUTES, CODE_LANGUAGE_PREFIX}
use Rattle.spec.specs.Md.TextUtils.{push_normalized_text, push_block_space, trim_blanks}
use Rattle.spec.specs.Md.Ctx.{fresh, include_node, inline, skip_escape, skip_md}
use Rattle.spec.specs.Md.MDSerializer.{Ancestors, MDSerializer}
use Rattle.spec.specs.declared.ctx.FormatOpts.{FormatOpts}

-- ---- the language of a code block

unfoldable pub is_alphanumeric : ℕ → Bool
is_alphanumeric b = digit b || ((leb 65 b && leb b 90) || (leb 97 b && leb b 122))

unfoldable pub filter : (ℕ → Bool) → Bytes → Bytes
filter p [] = []
filter p (b ∷ s) = cond (p b) (b ∷ filter p s) (filter p s)

unfoldable pub sanitize_attr_value : Bytes → Bytes
sanitize_attr_value raw = filter (λ b. is_alphanumeric b || isin b (ascii "-_+.#")) (first_word (words raw))

-- the first of an element's attributes that has one of the two names, also where its value is empty
unfoldable pub find_code_lang_attribute : List Attr → Option Bytes
find_code_lang_attribute [] = none
find_code_lang_attribute (a ∷ more) =
    cond (among a.name CODE_LANGUAGE_ATTRIBUTES) (some (sanitize_attr_value a.value))
    (find_code_lang_attribute more)

-- the language of the first of some elements that has one
unfoldable pub nearest_language : List (List Attr) → Option Bytes
nearest_language [] = none
nearest_language (attrs ∷ more) =
    let further = nearest_language more in
    or_else (find_code_lang_attribute attrs) further

unfoldable pub language_class : List Bytes → Option Bytes
language_class [] = none
language_class (w ∷ ws) =
    cond (starts_with CODE_LANGUAGE_PREFIX w) (some (sanitize_attr_value (drop (length CODE_LANGUAGE_PREFIX) w)))
    (language_class ws)

unfoldable pub class_language : Option Bytes → Option Bytes
class_language none = none
class_language (some s) = language_class (words s)

-- of the first `code` among the children
unfoldable pub find_code_language_css_class : Forest → Option Bytes
find_code_language_css_class nothing = none
find_code_language_css_class (text s rest) = find_code_language_css_class rest
find_code_language_css_class (comment s rest) = find_code_language_css_class rest
find_code_language_css_class (element name attrs kids rest) =
    cond (eqb (tag_of name) tag.code) (class_language (attr (ascii "class") attrs)) (find_code_language_css_class rest)

-- the element's own, or of three elements around it, or of its first `code`
unfoldable pub find_code_language : Ancestors → List Attr → Forest → Option Bytes
find_code_language anc attrs kids =
    or_else (nearest_language (attrs ∷ take 3 anc)) (find_code_language_css_class kids)

-- ---- backticks

-- the longest run of backticks in s, where a run of n stands before it
unfoldable pub longest_run : ℕ → Bytes → ℕ
longest_run n [] = n
longest_run n (b ∷ s) = cond (eqb b 96) (longest_run (suc n) s) (max n (longest_run 0 s))

unfoldable pub max_backtick_run : Bytes → ℕ
max_backtick_run s = longest_run 0 s

unfoldable pub backticks : ℕ → Bytes
backticks n = replicate n 96

-- CommonMark, code spans: "If the resulting string both begins and ends with a space character, but does not consist
-- entirely of space characters, a single space character is removed from the front and back." A backtick at either end
-- would join the fence
unfoldable pub needs_space : Bytes → Bool
needs_space s =
    (starts_with (ascii "`") s || ends_with (ascii "`") s)
    || ((starts_with (ascii " ") s && ends_with (ascii " ") s) && not (every blank s))

-- a code span; the code is a text of `inBeing` bytes that counts until its content is appended
unfoldable pub code_span : ℕ → Bytes → Step
code_span inBeing code t =
    let fence = backticks (max_backtick_run code + 1) in
    let space = cond (needs_space code) (ascii " ") [] in
    let apart = cond (ends_with (ascii "`") t) (ascii " ") [] in
    and_then (beside inBeing (push (apart ++ (fence ++ (space ++ code))) t)) (push (space ++ fence))

unfoldable pub push_code_text : ℕ → Bytes → Step
push_code_text inBeing code t = cond (null code) (keep t) (code_span inBeing code t)

-- ---- `pre` and `code`

-- in a link's text: the words as a code span
unfoldable pub pre_in_link : Bytes → Step
pre_in_link content t =
    and_then (and_then (push_block_space t) (push_code_text 0 (join (ascii " ") (words content)))) push_block_space

-- CommonMark, fenced code blocks: the closing fence "must be at least as long as the opening fence"
unfoldable pub fenced_block : Bytes → Bytes → Bytes
fenced_block lang content =
    let fence = backticks (max (max_backtick_run content) 2 + 1) in
    let ended = null content || ends_with (ascii "\n") content in
    fence ++ (lang ++ (ascii "\n" ++ (content ++ (cond ended [] (ascii "\n") ++ (fence ++ ascii "\n")))))

unfoldable pub write_pre : Ancestors → FormatOpts → List Attr → Forest → Step
write_pre anc opts attrs kids t =
    let content = text_of kids in
    let lang = or_nothing (find_code_language anc attrs kids) in
    let begin = cond (ends_with (ascii "\n\n") t) [] (ascii "\n") in
    cond opts.link_body (pre_in_link content t) (push (begin ++ fenced_block lang content) t)

-- some text below holds LF between other characters than White_Space
unfoldable pub is_multiline : Forest → Bool
is_multiline nothing = false
is_multiline (text s rest) = isin 10 (trim s) || is_multiline rest
is_multiline (comment s rest) = is_multiline rest
is_multiline (element name attrs kids rest) = is_multiline kids || is_multiline rest

-- the options of the content of `code`
abbrev pub code_opts : FormatOpts → FormatOpts
code_opts opts = skip_md (skip_escape (inline (include_node (fresh opts))))

-- a `br` is a blank where Markdown is left out
unfoldable pub blank_for_br : ℕ → Step
blank_for_br name t = cond (eqb name tag.br && not (ends_with (ascii " ") t)) (push (ascii " ") t) (keep t)

unfoldable pub close_skip_md : ℕ → Step
close_skip_md name t = cond (ends_with (ascii "\n\n") t) (keep t) (blank_for_br name t)

-- `write` under `skip_md`, which reaches no other writer
unfoldable pub write_skip_md : List Bytes → FormatOpts → Forest → Step
write_skip_md skips opts nothing t = keep t
write_skip_md skips opts (text s rest) t =
    and_then (push_normalized_text s opts t) (write_skip_md skips opts rest)
write_skip_md skips opts (comment s rest) t = write_skip_md skips opts rest t
write_skip_md skips opts (element name attrs kids rest) t =
    let inner = and_then (write_skip_md skips opts kids t) (close_skip_md (tag_of name)) in
    and_then (cond (among name skips) (keep t) inner) (write_skip_md skips opts rest)

unfoldable pub is_tab_or_blank : ℕ → Bool
is_tab_or_blank b = isin b (ascii " \t")

-- white bytes round a line end at an edge of `raw` are no content
unfoldable pub trim_edges : Bytes → Bytes → Bytes
trim_edges raw code =
    let ended = cond (ends_with (ascii "\n") (trim_end_matches (one is_tab_or_blank) raw)) (trim_blanks code) code in
    cond (starts_with (ascii "\n") (trim_start_matches is_tab_or_blank raw)) (trim_start_matches blank ended) ended

-- one line of code
unfoldable pub inline_code : MDSerializer → FormatOpts → Bytes → List Attr → Forest → Step
inline_code self opts name attrs kids =
    let written = write_skip_md self.skip_tags (code_opts opts) (element name attrs kids nothing) [] in
    let code = trim_edges (text_of kids) written.text in
    nested written (push_code_text (length code) code)

unfoldable pub write_code : MDSerializer → Ancestors → FormatOpts → Bytes → List Attr → Forest → Step
write_code self anc opts name attrs kids t =
    cond (is_multiline kids) (write_pre anc opts attrs kids t) (inline_code self opts name attrs kids t)
