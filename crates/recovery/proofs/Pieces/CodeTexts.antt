-- The code texts of the writer hold no line ends.
use Rattle.std.specs.Prelude.{ℕ, ◌≡◌, Bool, true, cond, not, ◌&&◌, ◌||◌, List, [], ◌∷◌, eqb}
use Rattle.std.proofs.Math.Path.{refl}
use Rattle.std.proofs.Common.{ap}
use Rattle.std.proofs.Math.Bool.{false}
use Rattle.spec.specs.Bytes.{Bytes, ascii, null, same, isin, among, every, ends_with, starts_with, white, blank, one, unless, trim_end_matches, trim_start_matches, is_blank, words, join_rest, join}
use Rattle.spec.specs.Names as tag
use Rattle.spec.specs.Names.{tag_of}
use Rattle.spec.specs.Tree.{Attr, Forest, nothing, text, comment, element, text_of}
use Rattle.spec.specs.Out.{Out, keep, push, and_then}
use Rattle.spec.specs.Md.TextUtils.{ends_with_marker_digits, is_escaped, escaped_from, escaped_chunk, starts_with_white, ends_with_white, more_words, normalized_words, normalized, push_normalized_text, trim_blanks}
use Rattle.spec.specs.Md.Elements.Code.{blank_for_br, close_skip_md, write_skip_md, is_tab_or_blank, trim_edges, code_opts}
use Rattle.spec.specs.declared.ctx.FormatOpts.{FormatOpts}
use Rattle.spec.proofs.Tests.{and_l, and_r, isin_no, every_app, every_byte}
use Rattle.recovery.proofs.Words.{all_of, words_all}
use Rattle.recovery.proofs.Pieces.CodeSpans.{unbreaking}

abbrev Line : Bytes → Type 0
Line s = every unbreaking s ≡ true

-- ---- words

black_line : (b : ℕ) → white b ≡ false → unbreaking b ≡ true
unfolding unbreaking
black_line b h = ap not (isin_no (λ c. not (white c)) b (10 ∷ 13 ∷ []) (ap not h) (unfold every white isin in refl))

words_lines : (s : Bytes) → all_of unbreaking (words s) ≡ true
words_lines s = words_all (λ b. true) unbreaking (λ b e h. black_line b e) s (every_byte s)

if_line : (t : Bool) (x y : Bytes) → Line x → Line y → Line (cond t x y)
if_line true x y h k = h
if_line false x y h k = k

blank_line_lem : Line (ascii " ")
unfolding every unbreaking isin
blank_line_lem = refl

slash_line : Line (ascii "\\")
unfolding every unbreaking isin
slash_line = refl

no_line : Line []
unfolding every
no_line = refl

from_line : (start marker underline : Bool) (w : Bytes) → Line w → Line (escaped_from start marker underline w)
unfolding escaped_from every
from_line start marker underline [] h = refl
from_line start marker underline (b ∷ w) h =
    every_app unbreaking (cond (is_escaped start marker underline b w) (ascii "\\") []) (b ∷ escaped_from false marker underline w)
    (if_line (is_escaped start marker underline b w) (ascii "\\") [] slash_line no_line)
    (rw (and_l (unbreaking b) _ h) (from_line false marker underline w (and_r (unbreaking b) _ h)))

chunk_line : (escape start : Bool) (w : Bytes) → Line w → Line (escaped_chunk w escape start)
unfolding escaped_chunk
chunk_line true start w h = from_line start _ _ w h
chunk_line false start w h = h

more_line : (escape : Bool) (ws : List Bytes) → all_of unbreaking ws ≡ true → Line (more_words escape ws)
unfolding more_words all_of
more_line escape [] h = no_line
more_line escape (w ∷ ws) h =
    every_app unbreaking (ascii " ") _ blank_line_lem
    (every_app unbreaking (escaped_chunk w escape false) _ (chunk_line escape false w (and_l (every unbreaking w) _ h))
    (more_line escape ws (and_r (every unbreaking w) _ h)))

normal_words : (opts : FormatOpts) (t s : Bytes) (ws : List Bytes) → all_of unbreaking ws ≡ true → Line (normalized_words opts t s ws)
unfolding normalized_words all_of
normal_words opts t s [] h = no_line
normal_words opts t s (w ∷ ws) h =
    let escape : Bool = not opts.skip_escape in
    let follows : Bool = (ends_with (ascii "\n") t || ends_with (ascii " ") t) || null t in
    let start : Bool = (null t || ends_with (ascii "\n") t) || opts.list_item in
    let dot : Bool = same w (ascii ".") || same w (ascii ")") in
    let lead : Bytes = cond (escape && (dot && ends_with_marker_digits t)) (ascii "\\") [] in
    every_app unbreaking (cond ((opts.inline || not follows) && starts_with_white s) (ascii " ") lead) _
    (if_line ((opts.inline || not follows) && starts_with_white s) (ascii " ") lead blank_line_lem
    (if_line (escape && (dot && ends_with_marker_digits t)) (ascii "\\") [] slash_line no_line))
    (every_app unbreaking (escaped_chunk w escape start) _ (chunk_line escape start w (and_l (every unbreaking w) _ h))
    (every_app unbreaking (more_words escape ws) _ (more_line escape ws (and_r (every unbreaking w) _ h))
    (if_line (ends_with_white s) (ascii " ") [] blank_line_lem no_line)))

normal_line : (opts : FormatOpts) (t s : Bytes) → Line (normalized opts t s)
unfolding normalized
normal_line opts t s =
    if_line (not (ends_with (ascii "\n") t || ends_with (ascii " ") t) && (not (null s) && is_blank s)) (ascii " ") _ blank_line_lem
    (normal_words opts t s (words s) (words_lines s))

-- ---- the content of `code`

out_line : (c : Bool) (a b : Out) → Line a.text → Line b.text → Line (cond c a b).text
out_line true a b h k = h
out_line false a b h k = k

text_line_lem : (s : Bytes) (opts : FormatOpts) (t : Bytes) → Line t → Line (push_normalized_text s opts t).text
unfolding push_normalized_text push
text_line_lem s opts t h = every_app unbreaking t (normalized opts t s) h (normal_line opts t s)

close_line_lem : (name : ℕ) (t : Bytes) → Line t → Line (close_skip_md name t).text
unfolding close_skip_md blank_for_br keep push
close_line_lem name t h =
    out_line (ends_with (ascii "\n\n") t) _ _ h
    (out_line (eqb name tag.br && not (ends_with (ascii " ") t)) _ _ (every_app unbreaking t (ascii " ") h blank_line_lem) h)

skip_line : (skips : List Bytes) (opts : FormatOpts) (f : Forest) (t : Bytes) → Line t → Line (write_skip_md skips opts f t).text
unfolding write_skip_md and_then keep
skip_line skips opts nothing t h = h
skip_line skips opts (text s rest) t h = skip_line skips opts rest _ (text_line_lem s opts t h)
skip_line skips opts (comment s rest) t h = skip_line skips opts rest t h
skip_line skips opts (element name attrs kids rest) t h =
    skip_line skips opts rest _
    (out_line (among name skips) (keep t) (and_then (write_skip_md skips opts kids t) (close_skip_md (tag_of name))) h
    (close_line_lem (tag_of name) _ (skip_line skips opts kids t h)))

-- ---- its edges

end_line : (p : Bytes → Bool) (s : Bytes) → Line s → Line (trim_end_matches p s)
unfolding trim_end_matches every
end_line p [] h = refl
end_line p (b ∷ s) h = go (p (b ∷ trim_end_matches p s)) (end_line p s (and_r (unbreaking b) _ h))
  where
    go : (t : Bool) → Line (trim_end_matches p s) → Line (unless t (b ∷ trim_end_matches p s))
    go true k = unfold unless in refl
    go false k = unfold unless in rw (and_l (unbreaking b) _ h) k

start_line : (p : ℕ → Bool) (s : Bytes) → Line s → Line (trim_start_matches p s)
unfolding trim_start_matches every
start_line p [] h = refl
start_line p (b ∷ s) h = if_line (p b) (trim_start_matches p s) (b ∷ s) (start_line p s (and_r (unbreaking b) _ h)) h

edges_line : (raw code : Bytes) → Line code → Line (trim_edges raw code)
unfolding trim_edges trim_blanks
edges_line raw code h =
    let e : Bool = ends_with (ascii "\n") (trim_end_matches (one is_tab_or_blank) raw) in
    let b : Bool = starts_with (ascii "\n") (trim_start_matches is_tab_or_blank raw) in
    let ended : Bytes = cond e (trim_end_matches (one blank) code) code in
    let k : Line ended = if_line e (trim_end_matches (one blank) code) code (end_line (one blank) code h) h in
    if_line b (trim_start_matches blank ended) ended (start_line blank ended k) k

-- the text of a `code` that is one line, as `write_code` gives it to `push_code_text`
pub inline_code_line : (skips : List Bytes) (opts : FormatOpts) (name : Bytes) (attrs : List Attr) (kids : Forest)
    → every unbreaking (trim_edges (text_of kids) (write_skip_md skips (code_opts opts) (element name attrs kids nothing) []).text) ≡ true
inline_code_line skips opts name attrs kids =
    edges_line (text_of kids) _ (skip_line skips (code_opts opts) (element name attrs kids nothing) [] no_line)

-- and that of a `pre` in a link's text
join_line : (ws : List Bytes) → all_of unbreaking ws ≡ true → Line (join_rest (ascii " ") ws)
unfolding join_rest all_of
join_line [] h = no_line
join_line (w ∷ ws) h =
    every_app unbreaking (ascii " ") _ blank_line_lem
    (every_app unbreaking w _ (and_l (every unbreaking w) _ h) (join_line ws (and_r (every unbreaking w) _ h)))

words_line : (ws : List Bytes) → all_of unbreaking ws ≡ true → Line (join (ascii " ") ws)
unfolding join all_of
words_line [] h = no_line
words_line (w ∷ ws) h = every_app unbreaking w _ (and_l (every unbreaking w) _ h) (join_line ws (and_r (every unbreaking w) _ h))

pub link_code_line : (content : Bytes) → every unbreaking (join (ascii " ") (words content)) ≡ true
link_code_line content = words_line (words content) (words_lines content)
