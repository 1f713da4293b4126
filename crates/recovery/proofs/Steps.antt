-- The reading of blocks that are one line: a rule, a heading, a paragraph, behind an empty line.
use Rattle.std.specs.Prelude.{ℕ, suc, ◌<◌, ◌≡◌, refl, true, false, List, [], ◌∷◌, ◌++◌, map, length}
use Rattle.std.proofs.Common.{ap, append-nil}
use Rattle.std.proofs.Math.Bool.{and-false}
use Rattle.spec.specs.Bytes.{Bytes, ascii, null, every}
use Rattle.spec.specs.Entries.{word, Entry, rule, heading, paragraph}
use Rattle.spec.specs.Reading.Lines.{space_or_tab, blank_line}
use Rattle.spec.specs.Reading.Inline.{inline}
use Rattle.spec.specs.Reading.Definitions.{definition}
use Rattle.spec.specs.Reading.Starts.{rule_start, thematic_break, rule_or, bullet, lead, start_by, start, start_in}
use Rattle.spec.specs.Reading.Held.{State, state, no_leaf, text_leaf, free_role, closed, text_entries, is_raw, is_fresh, is_paragraph, is_table, is_quote}
use Rattle.spec.specs.Reading.Step.{kept, all_kept, base, alone, role_in, text_by, goes_on, text_line, one_line, line_by, line_in, line, blank_step, leaf_step, step_by, step}
use Rattle.spec.specs.Reading.{finish}
use Rattle.recovery.proofs.Words.{plain_words}
use Rattle.recovery.proofs.Escapes.{inline_phrase, inline_heading}
use Rattle.recovery.proofs.Starts.{start_phrase}
use Rattle.recovery.proofs.Markers.{opens, opens_phrase, opens_definition, opens_solid, solid, solid_null, indented_blank, indented_column, indented_strip}
use Rattle.recovery.proofs.Headings.{start_heading}
use Rattle.recovery.proofs.Joined.{begun}
use Rattle.recovery.specs.Closed.{phrase, heading_line}

-- ---- what the reading has reached

-- The entries o are read: an empty line closes whatever is open but items, which go on at column 0 with nothing, and so does the
-- end of the text
pub record Reached (o : List Entry) (s : State) : Type 0 where
  pub columns : List ℕ
  pub left : kept 0 columns ≡ []
  pub behind : step s [] ≡ state o columns no_leaf
  pub ended : finish s ≡ o

-- before any line nothing is read
pub reached_begun : Reached [] begun
unfolding kept step step_by leaf_step blank_step is_raw is_fresh blank_line every closed finish
reached_begun = record { columns = []; left = refl; behind = refl; ended = refl }

-- a line at column 0, behind an empty line, is taken by what it begins
pub step_zero : (o : List Entry) (op : List ℕ) (l : Bytes) → kept 0 op ≡ [] → solid l ≡ true
    → step (state o op no_leaf) l ≡ line_by (line (length l)) (start l) (all_kept 0 op) [] 0 l o op no_leaf
unfolding step step_by leaf_step is_raw line line_in is_paragraph base start_in
step_zero o op l k h =
    rw (indented_blank 0 l h, indented_column 0 0 l h, indented_strip 0 l h, k, and-false (all_kept 0 op))

-- an empty line behind an empty line changes nothing
pub step_empty : (o : List Entry) (op : List ℕ) → step (state o op no_leaf) [] ≡ state o op no_leaf
unfolding step step_by leaf_step blank_step is_raw is_fresh blank_line every closed
step_empty o op = rw (append-nil o)

pub reached_flat : (o : List Entry) → Reached o (state o [] no_leaf)
unfolding kept finish closed
reached_flat o = record { columns = []; left = refl; behind = step_empty o []; ended = append-nil o }

reached_one : (e : Entry) (o : List Entry) → Reached (o ++ (e ∷ [])) (one_line e [] o no_leaf)
unfolding one_line alone null closed Rattle.spec.specs.Reading.Held.entry_if
reached_one e o = reached_flat (o ++ (e ∷ []))

-- ---- rules and headings

start_rule : start (ascii "---") ≡ rule_start
unfolding start start_by lead rule_or thematic_break bullet
start_rule = refl

pub read_rule : (o : List Entry) (op : List ℕ) → kept 0 op ≡ [] → Reached (o ++ (rule ∷ [])) (step (state o op no_leaf) (ascii "---"))
unfolding line_by solid space_or_tab
read_rule o op k = rw (step_zero o op (ascii "---") k refl, start_rule) (reached_one rule o)

heading_solid : (level : ℕ) (ws : List Bytes) → solid (heading_line (suc level) ws) ≡ true
unfolding heading_line solid space_or_tab
heading_solid level ws = refl

pub read_heading : (o : List Entry) (op : List ℕ) (level : ℕ) (ws : List Bytes) → kept 0 op ≡ [] → level < 6 → plain_words ws ≡ true
    → Reached (o ++ (heading (suc level) (map word ws) ∷ [])) (step (state o op no_leaf) (heading_line (suc level) ws))
unfolding line_by
read_heading o op level ws k l h =
    rw (
      step_zero o op (heading_line (suc level) ws) k (heading_solid level ws),
      start_heading level ws l h,
      inline_heading ws h,
    )
    (reached_one (heading (suc level) (map word ws)) o)

-- ---- paragraphs

-- words that are no link definition
text_entry : (t : Bytes) → definition t ≡ false → closed (text_leaf free_role t) ≡ paragraph (inline t) ∷ []
unfolding closed text_entries
text_entry t h = rw h

reached_text : (o : List Entry) (t : Bytes) → definition t ≡ false → null t ≡ false
    → Reached (o ++ (paragraph (inline t) ∷ [])) (state o [] (text_leaf free_role t))
unfolding kept finish step step_by leaf_step blank_step is_raw is_fresh blank_line every
reached_text o t h n =
    record { columns = []; left = refl; behind = rw (n, text_entry t h); ended = ap (λ (e : List Entry). o ++ e) (text_entry t h) }

pub read_paragraph : (o : List Entry) (op : List ℕ) (w : Bytes) (ws : List Bytes) → kept 0 op ≡ [] → plain_words (w ∷ ws) ≡ true
    → Reached (o ++ (paragraph (map word (w ∷ ws)) ∷ [])) (step (state o op no_leaf) (phrase (w ∷ ws)))
unfolding line_by text_line text_by goes_on is_paragraph is_fresh is_table is_quote role_in closed
read_paragraph o op w ws k h =
    let t : Bytes = phrase (w ∷ ws) in
    let n : opens t ≡ true = opens_phrase w ws h in
    let r : Reached (o ++ (paragraph (inline t) ∷ [])) (state o [] (text_leaf free_role t)) =
    reached_text o t (opens_definition t n) (solid_null t (opens_solid t n)) in
    rw (
      step_zero o op (phrase (w ∷ ws)) k (opens_solid (phrase (w ∷ ws)) (opens_phrase w ws h)),
      start_phrase w ws h,
      and-false (all_kept 0 op),
      append-nil o,
    )
    (rw (inline_phrase (w ∷ ws) h) at r)
