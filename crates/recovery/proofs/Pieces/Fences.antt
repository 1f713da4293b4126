-- Fences: a written block is one fenced code block with that content and info string.
use Rattle.std.specs.Prelude.{ℕ, suc, ◌≤◌, ◌<◌, max, ◌≡◌, Bool, false, not, ◌||◌, leb}
use Rattle.std.proofs.Common.{arith, ◌∙◌, le-leb}
use Rattle.std.proofs.Math.Path.{refl, ap}
use Rattle.std.proofs.Math.Bool.{true, and-false}
use mathlib.Core.List.{List, [], ◌∷◌, ◌++◌, append-nil, append_assoc}
use Rattle.std.proofs.Math.Option.{some}
use Rattle.std.proofs.Math.ListN.{replicate}
use Rattle.spec.specs.Bytes.{Bytes, ascii, null, isin, every, digit, trim_end_matches}
use Rattle.spec.specs.Plain.{fixed_text}
use Rattle.spec.specs.SheetList.{with_final_lf}
use Rattle.spec.specs.Md.Elements.Code.{is_alphanumeric, longest_run, max_backtick_run, fenced_block}
use Rattle.spec.specs.Reading.Lines.{space_or_tab, blank_line, head_is, drop_while, run, drop_run, column, strip, safe_byte, safe, cut_lines, ends_line, line_byte, without_last, lines}
use Rattle.spec.specs.Reading.Starts.{fence_start, fence_by, fence, closing_fence, lead, start_by, start}
use Rattle.spec.specs.Pieces.Fences.{info_string, closes, content_of, fenced_by, fenced}
use Rattle.spec.specs.Pieces.Links.{References, meaning}
use Rattle.spec.proofs.Tests.{and_l, and_r, apart, isin_no, isin_lacks, every_app, every_imp, every_replicate}
use Rattle.recovery.proofs.Fences.{Under, under_first, under_lines, no_close, unindent_zero, ended, ended_final, run_front, drop_front, run_fence, drop_fence}
use Rattle.recovery.proofs.Pieces.Meanings.{literal, means, means_itself}
use Rattle.recovery.proofs.Joined.{in_line, clean, clean_app, safe_line, cut_line}
use Rattle.recovery.proofs.Clean.{fixed_lines_lem}
use Rattle.recovery.specs.Closed.{fixed_lines, fence_of}
use Rattle.recovery.proofs.Written.Fences.{block_lines_lem}
use Rattle.recovery.proofs.Written.Ends.{last_none, trim_fix}

-- ---- lines, each ended

safe_ended : (ls : List Bytes) (more : Bytes) → clean ls ≡ true → safe (ended ls ++ more) ≡ ended ls ++ safe more
unfolding ended clean
safe_ended [] more h = refl
safe_ended (l ∷ ls) more h =
    let e : safe (10 ∷ (ended ls ++ more)) ≡ 10 ∷ safe (ended ls ++ more) = unfold safe safe_byte in refl in
    rw (
      append_assoc l (10 ∷ ended ls) more,
      safe_line l _ (and_l (every in_line l) _ h),
      e,
      safe_ended ls more (and_r (every in_line l) _ h),
      append_assoc l,
    )

lines_line : (l z : Bytes) → every in_line l ≡ true → lines (l ++ (10 ∷ z)) ≡ l ∷ lines z
unfolding lines
lines_line l z h =
    let e : cut_lines (10 ∷ z) ≡ ([], (cut_lines z).0 ∷ (cut_lines z).1) = unfold cut_lines ends_line line_byte in refl in
    rw (cut_line l (10 ∷ z) h, e, append-nil l) (unfold without_last null in refl)

lines_ended : (ls : List Bytes) (more : Bytes) → clean ls ≡ true → lines (ended ls ++ more) ≡ ls ++ lines more
unfolding ended clean
lines_ended [] more h = refl
lines_ended (l ∷ ls) more h =
    rw (
      append_assoc l (10 ∷ ended ls) more,
      lines_line l (ended ls ++ more) (and_l (every in_line l) _ h),
      lines_ended ls more (and_r (every in_line l) _ h),
    )

-- ---- the content

closes_not : (n : ℕ) (l : Bytes) → longest_run 0 l < n → closes 96 n l ≡ false
unfolding closes
closes_not n l h = rw (no_close n l h) (and-false (leb (column 0 l) 3))

closes_fence : (k : ℕ) → closes 96 (suc k) (replicate (suc k) 96) ≡ true
unfolding closes closing_fence column strip drop_while space_or_tab blank_line every run drop_run
closes_fence k = rw (run_fence k, drop_fence k, le-leb (suc k) (suc k) (omega arith))

content_lines_lem : (m k : ℕ) (ls more : List Bytes) → Under m ls → m ≤ k
    → content_of 96 (suc k) 0 (ls ++ (replicate (suc k) 96 ∷ more)) ≡ (ended ls, more)
unfolding content_of ended
content_lines_lem m k [] more u h = rw (closes_fence k)
content_lines_lem m k (l ∷ ls) more u h =
    rw (closes_not (suc k) l (omega arith), content_lines_lem m k ls more u.1 h, unindent_zero l)

-- ---- the info string

-- the bytes that `sanitize_attr_value` keeps
unfoldable pub info_byte : ℕ → Bool
info_byte b = is_alphanumeric b || isin b (ascii "-_+.#")

info_black : (b : ℕ) → info_byte b ≡ true → space_or_tab b ≡ false
unfolding space_or_tab
info_black b h =
    rw (
      apart info_byte b 32 h (unfold info_byte is_alphanumeric digit isin in refl),
      apart info_byte b 9 h (unfold info_byte is_alphanumeric digit isin in refl),
    )

strip_same : (s : Bytes) → every info_byte s ≡ true → strip s ≡ s
unfolding strip drop_while every
strip_same [] h = refl
strip_same (b ∷ s) h = rw (info_black b (and_l (info_byte b) _ h))

info_same : (lang : Bytes) → every info_byte lang ≡ true → info_string lang ≡ lang
unfolding info_string
info_same [] h = unfold strip drop_while trim_end_matches in refl
info_same (b ∷ lang) h =
    rw (strip_same (b ∷ lang) h)
    (trim_fix space_or_tab (b ∷ lang)
    (last_none space_or_tab (b ∷ lang) (every_imp info_byte (λ c. not (space_or_tab c)) (b ∷ lang) (λ c q. ap not (info_black c q)) h)
    (unfold null in refl)))

no_tick : (lang : Bytes) → every info_byte lang ≡ true → isin 96 lang ≡ false
no_tick lang h = isin_lacks info_byte 96 lang h (unfold info_byte is_alphanumeric digit isin in refl)

no_first_tick : (lang : Bytes) → every info_byte lang ≡ true → head_is 96 lang ≡ false
unfolding head_is every
no_first_tick [] h = refl
no_first_tick (b ∷ lang) h = apart info_byte b 96 (and_l (info_byte b) _ h) (unfold info_byte is_alphanumeric digit isin in refl)

pub info_line : (b : ℕ) → info_byte b ≡ true → in_line b ≡ true
unfolding in_line
info_line b h = ap not (isin_no info_byte b (0 ∷ 10 ∷ 13 ∷ []) h (unfold every info_byte is_alphanumeric digit isin in refl))

info_literal : (b : ℕ) → info_byte b ≡ true → literal b ≡ true
unfolding literal
info_literal b h = ap not (isin_no info_byte b (38 ∷ 92 ∷ []) h (unfold every info_byte is_alphanumeric digit isin in refl))

-- ---- the block

start_fence_info : (k : ℕ) (lang : Bytes) → 2 ≤ k → every info_byte lang ≡ true
    → start (replicate (suc k) 96 ++ lang) ≡ fence_start 96 (suc k) lang
unfolding start start_by lead fence fence_by
start_fence_info k lang h u =
    rw (run_front 96 k lang (no_first_tick lang u), drop_front 96 k lang (no_first_tick lang u), no_tick lang u, le-leb 3 (suc k) (omega arith))

pub block_read : (k m : ℕ) (lang : Bytes) (ls more : List Bytes) → 2 ≤ k → m ≤ k → every info_byte lang ≡ true → Under m ls
    → fenced ((replicate (suc k) 96 ++ lang) ∷ (ls ++ (replicate (suc k) 96 ∷ more)))
    ≡ some (record { info = lang; content = ended ls; more = more })
unfolding fenced fenced_by
block_read k m lang ls more h l u w =
    let c : column 0 (replicate (suc k) 96 ++ lang) ≡ 0 = unfold column space_or_tab in refl in
    let s : strip (replicate (suc k) 96 ++ lang) ≡ replicate (suc k) 96 ++ lang = unfold strip drop_while space_or_tab in refl in
    rw (c, s, start_fence_info k lang h u, info_same lang u, content_lines_lem m k ls more w l)

pub block_clean : (f lang : Bytes) (ls : List Bytes) → every in_line f ≡ true → every in_line lang ≡ true → clean ls ≡ true
    → clean ((f ++ lang) ∷ (ls ++ (f ∷ []))) ≡ true
unfolding clean
block_clean f lang ls t i h = rw (every_app in_line f lang t i) (clean_app ls (f ∷ []) h (rw t))

-- 4.5: one fenced code block whose content is that of the `pre`, with a final LF if it had none, and whose info string is the
-- language, for every content without CR and NUL; behind it begin the lines of what stands behind it
pub fenced_block_lem : (lang content more : Bytes) → every info_byte lang ≡ true → fixed_text content ≡ true
    → fenced (lines (safe (fenced_block lang content ++ more)))
    ≡ some (record { info = lang; content = with_final_lf content; more = lines (safe more) })
unfolding fence_of max_backtick_run
fenced_block_lem lang content more u h =
    let k : ℕ = max (longest_run 0 content) 2 in
    let f : Bytes = replicate (suc k) 96 in
    let ls : List Bytes = (f ++ lang) ∷ (fixed_lines content ++ (f ∷ [])) in
    let t : every in_line f ≡ true = every_replicate in_line (suc k) 96 (unfold in_line isin in refl) in
    let i : every in_line lang ≡ true = every_imp info_byte in_line lang info_line u in
    let c : clean ls ≡ true = block_clean f lang (fixed_lines content) t i (fixed_lines_lem content h) in
    let w : Under (longest_run 0 content) (fixed_lines content) =
    under_first (longest_run 0 content) (fixed_lines content) (under_lines 0 content) in
    rw (
      block_lines_lem lang content,
      safe_ended ls more c,
      lines_ended ls (safe more) c,
      append_assoc (fixed_lines content) (f ∷ []) (lines (safe more)),
    )
    (block_read k (longest_run 0 content) lang (fixed_lines content) (lines (safe more)) (omega arith) (omega arith) u w
    ∙ ap (λ (s : Bytes). some (record { info = lang; content = s; more = lines (safe more) })) (ended_final content))

-- 2.5: in an info string, too, escapes and references are read; in this one there are none
pub info_meaning : (known : References) (lang : Bytes) → every info_byte lang ≡ true → meaning known 0 lang ≡ lang
info_meaning known lang h = means (means_itself known lang (every_imp info_byte literal lang info_literal h))
