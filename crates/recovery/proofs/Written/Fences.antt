-- The writer's fixed texts are the closed form's.
use Rattle.std.specs.Prelude.{ℕ, zero, suc, ◌+◌, max, ◌≡◌, refl, Bool, true, false, cond, ◌&&◌, ◌||◌, List, [], ◌∷◌, ◌++◌, take, replicate}
use Rattle.std.proofs.Common.{arith, sym, ap, append-nil, append_assoc}
use Rattle.std.proofs.lemmas.Bool.{false≢true}
use Rattle.std.proofs.Math.Option.{none}
use Rattle.spec.specs.Bytes.{Bytes, ascii, null, isin, ends_with, white, or_else, or_nothing, join}
use Rattle.spec.specs.Tree.{Attr, nothing, text, text_of}
use Rattle.spec.specs.SheetList.{with_final_lf}
use Rattle.spec.specs.Out.{push}
use Rattle.spec.specs.Md.Elements.Code.{find_code_lang_attribute, nearest_language, find_code_language_css_class, find_code_language, max_backtick_run, backticks, fenced_block, write_pre}
use Rattle.spec.specs.Md.MDSerializer.{Ancestors}
use Rattle.spec.specs.declared.ctx.FormatOpts.{FormatOpts}
use Rattle.spec.proofs.Tests.{and_l, and_r}
use Rattle.recovery.proofs.Fences.{ended, ended_final}
use Rattle.recovery.proofs.Written.Ends.{last_is, first_is, last_replicate}
use Rattle.recovery.proofs.Written.Lines.{ended_app, ended_join, join_first, join_last}
use Rattle.recovery.specs.Closed.{fixed_lines, fence_of, fenced_lines}

-- ---- no language

-- none of the elements has an attribute
unfoldable pub bare_all : List (List Attr) → Bool
bare_all [] = true
bare_all (attrs ∷ more) = null attrs && bare_all more

no_language : (attrs : List Attr) → null attrs ≡ true → find_code_lang_attribute attrs ≡ none
unfolding null find_code_lang_attribute
no_language [] h = refl
no_language (a ∷ more) h = absurd (false≢true h)

nearest_none : (n : ℕ) (anc : List (List Attr)) → bare_all anc ≡ true → nearest_language (take n anc) ≡ none
unfolding bare_all nearest_language or_else
nearest_none zero anc h = refl
nearest_none (suc n) [] h = refl
nearest_none (suc n) (attrs ∷ anc) h =
    rw (no_language attrs (and_l (null attrs) _ h)) (nearest_none n anc (and_r (null attrs) _ h))

no_code_language : (anc : Ancestors) (s : Bytes) → bare_all anc ≡ true → find_code_language anc [] (text s nothing) ≡ none
unfolding find_code_language nearest_language find_code_lang_attribute find_code_language_css_class or_else
no_code_language anc s h = rw (nearest_none 3 anc h)

-- ---- the block

final_app : (s r : Bytes) → s ++ (cond (null s || ends_with (ascii "\n") s) [] (ascii "\n") ++ r) ≡ with_final_lf s ++ r
unfolding with_final_lf
final_app s r = go (null s || ends_with (ascii "\n") s)
  where
    go : (t : Bool) → s ++ (cond t [] (ascii "\n") ++ r) ≡ cond t s (s ++ ascii "\n") ++ r
    go true = refl
    go false = sym (append_assoc s (ascii "\n") r)

fence_written : (s : Bytes) → backticks (max (max_backtick_run s) 2 + 1) ≡ fence_of s
unfolding backticks fence_of
fence_written s =
    let e : max (max_backtick_run s) 2 + 1 ≡ suc (max (max_backtick_run s) 2) = omega arith in
    ap (λ (n : ℕ). replicate n 96) e

pub block_lines_lem : (lang s : Bytes) → fenced_block lang s ≡ ended ((fence_of s ++ lang) ∷ (fixed_lines s ++ (fence_of s ∷ [])))
unfolding fenced_block ended
block_lines_lem lang s =
    rw (
      fence_written s,
      final_app s (fence_of s ++ ascii "\n"),
      ended_app (fixed_lines s) (fence_of s ∷ []),
      ended_final s,
      append_assoc (fence_of s) lang,
    )

block_written : (s : Bytes) → fenced_block [] s ≡ ended (fenced_lines s)
unfolding fenced_lines
block_written s = rw append-nil at (block_lines_lem [] s)

block_joined : (s : Bytes) → ended (fenced_lines s) ≡ join (ascii "\n") (fenced_lines s) ++ ascii "\n"
unfolding fenced_lines
block_joined s = ended_join (fence_of s ∷ (fixed_lines s ++ (fence_of s ∷ []))) (unfold null in refl)

-- what `write_pre` appends where no language is given
pub pre_text : (anc : Ancestors) (opts : FormatOpts) (s t : Bytes) → bare_all anc ≡ true → opts.link_body ≡ false
    → (write_pre anc opts [] (text s nothing) t).text
    ≡ t ++ (cond (ends_with (ascii "\n\n") t) [] (ascii "\n") ++ (join (ascii "\n") (fenced_lines s) ++ ascii "\n"))
unfolding write_pre push text_of or_nothing
pre_text anc opts s t h l =
    rw (l, no_code_language anc s h, append-nil s, block_written s, block_joined s)

-- ---- its ends

pub fence_first : (s : Bytes) → first_is white (join (ascii "\n") (fenced_lines s)) ≡ false
unfolding fenced_lines
fence_first s = join_first white (fence_of s) (fixed_lines s ++ (fence_of s ∷ [])) (unfold fence_of first_is white isin in refl)

pub fence_last : (s : Bytes) → last_is white (join (ascii "\n") (fenced_lines s)) ≡ false
unfolding fenced_lines
fence_last s =
    join_last white (fence_of s ∷ fixed_lines s) (fence_of s)
    (unfold fence_of in last_replicate white (max (max_backtick_run s) 2) 96 (unfold white isin in refl))
