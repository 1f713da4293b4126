-- Texts of several lines, by the numbers of the nodes, and what `write_code` chooses by them.
use Prim.Native.Nat.{ℕ, ◌+◌, ◌-◌, ◌≤◌, ◌<◌}
use native.Mathlib.Omega.{arith}
use mathlib.Core.Path.{◌≡◌, refl, ap, ◌∙◌, sym}
use mathlib.Core.Bool.{Bool, true, false, ◌||◌, or_assoc}
use mathlib.Core.List.{List}
use lib.ListN.{get_or}
use borrow.Author.Tests.{eq-eqb, ne_eqb}
use Rattle.spec.specs.Bytes.{Bytes, isin, trim_from, trim, trim_end, trim_end_matches}
use Rattle.spec.specs.Tree.{Attr, Forest, nothing, text, comment, element, kids_of}
use Rattle.spec.specs.Md.MDSerializer.{Ancestors, MDSerializer}
use Rattle.spec.specs.declared.ctx.FormatOpts.{FormatOpts}
use Rattle.spec.specs.Md.Elements.Code.{is_multiline, inline_code, write_pre, write_code}
use Rattle.tree.specs.Memory.{place_at}
use Rattle.tree.specs.Represents.{Rep, rest_of}
use Rattle.tree.specs.Nodes.{text_at}
use Rattle.tree.proofs.Firsts.{its_tag, its_body}
use Rattle.tree.proofs.Ranges.{total, total_rep, total_on, total_done}

abbrev pub has_line : Bytes → Bytes → ℕ → Bool
has_line sh ns j = isin 10 (trim (text_at sh (place_at ns j)))

abbrev pub some_line : Bytes → Bytes → ℕ → ℕ → Bool
some_line sh ns e i = total false (λ (x y : Bool). x || y) (has_line sh ns) (e - i) i

line_node : (sh ns : Bytes) (parent i e : ℕ) (f : Forest) → Rep sh ns parent i e f → i < e
    → is_multiline f ≡ (has_line sh ns i || (is_multiline (kids_of f) || is_multiline (rest_of f)))
unfolding Rep is_multiline kids_of rest_of text_at trim trim_from trim_end trim_end_matches isin
line_node sh ns parent i e nothing h l = absurd (omega arith)
line_node sh ns parent i e (text s r) h l = rw (eq-eqb (get_or sh (place_at ns i) 0) 4 (its_tag h.1), ← its_body h.1)
line_node sh ns parent i e (comment s r) h l = rw (ne_eqb (get_or sh (place_at ns i) 0) 4 (λ t. omega (arith, its_tag h.1)))
line_node sh ns parent i e (element name attrs k r) h l = rw (ne_eqb (get_or sh (place_at ns i) 0) 4 (λ t. omega (arith, its_tag h.1)))

module _ (sh ns : Bytes) where
  pub line_numbers : (parent i e : ℕ) (f : Forest) → Rep sh ns parent i e f → is_multiline f ≡ some_line sh ns e i
  unfolding is_multiline
  line_numbers = total_rep false (λ (x y : Bool). x || y) (λ (x : Bool). refl) or_assoc (has_line sh ns) sh ns is_multiline refl (line_node sh ns)

  module _ (e i : ℕ) where
    -- the text of node i is x
    module _ (l : i < e) {x : Bytes} (h : x ≡ text_at sh (place_at ns i)) where
      line_at : some_line sh ns e i ≡ (isin 10 (trim x) || some_line sh ns e (i + 1))
      line_at =
          total_on false (λ (x y : Bool). x || y) (has_line sh ns) i e l
          ∙ ap (λ (y : Bytes). isin 10 (trim y) || some_line sh ns e (i + 1)) (sym h)

      pub line_here : isin 10 (trim x) ≡ true → some_line sh ns e i ≡ true
      line_here b = line_at ∙ rw b

      pub line_on : isin 10 (trim x) ≡ false → some_line sh ns e i ≡ some_line sh ns e (i + 1)
      line_on b = line_at ∙ rw b

    pub line_none : e ≤ i → some_line sh ns e i ≡ false
    line_none l = total_done false (λ (x y : Bool). x || y) (has_line sh ns) i e l

-- ---- `write_code`

module _ (self : MDSerializer) (anc : Ancestors) (opts : FormatOpts) (name : Bytes) (attrs : List Attr) (kids : Forest) (t : Bytes) where
  pub code_block : is_multiline kids ≡ true → write_code self anc opts name attrs kids t ≡ write_pre anc opts attrs kids t
  unfolding write_code
  code_block e = rw e

  pub code_line : is_multiline kids ≡ false → write_code self anc opts name attrs kids t ≡ inline_code self opts name attrs kids t
  unfolding write_code
  code_line e = rw e
