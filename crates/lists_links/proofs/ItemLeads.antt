-- What stands before the children of a list item.
use Prim.Native.Nat.{ℕ, ◌≤◌, ◌<◌}
use mathlib.Core.Path.{◌≡◌, refl, sym, ap, ◌∙◌}
use mathlib.Core.Bool.{Bool, true, false, cond, ◌&&◌, ◌||◌, false≢true}
use mathlib.Core.List.{List, [], ◌++◌, append_assoc}
use native.Mathlib.Omega.{arith}
use borrow.Author.Tests.{le-ltb, lt-ltb, leb-true, leb-false}
use lib.Dec.{leb}
use lib.ListN.{length, replicate}
use Rattle.spec.specs.Bytes.{ascii, ends_with}
use Rattle.spec.specs.Out.{push, and_then}
use Rattle.spec.specs.Md.Ctx.{break_of}
use Rattle.spec.specs.Md.Elements.List as def
use Rattle.lists_links.specs.Items.{item_of, rule_text}
use Rattle.lists_links.specs.declared.list.Item.{Item}
use Rattle.text.proofs.Writing.{push_both}

module _ (item : Item) (t : List ℕ) where
  lb : List ℕ
  lb = break_of item.ctx

  blanks : List ℕ
  blanks = replicate item.indent 32

  -- ---- rules

  rule_parts : (b : Bool) → List ℕ
  rule_parts b = lb ++ (cond b lb [] ++ (blanks ++ (ascii "---" ++ lb)))

  pub rule_bare : (short : List ℕ) → length short ≤ item.start
      → push (rule_text (item_of item) short) t ≡ push ((break_of item.ctx ++ replicate item.indent 32) ++ (ascii "---" ++ break_of item.ctx)) t
  unfolding lb blanks rule_parts
  rule_bare short h =
      ap (λ (b : Bool). push (rule_parts b) t) (le-ltb item.start (length short) h) ∙ ap (λ (x : List ℕ). push x t) (sym (append_assoc lb blanks (ascii "---" ++ lb)))

  pub rule_content : (short : List ℕ) → item.start < length short
      → push (rule_text (item_of item) short) t ≡ and_then (push (break_of item.ctx) t) (push ((break_of item.ctx ++ replicate item.indent 32) ++ (ascii "---" ++ break_of item.ctx)))
  unfolding lb blanks rule_parts
  rule_content short h =
      ap (λ (b : Bool). push (rule_parts b) t) (lt-ltb item.start (length short) h) ∙ ap (λ (x : List ℕ). push (lb ++ x) t) (sym (append_assoc lb blanks (ascii "---" ++ lb)))
      ∙ push_both lb ((lb ++ blanks) ++ (ascii "---" ++ lb)) t

  -- ---- blocks

  module _ {len : ℕ} (l : length t ≡ len) where
    pub lead_none : (first indented : Bool) → first && (indented || leb len item.start) ≡ true → def.block_lead (item_of item) first indented t ≡ []
    unfolding def.block_lead
    lead_none true true e = refl
    lead_none true false e = rw (le-ltb item.start (length t) (omega (arith, leb-true len item.start e)))
    lead_none false indented e = absurd (false≢true e)

    pub lead_indented : (first indented : Bool) → first && (indented || leb len item.start) ≡ false → indented ≡ true
        → def.block_lead (item_of item) first indented t ≡ replicate item.indent 32
    unfolding def.block_lead
    lead_indented true true e q = absurd (false≢true (sym e))
    lead_indented true false e q = absurd (false≢true q)
    lead_indented false true e q = refl
    lead_indented false false e q = absurd (false≢true q)

    pub lead_flow : (first indented : Bool) → first && (indented || leb len item.start) ≡ false → indented ≡ false
        → def.block_lead (item_of item) first indented t ≡ cond (ends_with (ascii "\n") t) [] (break_of item.ctx) ++ replicate item.indent 32
    unfolding def.block_lead
    lead_flow true true e q = absurd (false≢true (sym q))
    lead_flow true false e q = rw (lt-ltb item.start (length t) (omega (arith, leb-false len item.start e)))
    lead_flow false true e q = absurd (false≢true (sym q))
    lead_flow false false e q = refl
