-- What stands before and behind an element's content, case by case.
use Prim.Native.Nat.{ℕ}
use mathlib.Core.Path.{◌≡◌, sym, ap, ◌∙◌}
use mathlib.Core.Bool.{Bool, true, false, cond, not, ◌&&◌, false≢true}
use mathlib.Core.List.{List, []}
use Rattle.spec.specs.Bytes.{Bytes, ascii}
use Rattle.spec.specs.Tree.{Attr, Forest}
use Rattle.spec.specs.Out.{Out, keep, push, and_then}
use Rattle.spec.specs.Md.Heading.{md_prefix}
use Rattle.spec.specs.Md.LineBreak.{linebreak, double_linebreak}
use Rattle.spec.specs.Md.TextUtils.{add_linebreaks, push_block_space}
use Rattle.spec.specs.Md.Elements.Blocks.{is_md_block, is_link_block, is_list}
use Rattle.spec.specs.Md.Elements.List.{can_interrupt_paragraph}
use Rattle.spec.specs.Md.Elements.Table.{add_cell_block_break}
use Rattle.spec.specs.Md.Serializer.{is_tight, open_break, opened}
use Rattle.spec.specs.declared.ctx.FormatOpts.{FormatOpts}
use Rattle.text.proofs.Writing.{no}

module _ (opts : FormatOpts) (n : ℕ) (attrs : List Attr) (kids : Forest) where
  pub tight_not : opts.list_item && is_list n ≡ false → is_tight opts n attrs kids ≡ false
  unfolding is_tight
  tight_not e = go opts.list_item (is_list n) (can_interrupt_paragraph n attrs kids) e
    where
      go : (a b c : Bool) → a && b ≡ false → a && (b && c) ≡ false
      go true b c e = rw e
      go false b c e = e

  pub tight_is : opts.list_item && is_list n ≡ true → is_tight opts n attrs kids ≡ can_interrupt_paragraph n attrs kids
  unfolding is_tight
  tight_is e = go opts.list_item (is_list n) (can_interrupt_paragraph n attrs kids) e
    where
      go : (a b c : Bool) → a && b ≡ true → a && (b && c) ≡ c
      go true b c e = rw e
      go false b c e = absurd (false≢true e)

  module _ (t : Bytes) where
    -- `open_break` by the tests that it makes
    abbrev broken : Bool → Bool → Bool → Bool → Out
    broken body block cell tight =
        cond body (cond (is_link_block n) (push_block_space t) (keep t))
        (cond (not block) (keep t)
        (cond cell (add_cell_block_break (linebreak cell) t) (add_linebreaks (linebreak cell) (cond tight (linebreak cell) (double_linebreak cell)) t)))

    pub open_space : opts.link_body ≡ true → is_link_block n ≡ true → open_break opts n attrs kids t ≡ push_block_space t
    unfolding open_break
    open_space a b = rw (a, b)

    pub open_inline : opts.link_body ≡ true → is_link_block n ≡ false → open_break opts n attrs kids t ≡ keep t
    unfolding open_break
    open_inline a b = rw (a, b)

    module _ (a : opts.link_body ≡ false) where
      pub open_none : is_md_block n ≡ false → open_break opts n attrs kids t ≡ keep t
      unfolding open_break
      open_none b = rw (a, b)

      pub open_cell : is_md_block n ≡ true → opts.table_cell ≡ true → open_break opts n attrs kids t ≡ add_cell_block_break (ascii "<br>") t
      unfolding open_break
      open_cell b c = rw (a, b, c)

      pub open_lines : {tight : Bool} → is_md_block n ≡ true → opts.table_cell ≡ false → tight ≡ is_tight opts n attrs kids
          → open_break opts n attrs kids t ≡ add_linebreaks (ascii "\n") (cond tight (ascii "\n") (ascii "\n\n")) t
      unfolding open_break
      open_lines {tight} b c d =
          ap (λ (x : Bool). broken x (is_md_block n) opts.table_cell (is_tight opts n attrs kids)) a
          ∙ ap (λ (x : Bool). broken false x opts.table_cell (is_tight opts n attrs kids)) b
          ∙ ap (λ (x : Bool). broken false true x (is_tight opts n attrs kids)) c ∙ ap (broken false true false) (sym d)

    pub opened_on : {m : ℕ} → opts.skip_md ≡ false → m ≡ n
        → opened opts n attrs kids t ≡ and_then (open_break opts n attrs kids t) (push (cond opts.link_body [] (md_prefix m)))
    unfolding opened
    opened_on {m} e q =
        no (keep t) (and_then (open_break opts n attrs kids t) (push (cond opts.link_body [] (md_prefix n)))) e
        ∙ ap (λ (k : ℕ). and_then (open_break opts n attrs kids t) (push (cond opts.link_body [] (md_prefix k)))) (sym q)
