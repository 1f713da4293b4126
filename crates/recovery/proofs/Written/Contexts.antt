-- The options and list contexts under which a plain sheet is written, and an item's number, marker and step by them.
use Rattle.std.specs.Prelude.{ℕ, ◌+◌, min, ◌≡◌, Bool, true, cond, List, eqb}
use Rattle.std.proofs.Common.{arith, add-one, leb-true}
use Rattle.std.proofs.Math.Path.{refl}
use Rattle.std.proofs.Math.Bool.{false}
use Rattle.std.proofs.Math.Option.{Option, none, some}
use Rattle.spec.specs.Bytes.{ascii}
use Rattle.spec.specs.Names as tag
use Rattle.spec.specs.Tree.{Attr, attr}
use Rattle.spec.specs.ListNumber.{largest_number, as_number, or_else, first_due, item_value, item_number, next_due}
use Rattle.spec.specs.Plain.{counts_on}
use Rattle.spec.specs.Md.Ctx.{list_item, offset_of, list_context, prefix_of, prefix, with_kind, advanced, advance_ol_number}
use Rattle.spec.specs.Md.Elements.List.{number_of, renumbered, kind_of}
use Rattle.spec.specs.declared.ctx.FormatOpts.{FormatOpts}
use Rattle.spec.specs.declared.ctx.ListKind.{ListKind}
use Rattle.spec.specs.declared.ctx.ListKind.TheVariants.{Ul, Ol}
use Rattle.spec.specs.declared.ctx.ListContext.{ListContext}
use Rattle.recovery.proofs.Numbers.{number_of_lem, start_of_lem}
use Rattle.recovery.specs.Closed.{marker, deeper}

-- the options at the sheet's blocks, or in an item; lists stand behind n blanks there
abbrev pub opts_at : Bool → ℕ → FormatOpts
opts_at item n =
    record {
      include_node = false;
      skip_escape = false;
      inline = false;
      skip_md = false;
      table_cell = false;
      list_item = item;
      link_body = false;
      offset = n;
      emphasis_scope = record { 0 = 0 };
    }

unfoldable pub kind_due : Option ℕ → ListKind
kind_due none = Ul
kind_due (some n) = Ol n

-- the context of a list behind i blanks, whose next item has that number; the blanks below a numbered item are set anew for each
unfoldable pub offset_in : ℕ → Option ℕ → ℕ → ℕ
offset_in i none o = i + 4
offset_in i (some n) o = o

unfoldable pub context_at : Bool → ℕ → ℕ → Option ℕ → ListContext
context_at item o i due = record { opts = opts_at item (offset_in i due o); kind = kind_due due; list_indent = i }

-- the number that the writer counts to: never above the largest
unfoldable pub capped : Option ℕ → Option ℕ
capped none = none
capped (some n) = some (min n largest_number)

-- a list's first context
pub begun_context : (item : Bool) (i name : ℕ) (attrs : List Attr)
    → list_context (opts_at item i) (kind_of name attrs) ≡ context_at item (i + offset_of (kind_of name attrs)) i (first_due name attrs)
unfolding list_context context_at kind_due kind_of first_due offset_in offset_of
begun_context item i name attrs = rw (start_of_lem attrs) (go (eqb name tag.ol))
  where
    n : ℕ
    n = or_else (as_number (attr (ascii "start") attrs)) 1

    go : (t : Bool) → list_context (opts_at item i) (cond t (Ol n) Ul) ≡ context_at item (i + offset_of (cond t (Ol n) Ul)) i (cond t (some n) none)
    go true = unfold list_context context_at kind_due offset_in in refl
    go false = unfold list_context context_at kind_due offset_in offset_of in refl

-- the number of an item, from the one that the writer has counted to
renumbered_by : (item : Bool) (o i n : ℕ) (v : Option ℕ) → counts_on (some n) v ≡ true
    → renumbered (Ol (min n largest_number)) v (context_at item o i (some (min n largest_number))) ≡ context_at item o i (some (or_else v n))
unfolding renumbered counts_on context_at kind_due offset_in with_kind or_else largest_number
renumbered_by item o i n none h =
    let e : min n largest_number ≡ n = omega (arith, leb-true n 999999999 h) in
    rw e
renumbered_by item o i n (some m) h = refl

pub renumbered_context : (item : Bool) (o i : ℕ) (due : Option ℕ) (attrs : List Attr) → counts_on due (item_value attrs) ≡ true
    → renumbered (kind_due (capped due)) (number_of (attr (ascii "value") attrs)) (context_at item o i (capped due))
    ≡ context_at item o i (item_number due attrs)
unfolding capped renumbered kind_due item_number item_value
renumbered_context item o i none attrs h = refl
renumbered_context item o i (some n) attrs h =
    rw (number_of_lem (attr (ascii "value") attrs)) (renumbered_by item o i n (as_number (attr (ascii "value") attrs)) h)

-- behind an item
pub advanced_context : (item : Bool) (o i : ℕ) (number : Option ℕ)
    → advance_ol_number (context_at item o i number) ≡ context_at item (i + deeper number) i (capped (next_due number))
unfolding advance_ol_number advanced context_at kind_due next_due capped offset_in deeper largest_number offset_of
advanced_context item o i none = refl
advanced_context item o i (some n) = rw (add-one n)

-- the options of what an item with that number holds
pub item_opts : (item : Bool) (o i : ℕ) (number : Option ℕ)
    → list_item (advance_ol_number (context_at item o i number)).opts ≡ opts_at true (i + deeper number)
unfolding advance_ol_number advanced context_at kind_due offset_in deeper largest_number offset_of
item_opts item o i none = refl
item_opts item o i (some n) = rw (add-one n)

pub item_prefix : (item : Bool) (o i : ℕ) (number : Option ℕ) → prefix (context_at item o i number) ≡ marker number
unfolding prefix prefix_of context_at kind_due marker
item_prefix item o i none = refl
item_prefix item o i (some n) = refl
