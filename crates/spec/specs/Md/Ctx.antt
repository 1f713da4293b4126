-- `ctx.rs`.
use Rattle.std.specs.Prelude.{ℕ, ◌+◌, max, min, Bool, true, false, cond, ◌++◌, length, eqb}
use Rattle.std.specs.Int.Bits.{bit_and, bit_or}
use Rattle.spec.specs.Bytes.{Bytes, ascii, same, decimal}
use Rattle.spec.specs.Md.Constants.{LIST_OFFSET_BASE, MAX_LIST_NUMBER}
use Rattle.spec.specs.Md.LineBreak.{linebreak}
use Rattle.spec.specs.declared.ctx.EmphasisScope.{EmphasisScope}
use Rattle.spec.specs.declared.ctx.FormatOpts.{FormatOpts}
use Rattle.spec.specs.declared.ctx.ListKind.{ListKind}
use Rattle.spec.specs.declared.ctx.ListKind.TheVariants.{Ul, Ol}
use Rattle.spec.specs.declared.ctx.ListContext.{ListContext}

-- ---- EmphasisScope

abbrev pub BOLD : EmphasisScope
BOLD = record { 0 = 1 }

abbrev pub ITALIC : EmphasisScope
ITALIC = record { 0 = 2 }

abbrev pub contains : EmphasisScope → EmphasisScope → Bool
contains self other = eqb (bit_and self.0 other.0) other.0

abbrev pub insert : EmphasisScope → EmphasisScope → EmphasisScope
insert self other = record { 0 = bit_or self.0 other.0 }

-- `From<&str>`
abbrev pub scope_of : Bytes → EmphasisScope
scope_of marker = cond (same marker (ascii "*")) ITALIC BOLD

-- ---- FormatOpts

abbrev pub new : FormatOpts
new =
    record {
      include_node = false;
      skip_escape = false;
      inline = false;
      skip_md = false;
      table_cell = false;
      list_item = false;
      link_body = false;
      offset = 0;
      emphasis_scope = record { 0 = 0 };
    }

abbrev pub set_node : Bool → FormatOpts → FormatOpts
set_node b self =
    record {
      include_node = b;
      skip_escape = self.skip_escape;
      inline = self.inline;
      skip_md = self.skip_md;
      table_cell = self.table_cell;
      list_item = self.list_item;
      link_body = self.link_body;
      offset = self.offset;
      emphasis_scope = self.emphasis_scope;
    }

abbrev pub include_node : FormatOpts → FormatOpts
include_node self = set_node true self

abbrev pub offset : ℕ → FormatOpts → FormatOpts
offset n self =
    record {
      include_node = self.include_node;
      skip_escape = self.skip_escape;
      inline = self.inline;
      skip_md = self.skip_md;
      table_cell = self.table_cell;
      list_item = self.list_item;
      link_body = self.link_body;
      offset = n;
      emphasis_scope = self.emphasis_scope;
    }

abbrev pub skip_escape : FormatOpts → FormatOpts
skip_escape self =
    record {
      include_node = self.include_node;
      skip_escape = true;
      inline = self.inline;
      skip_md = self.skip_md;
      table_cell = self.table_cell;
      list_item = self.list_item;
      link_body = self.link_body;
      offset = self.offset;
      emphasis_scope = self.emphasis_scope;
    }

abbrev pub table_cell : FormatOpts → FormatOpts
table_cell self =
    record {
      include_node = self.include_node;
      skip_escape = self.skip_escape;
      inline = self.inline;
      skip_md = self.skip_md;
      table_cell = true;
      list_item = self.list_item;
      link_body = self.link_body;
      offset = self.offset;
      emphasis_scope = self.emphasis_scope;
    }

abbrev pub list_item : FormatOpts → FormatOpts
list_item self =
    record {
      include_node = self.include_node;
      skip_escape = self.skip_escape;
      inline = self.inline;
      skip_md = self.skip_md;
      table_cell = self.table_cell;
      list_item = true;
      link_body = self.link_body;
      offset = self.offset;
      emphasis_scope = self.emphasis_scope;
    }

abbrev pub link_body : FormatOpts → FormatOpts
link_body self =
    record {
      include_node = self.include_node;
      skip_escape = self.skip_escape;
      inline = self.inline;
      skip_md = self.skip_md;
      table_cell = self.table_cell;
      list_item = self.list_item;
      link_body = true;
      offset = self.offset;
      emphasis_scope = self.emphasis_scope;
    }

abbrev pub inline : FormatOpts → FormatOpts
inline self =
    record {
      include_node = self.include_node;
      skip_escape = self.skip_escape;
      inline = true;
      skip_md = self.skip_md;
      table_cell = self.table_cell;
      list_item = self.list_item;
      link_body = self.link_body;
      offset = self.offset;
      emphasis_scope = self.emphasis_scope;
    }

abbrev pub skip_md : FormatOpts → FormatOpts
skip_md self =
    record {
      include_node = self.include_node;
      skip_escape = self.skip_escape;
      inline = self.inline;
      skip_md = true;
      table_cell = self.table_cell;
      list_item = self.list_item;
      link_body = self.link_body;
      offset = self.offset;
      emphasis_scope = self.emphasis_scope;
    }

abbrev pub emphasis_scope : EmphasisScope → FormatOpts → FormatOpts
emphasis_scope scope self =
    record {
      include_node = self.include_node;
      skip_escape = self.skip_escape;
      inline = self.inline;
      skip_md = self.skip_md;
      table_cell = self.table_cell;
      list_item = self.list_item;
      link_body = self.link_body;
      offset = self.offset;
      emphasis_scope = insert self.emphasis_scope scope;
    }

-- `FormatOpts::new()` behind other options: what of them goes on
abbrev pub fresh : FormatOpts → FormatOpts
fresh opts = new

-- ---- ListKind

-- document 01: "A bullet list steps 4; a numbered one max(digits + 2, 4), 0 having one digit."
unfoldable pub offset_of : ListKind → ℕ
offset_of (Ol n) = max (length (decimal n) + 2) LIST_OFFSET_BASE
offset_of Ul = LIST_OFFSET_BASE

-- ---- ListContext

-- `ListContext::new`
unfoldable pub list_context : FormatOpts → ListKind → ListContext
list_context opts kind =
    record {
      opts = set_node false (offset (opts.offset + offset_of kind) opts);
      kind = kind;
      list_indent = opts.offset;
    }

abbrev pub break_of : ListContext → Bytes
break_of self = linebreak self.opts.table_cell

abbrev pub ul_prefix : ListContext → Bytes
ul_prefix self = cond self.opts.table_cell (ascii "+ ") (ascii "- ")

unfoldable pub prefix_of : ListKind → Bytes → Bytes
prefix_of Ul bullet = bullet
prefix_of (Ol n) bullet = decimal n ++ ascii ". "

unfoldable pub prefix : ListContext → Bytes
prefix self = prefix_of self.kind (ul_prefix self)

-- the list with items of another kind, or with another number next
unfoldable pub with_kind : ListKind → ListContext → ListContext
with_kind kind self = record { opts = self.opts; kind = kind; list_indent = self.list_indent }

unfoldable pub advanced : ListKind → ListContext → ListContext
advanced Ul self = self
advanced (Ol n) self =
    let next = Ol (min (n + 1) MAX_LIST_NUMBER) in
    record {
      opts = offset (self.list_indent + offset_of next) self.opts;
      kind = next;
      list_indent = self.list_indent;
    }

-- document 01: "The step for an item's children uses the number after it."
unfoldable pub advance_ol_number : ListContext → ListContext
advance_ol_number self = advanced self.kind self
