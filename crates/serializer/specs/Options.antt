-- The options in one number.
use Rattle.std.specs.Prelude.{ℕ, ◌/◌, ◌%◌, Bool, not, eqb}
use Rattle.spec.specs.declared.ctx.FormatOpts.{FormatOpts}
use Rattle.serializer.specs.declared.options.PackedOpts.{PackedOpts}

-- whether a number is odd
abbrev pub odd : ℕ → Bool
odd n = not (eqb (n % 2) 0)

-- the flags are the binary digits of `bits` from the lowest on, in the order of the fields; the scope is the byte behind them, and the
-- offset all that is left
unfoldable pub unpacked : PackedOpts → FormatOpts
unpacked packed =
    let bits = packed.bits in
    record {
      include_node = odd bits;
      skip_escape = odd (bits / 2);
      inline = odd (bits / 4);
      skip_md = odd (bits / 8);
      table_cell = odd (bits / 16);
      list_item = odd (bits / 32);
      link_body = odd (bits / 64);
      offset = bits / 32768;
      emphasis_scope = record { 0 = bits / 128 % 256 };
    }
