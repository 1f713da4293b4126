use Prim.Native.Nat.{◌/◌, ◌%◌}
use mathlib.Core.Path.{◌≡◌, ap, ◌∙◌}
use native.Mathlib.Omega.{arith}
use Rattle.serializer.specs.Options.{odd, unpacked}
use Rattle.serializer.proofs.options.PackedOpts.of.Goals as goal

pub returns : goal.returns
unfolding unpacked
returns c =
    let node = c.put_flag.ensures in
    let escape = c.put_flag-bits-6.ensures in
    let inline = c.put_flag-bits-5.ensures in
    let md = c.put_flag-bits-4.ensures in
    let cell = c.put_flag-bits-3.ensures in
    let item = c.put_flag-bits-2.ensures in
    let body = c.put_flag-bits.ensures in
    let bits = c.put_flag.result in
    let e1 : bits / 2 ≡ c.put_flag-bits-6.result = node.1 in
    let e2 : bits / 4 ≡ c.put_flag-bits-5.result = omega (arith, e1, escape.1) in
    let e3 : bits / 8 ≡ c.put_flag-bits-4.result = omega (arith, e2, inline.1) in
    let e4 : bits / 16 ≡ c.put_flag-bits-3.result = omega (arith, e3, md.1) in
    let e5 : bits / 32 ≡ c.put_flag-bits-2.result = omega (arith, e4, cell.1) in
    let e6 : bits / 64 ≡ c.put_flag-bits.result = omega (arith, e5, item.1) in
    let o = c.args.o in
    let e7 : bits / 128 % 256 ≡ o.emphasis_scope.0 = omega (arith, e6, body.1) in
    let e8 : bits / 32768 ≡ o.offset = omega (arith, e6, body.1) in
    λ i. record {
      include_node = node.0 i;
      skip_escape = (ap odd e1 ∙ escape.0) i;
      inline = (ap odd e2 ∙ inline.0) i;
      skip_md = (ap odd e3 ∙ md.0) i;
      table_cell = (ap odd e4 ∙ cell.0) i;
      list_item = (ap odd e5 ∙ item.0) i;
      link_body = (ap odd e6 ∙ body.0) i;
      offset = e8 i;
      emphasis_scope = record { 0 = e7 i };
    }
