-- An item's number.
use Prim.Native.Nat.{ℕ}
use native.Mathlib.Omega.{arith}
use mathlib.Core.Path.{◌≡◌, refl, ap}
use mathlib.Core.Option.{Option, none, some}
use Rattle.spec.specs.Md.Ctx.{with_kind}
use Rattle.spec.specs.Md.Elements.List.{renumbered}
use Rattle.spec.specs.declared.ctx.ListContext.{ListContext}
use Rattle.spec.specs.declared.ctx.ListKind.TheVariants.{Ol}
use Rattle.lists_links.specs.Parsed.{parsed_of}
use Rattle.std.specs.Prelude.{Some, None}

pub with_number : (m : ℕ) {n : ℕ} (o : Option ℕ) (ctx : ListContext) → parsed_of o ≡ Some n → renumbered (Ol m) o ctx ≡ with_kind (Ol n) ctx
unfolding renumbered
with_number m none ctx e = let z : ◌≡◌ {A = ℕ} 0 1 = cc in absurd (omega arith)
with_number m {n} (some k) ctx e = let q : k ≡ n = cc in ap (λ (j : ℕ). with_kind (Ol j) ctx) q

pub without_number : (m : ℕ) (o : Option ℕ) (ctx : ListContext) → parsed_of o ≡ None → renumbered (Ol m) o ctx ≡ ctx
unfolding renumbered
without_number m none ctx e = refl
without_number m (some k) ctx e = let z : ◌≡◌ {A = ℕ} 0 1 = cc in absurd (omega arith)
