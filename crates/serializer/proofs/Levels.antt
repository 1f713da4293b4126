-- `write` at a level, and the nodes of a forest one after the other.
use Prim.Native.Nat.{ℕ, zero, suc, ◌-◌, ◌<◌}
use native.Mathlib.Omega.{arith}
use mathlib.Core.Path.{◌≡◌, refl, sym, ap}
use mathlib.Core.List.{List}
use Rattle.spec.specs.Bytes.{Bytes}
use Rattle.spec.specs.Tree.{Forest, nothing, text, comment, element}
use Rattle.spec.specs.Out.{Out, Step, keep, and_then}
use Rattle.spec.specs.Md.TextUtils.{push_normalized_text}
use Rattle.spec.specs.Md.MDSerializer.{Ancestors, MDSerializer}
use Rattle.spec.specs.Md.Serializer.{write_at, write_nodes, write_element_node, serializer}
use Rattle.spec.specs.declared.ctx.FormatOpts.{FormatOpts}
use Rattle.tree.specs.Represents.{head_of, rest_of}
use Rattle.text.proofs.Writing.{keep_then, same_out}

-- a step that keeps the text adds nothing
pub then_keep : (o : Out) (f : Step) → and_then (and_then o keep) f ≡ and_then o f
unfolding and_then keep
then_keep o f = same_out refl (omega arith)

pub write_none : (skips : List Bytes) (n : ℕ) (anc : Ancestors) (opts : FormatOpts) (f : Forest) (t : Bytes) → n ≡ 0 → write_at skips n anc opts f t ≡ keep t
unfolding write_at
write_none skips zero anc opts f t e = refl
write_none skips (suc n) anc opts f t e = absurd (omega arith)

pub write_some : (skips : List Bytes) (n : ℕ) (anc : Ancestors) (opts : FormatOpts) (f : Forest) (t : Bytes) → 0 < n
    → write_at skips n anc opts f t ≡ write_nodes (serializer skips (n - 1)) anc opts f t
unfolding write_at serializer
write_some skips zero anc opts f t l = absurd (omega arith)
write_some skips (suc n) anc opts f t l = let e : n ≡ suc n - 1 = omega arith in ap (λ (k : ℕ). write_nodes (serializer skips k) anc opts f t) e

module _ (self : MDSerializer) (anc : Ancestors) (opts : FormatOpts) where
  pub nodes_none : (t : Bytes) → write_nodes self anc opts nothing t ≡ keep t
  unfolding write_nodes
  nodes_none t = refl

  pub nodes_first : (f : Forest) (t : Bytes) → write_nodes self anc opts f t ≡ and_then (write_nodes self anc opts (head_of f) t) (write_nodes self anc opts (rest_of f))
  unfolding write_nodes head_of rest_of
  nodes_first nothing t = sym (keep_then t (write_nodes self anc opts nothing))
  nodes_first (text s r) t = sym (then_keep (push_normalized_text s opts t) (write_nodes self anc opts r))
  nodes_first (comment s r) t = sym (keep_then t (write_nodes self anc opts r))
  nodes_first (element name attrs k r) t = sym (then_keep (write_element_node self anc opts name attrs k t) (write_nodes self anc opts r))
