-- `write` under `skip_md` is `write_skip_md`: it reaches no other writer.
use Rattle.std.specs.Prelude.{ℕ, zero, suc, ◌≤◌, ◌<◌, ◌≡◌, refl, List, ◌∷◌}
use Rattle.std.proofs.Common.{arith, ap}
use Rattle.std.proofs.Math.Path.{fun_ext}
use Rattle.spec.specs.Bytes.{Bytes}
use Rattle.spec.specs.Tree.{Forest, nothing, text, comment, element, height}
use Rattle.spec.specs.Out.{Step, keep, and_then}
use Rattle.spec.specs.Md.MDSerializer.{Ancestors, Writer}
use Rattle.spec.specs.Md.Elements.Code.{code_opts, close_skip_md, write_skip_md}
use Rattle.spec.specs.Md.Serializer.{opened, closed, in_element, write_element_node, write_nodes, write_at}
use Rattle.spec.specs.declared.ctx.FormatOpts.{FormatOpts}

keep_then : (f : Step) (t : Bytes) → and_then (keep t) f ≡ f t
unfolding and_then keep
keep_then f t = ap (λ (n : ℕ). record { text = (f t).text; peak = n }) (omega arith)

-- the writer does so on forests of fewer than k levels
abbrev Skips : List Bytes → FormatOpts → ℕ → Writer → Type 0
Skips skips opts k w = (anc : Ancestors) (f : Forest) → height f < k → w anc (code_opts opts) f ≡ write_skip_md skips (code_opts opts) f

nodes_skip : (skips : List Bytes) (opts : FormatOpts) (k : ℕ) (w : Writer) → Skips skips opts k w
    → (anc : Ancestors) (f : Forest) → height f ≤ k
    → write_nodes (record { skip_tags = skips; below = w }) anc (code_opts opts) f ≡ write_skip_md skips (code_opts opts) f
unfolding write_nodes write_skip_md height write_element_node opened in_element closed close_skip_md
nodes_skip skips opts k w is anc nothing low = refl
nodes_skip skips opts k w is anc (text s rest) low = fun_ext (λ t. rw (nodes_skip skips opts k w is anc rest low))
nodes_skip skips opts k w is anc (comment s rest) low = fun_ext (λ t. rw (nodes_skip skips opts k w is anc rest low))
nodes_skip skips opts k w is anc (element name attrs kids rest) low =
    fun_ext
    (λ t. rw (keep_then, is (attrs ∷ anc) kids (omega arith), nodes_skip skips opts k w is anc rest (omega arith)))

pub skip_md_lem : (skips : List Bytes) (opts : FormatOpts) (n : ℕ) → Skips skips opts n (write_at skips n)
unfolding write_at
skip_md_lem skips opts zero anc f low = absurd (omega arith)
skip_md_lem skips opts (suc n) anc f low = nodes_skip skips opts n (write_at skips n) (skip_md_lem skips opts n) anc f (omega arith)
