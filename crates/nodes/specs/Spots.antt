-- The places that `write` under `skip_md` goes through, and what it does at each.
use Rattle.std.specs.Prelude.{ℕ, ◌+◌, cond, List, get_or, eqb, ltb}
use Rattle.spec.specs.Bytes.{Bytes}
use Rattle.spec.specs.Out.{Step}
use Rattle.spec.specs.Md.Elements.Code.{close_skip_md}
use Rattle.spec.specs.declared.ctx.FormatOpts.{FormatOpts}
use Rattle.tree.specs.Memory.{place_at, end_at, parent_at}
use Rattle.tree.specs.Nodes.{name_at, skipped_at}
use Rattle.nodes.specs.TextStep.{text_step}
use Rattle.nodes.specs.declared.skip_md.Spot.{Spot}

-- in the element `open` node `at` follows, or none where the element ends
unfoldable pub spot_step : FormatOpts → Bytes → Bytes → ℕ → ℕ → Step
spot_step opts sh ns «open» at t =
    cond (ltb at (end_at ns «open»)) (text_step opts sh (place_at ns at) t) (close_skip_md (name_at sh (place_at ns «open»)) t)

-- behind node `at`, which follows
unfoldable pub below_spot : List Bytes → Bytes → Bytes → ℕ → ℕ → Spot
below_spot skips sh ns «open» at =
    cond (skipped_at skips sh (place_at ns at)) (record { «open» = «open»; at = end_at ns at })
    (cond (eqb (get_or sh (place_at ns at) 0) 1) (record { «open» = at; at = at + 1 }) (record { «open» = «open»; at = at + 1 }))

-- behind the end of `top` no element is open
unfoldable pub next_spot : List Bytes → Bytes → Bytes → ℕ → ℕ → ℕ → Spot
next_spot skips sh ns top «open» at =
    cond (ltb at (end_at ns «open»)) (below_spot skips sh ns «open» at)
    (cond (eqb «open» top) (record { «open» = 0; at = at }) (record { «open» = parent_at ns «open»; at = at }))
