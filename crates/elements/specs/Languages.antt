-- The language of a code block as a part of the sheet.
use Rattle.std.specs.Prelude.{ℕ, ◌≡◌}
use Rattle.std.proofs.Math.Option.{Option, map}
use Rattle.spec.specs.Bytes.{Bytes}
use Rattle.spec.specs.Md.MDSerializer.{Ancestors}
use Rattle.spec.specs.Md.Elements.Code.{sanitize_attr_value}
use Rattle.tree.specs.Attributes.{InSheet, value_in}
use Rattle.tree.specs.Represents.{Around}
use Rattle.std.specs.Prelude.{Option as Answer}
use Rattle.std.specs.Borrow.{Bor}

-- r is a part of the sheet that is the language behind `sanitize_attr_value`, or that there is none
pub record Language (sh : Bytes) (r : Answer (Bor Bytes)) (o : Option Bytes) : Type 0 where
  pub inside : InSheet sh r
  pub language_is : o ≡ map sanitize_attr_value (value_in r)

-- node q and the elements around it are some
abbrev pub Within : Bytes → Bytes → ℕ → Type 0
Within sh ns q = (anc : Ancestors) × Around sh ns q anc
