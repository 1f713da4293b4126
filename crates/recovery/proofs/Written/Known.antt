-- The elements of plain sheets are not skipped.
use Rattle.std.specs.Prelude.{ℕ, ◌≡◌, Bool}
use Rattle.std.proofs.Math.Path.{refl, sym}
use Rattle.std.proofs.Common.{ap, ◌∙◌}
use Rattle.std.proofs.Math.Bool.{true, false}
use Rattle.std.proofs.Math.Dec.{eqb}
use Rattle.spec.specs.Bytes.{Bytes, ascii, same, among, isin}
use Rattle.spec.specs.Names.{names, place, tag_of}
use Rattle.spec.specs.Plain.{is_list_name}
use Rattle.spec.specs.Md.Constants.{DEFAULT_SKIP_TAGS}
use Rattle.spec.proofs.Tests.{apart, same_eq}

-- no name that the writers know is one of the default skip list
pub known : (name : Bytes) → eqb (tag_of name) 0 ≡ false → among name DEFAULT_SKIP_TAGS ≡ false
unfolding among
known name h = rw (no (ascii "script") (unfold tag_of place names same in refl), no (ascii "style") (unfold tag_of place names same in refl), no (ascii "meta") (unfold tag_of place names same in refl), no (ascii "head") (unfold tag_of place names same in refl))
  where
    no : (x : Bytes) → tag_of x ≡ 0 → same name x ≡ false
    no x e = go (same name x) refl
      where
        go : (t : Bool) → same name x ≡ t → t ≡ false
        go true k = sym (ap (λ (n : ℕ). eqb n 0) (ap tag_of (same_eq name x k) ∙ e)) ∙ h
        go false k = refl

pub known_list : (name : Bytes) → is_list_name (tag_of name) ≡ true → among name DEFAULT_SKIP_TAGS ≡ false
unfolding is_list_name isin
known_list name h = known name (apart is_list_name (tag_of name) 0 h refl)
