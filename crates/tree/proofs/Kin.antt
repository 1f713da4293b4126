-- What the access functions find at the first node of a forest: its name, whether the skip list leaves it out, and its bytes.
use Prim.Native.Nat.{ℕ, ◌<◌}
use native.Mathlib.Omega.{arith}
use mathlib.Core.Path.{◌≡◌, ap, sym}
use mathlib.Core.List.{List}
use lib.ListN.{get_or}
use borrow.Author.Tests.{eq-eqb, ne_eqb}
use Rattle.spec.specs.Bytes.{Bytes, among}
use Rattle.spec.specs.Names.{tag_of}
use Rattle.spec.specs.Tree.{Forest, nothing, text, comment, element}
use Rattle.spec.specs.Md.Elements.List.{name_of}
use Rattle.tree.specs.Memory.{place_at}
use Rattle.tree.specs.Represents.{Rep}
use Rattle.tree.specs.Nodes.{body_at, name_at, skipped_at, text_at}
use Rattle.tree.proofs.Firsts.{its_tag, its_body}

-- the number of its name
pub first_name : (sh ns : Bytes) (parent i e : ℕ) (f : Forest) → Rep sh ns parent i e f → i < e → name_at sh (place_at ns i) ≡ name_of f
unfolding Rep name_at name_of
first_name sh ns parent i e nothing h l = absurd (omega arith)
first_name sh ns parent i e (text s r) h l = rw (ne_eqb (get_or sh (place_at ns i) 0) 1 (λ t. omega (arith, its_tag h.1)))
first_name sh ns parent i e (comment s r) h l = rw (ne_eqb (get_or sh (place_at ns i) 0) 1 (λ t. omega (arith, its_tag h.1)))
first_name sh ns parent i e (element name attrs k r) h l =
    rw (eq-eqb (get_or sh (place_at ns i) 0) 1 (its_tag h.1)) (ap tag_of (sym (its_body h.1)))

-- whether the skip list leaves an element out
pub first_skipped : (sh : Bytes) (p : ℕ) (skips : List Bytes) → get_or sh p 0 ≡ 1 → skipped_at skips sh p ≡ among (body_at sh p) skips
unfolding skipped_at
first_skipped sh p skips e = rw (eq-eqb (get_or sh p 0) 1 e)

-- the bytes of a text
pub first_text_lem : (sh : Bytes) (p : ℕ) → get_or sh p 0 ≡ 4 → text_at sh p ≡ body_at sh p
unfolding text_at
first_text_lem sh p e = rw (eq-eqb (get_or sh p 0) 4 e)
