-- Backslash escapes of words, for every chunk.
use Rattle.std.specs.Prelude.{ℕ, ◌≡◌, Bool, true, cond, ◌||◌, [], ◌∷◌, ◌++◌, eqb}
use Rattle.std.proofs.Math.Path.{refl}
use Rattle.std.proofs.Math.Bool.{false}
use Rattle.spec.specs.Bytes.{Bytes, ascii, null, same, isin}
use Rattle.spec.specs.Everything.{everything}
use Rattle.spec.specs.Md.TextUtils.{is_escaped, escaped_from, escaped_chunk}
use Rattle.spec.specs.Reading.Inline.{bare, escaped, slashed, unescape}
use Rattle.spec.proofs.Tests.{or_l, or_elim, same_eq}
use Rattle.recovery.proofs.Escapes.{escaped_punctuation}

-- a backslash is always escaped
pub bare_backslash : (start marker underline : Bool) (b : ℕ) (rest : Bytes)
    → is_escaped start marker underline b rest ≡ false → eqb b 92 ≡ false
unfolding is_escaped isin
bare_backslash start marker underline b rest h = or_l (eqb b 92) _ (or_l (isin b (ascii "\\`*_[]<|~")) _ h)

from_read : (start marker underline : Bool) (w : Bytes) → unescape false (escaped_from start marker underline w) ≡ w
unfolding escaped_from unescape bare escaped slashed
from_read start marker underline [] = refl
from_read start marker underline (b ∷ w) = go (is_escaped start marker underline b w) refl (from_read false marker underline w)
  where
    go : (t : Bool) → is_escaped start marker underline b w ≡ t → unescape false (escaped_from false marker underline w) ≡ w
        → unescape false (cond t (ascii "\\") [] ++ (b ∷ escaped_from false marker underline w)) ≡ b ∷ w
    go true e ih = rw (escaped_punctuation start marker underline b w e, ih)
    go false e ih = rw (bare_backslash start marker underline b w e, ih)

-- 2.4: the backslash escapes of what `push_escaped_chunk` writes give the chunk back, for every chunk, at the beginning of a line and
-- elsewhere
pub chunk_read : (chunk : Bytes) (start : Bool) → unescape false (escaped_chunk chunk true start) ≡ chunk
unfolding escaped_chunk
chunk_read chunk start = from_read start _ _ chunk

-- nothing is lost
pub from_some : (start marker underline : Bool) (b : ℕ) (w : Bytes) → null (escaped_from start marker underline (b ∷ w)) ≡ false
unfolding escaped_from null
from_some start marker underline b w = go (is_escaped start marker underline b w)
  where
    go : (t : Bool) → null (cond t (ascii "\\") [] ++ (b ∷ escaped_from false marker underline w)) ≡ false
    go true = refl
    go false = refl

-- a word of a dot alone is written as it is
pub dot_chunk : (w : Bytes) (start : Bool) → (same w (ascii ".") || same w (ascii ")")) ≡ true → escaped_chunk w true start ≡ w
dot_chunk w start h =
    or_elim (same w (ascii ".")) _ (λ e. rw (same_eq w (ascii ".") e) (dot start)) (λ e. rw (same_eq w (ascii ")") e) (paren start)) h
  where
    dot : (start : Bool) → escaped_chunk (ascii ".") true start ≡ ascii "."
    dot true = unfold everything in refl
    dot false = unfold everything in refl

    paren : (start : Bool) → escaped_chunk (ascii ")") true start ≡ ascii ")"
    paren true = unfold everything in refl
    paren false = unfold everything in refl
