-- A block of bytes that is appended without a branch: each byte alone, or behind a backslash.
use Rattle.std.specs.Prelude.{ℕ, zero, suc, ◌+◌, ◌≤◌, ◌<◌, ◌≡◌, Bool, true, false, cond, ◌&&◌, List, [], ◌∷◌, ◌++◌, length, take, drop, get_or, eqb}
use Rattle.spec.specs.Bytes.{Bytes, ascii, starts_with}
use Rattle.spec.specs.Md.TextUtils.{is_escaped}
use Rattle.text.specs.Flow.{Plain}
use Rattle.normalized.specs.declared.fast_copy.Block.{Block}

-- the first n bytes of s, each behind a backslash where its sign is set
unfoldable pub signed : List Bool → Bytes → ℕ → Bytes
signed signs s zero = []
signed signs s (suc n) = signed signs s n ++ (cond (get_or signs n false) (ascii "\\") [] ++ (get_or s n 0 ∷ []))

-- the first n signs are set for the bytes of s that are escaped where no line begins; `rest` is what stands behind a byte, of which
-- the next byte tells all that matters
pub record Signs (escape : Bool) (s : Bytes) (signs : List Bool) (n : ℕ) : Type 0 where
  pub each : (i : ℕ) → i < n → (rest : Bytes) → eqb (get_or s (i + 1) 0) 91 ≡ starts_with (ascii "[") rest
      → get_or signs i false ≡ (escape && is_escaped false false false (get_or s i 0) rest)

-- the signs of the first 16 bytes of s; where the block is even, each adds itself, signs aside
pub record BlockOf (escape : Bool) (s : Bytes) (block : Block) : Type 0 where
  pub marked : Signs escape s block.signs 16
  pub spaced : block.even ≡ true → (i : ℕ) → i < 16 → Plain false s i

-- x stands behind the first len bytes, n bytes with them; none behind the next `most` bytes has changed
pub record Appends (before after : Bytes) (len n most : ℕ) (x : Bytes) : Type 0 where
  pub long : length after ≡ length before
  pub reach : n ≤ len + most
  pub text_is : take n after ≡ take len before ++ x
  pub behind : drop (len + most) after ≡ drop (len + most) before
