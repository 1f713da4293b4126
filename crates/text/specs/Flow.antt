-- A text that is appended byte by byte: what a byte adds depends on itself and on what stands behind it.
use Rattle.std.specs.Prelude.{ℕ, ◌+◌, ◌≤◌, ◌<◌, ◌≡◌, Bool, true, false, cond, not, ◌&&◌, ◌||◌, [], ◌∷◌, ◌++◌, length, get_or, eqb}
use Rattle.spec.specs.Bytes.{Bytes, ascii, white}
use Rattle.spec.specs.Md.TextUtils.{is_escaped, is_ordered_list_marker}
use Rattle.text.specs.Class.{ordinary}

-- a word begins with s
unfoldable pub starts_black : Bytes → Bool
starts_black [] = false
starts_black (b ∷ rest) = not (white b)

-- a `.` or `)` ends the word that s begins with
unfoldable pub last_dot : Bytes → Bool
last_dot [] = false
last_dot (b ∷ rest) = (eqb b 46 || eqb b 41) && not (starts_black rest)

-- a word has no escapes but those that it has elsewhere where it begins a line: it is no marker, and its first byte is none of
-- those that are escaped there, which are `=`, `>` and some up to the dot
pub record MayStart (word : Bytes) : Type 0 where
  pub above_dot : 48 ≤ get_or word 0 0
  pub no_underline : get_or word 0 0 ≡ 61 → ⊥
  pub no_quote : get_or word 0 0 ≡ 62 → ⊥
  pub no_marker : is_ordered_list_marker word ≡ false

-- what b adds before `rest`: a white byte a blank, where a word begins behind it
unfoldable pub added : Bool → ℕ → Bytes → Bytes
added escape b rest =
    cond (white b) (cond (starts_black rest) (ascii " ") [])
    (cond (escape && is_escaped false false false b rest) (ascii "\\") [] ++ (b ∷ []))

-- what all bytes add
unfoldable pub flow : Bool → Bytes → Bytes
flow escape [] = []
flow escape (b ∷ rest) = added escape b rest ++ flow escape rest

-- what the bytes of `part` add before `rest`
unfoldable pub flow_before : Bool → Bytes → Bytes → Bytes
flow_before escape [] rest = []
flow_before escape (b ∷ part) rest = added escape b (part ++ rest) ++ flow_before escape part rest

-- b adds itself whatever follows: an ordinary byte, or any that is not white where no signs are escaped
abbrev pub kept : Bool → ℕ → Bool
kept signs b = cond signs (ordinary b) (not (white b))

-- b adds itself before `next`: a byte that does so anyway, or a blank before a word
abbrev pub plain : Bool → ℕ → ℕ → Bool
plain signs b next = kept signs b || (eqb b 32 && not (white next))

-- the byte at i has a byte behind it, and adds itself
pub record Plain (signs : Bool) (s : Bytes) (i : ℕ) : Type 0 where
  pub followed : i + 1 < length s
  pub adds_itself : plain signs (get_or s i 0) (get_or s (i + 1) 0) ≡ true

-- the first n bytes of s are appended as they are
pub record Flows (signs : Bool) (s : Bytes) (n : ℕ) : Type 0 where
  pub within : n ≤ length s
  pub each : (i : ℕ) → i < n → Plain signs s i
