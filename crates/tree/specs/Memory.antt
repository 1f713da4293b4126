-- Numbers in memory, and the records of nodes: 24 bytes each, in the order of opening.
use Rattle.std.specs.Prelude.{ℕ, zero, suc, ◌+◌, ◌*◌, ◌/◌, ◌%◌, ◌≤◌, ◌<◌, ◌≡◌, length, get_or}
use Rattle.spec.specs.Bytes.{Bytes}
use Rattle.spec.specs.Fields.{word}

-- the number in n bytes at j, the least significant first
unfoldable pub number_in : ℕ → Bytes → ℕ → ℕ
number_in zero m j = 0
number_in (suc n) m j = get_or m j 0 + number_in n m (j + 1) * 256

-- two, four and eight bytes at j
unfoldable pub word_at : Bytes → ℕ → ℕ
word_at m j = word (get_or m (j + 1) 0) (get_or m j 0)

unfoldable pub quad_at : Bytes → ℕ → ℕ
quad_at m j = word_at m (j + 2) * 65536 + word_at m j

unfoldable pub long_at : Bytes → ℕ → ℕ
long_at m j = quad_at m (j + 4) * 4294967296 + quad_at m j

-- v stands in the w bytes at j, where `read` reads it, and all else is as it was
pub record Stored (read : Bytes → ℕ → ℕ) (w j v : ℕ) (a b : Bytes) : Type 0 where
  pub same_long : length b ≡ length a
  pub value : read b j ≡ v
  pub before : (i : ℕ) → i < j → get_or b i 0 ≡ get_or a i 0
  pub behind : (i : ℕ) → j + w ≤ i → get_or b i 0 ≡ get_or a i 0

-- a record: the place of the node's field in the sheet with the number of its name, the number of the node behind its last
-- descendant, its parent; then scratch, a part of the text memory by its start and its length
abbrev pub entry_at : Bytes → ℕ → ℕ
entry_at ns i = quad_at ns (i * 24)

abbrev pub place_at : Bytes → ℕ → ℕ
place_at ns i = entry_at ns i / 256

abbrev pub number_at : Bytes → ℕ → ℕ
number_at ns i = entry_at ns i % 256

abbrev pub end_at : Bytes → ℕ → ℕ
end_at ns i = word_at ns (i * 24 + 4)

abbrev pub parent_at : Bytes → ℕ → ℕ
parent_at ns i = word_at ns (i * 24 + 6)

abbrev pub start_at : Bytes → ℕ → ℕ
start_at ns i = long_at ns (i * 24 + 8)

abbrev pub length_at : Bytes → ℕ → ℕ
length_at ns i = long_at ns (i * 24 + 16)

-- of node memory a, which is b now, at most the scratch of the records from number `from` up to `to` is changed
pub record Kept (from to : ℕ) (a b : Bytes) : Type 0 where
  pub long : length b ≡ length a
  pub tree : (i k : ℕ) → k < 8 → get_or b (i * 24 + k) 0 ≡ get_or a (i * 24 + k) 0
  pub below : (j : ℕ) → j < from * 24 → get_or b j 0 ≡ get_or a j 0
  pub above : (j : ℕ) → to * 24 ≤ j → get_or b j 0 ≡ get_or a j 0
