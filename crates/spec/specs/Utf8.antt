-- UTF-8, by the Unicode Standard's Table 3-7, "Well-Formed UTF-8 Byte Sequences".
use Rattle.std.specs.Prelude.{ℕ, Bool, true, false, cond, ◌&&◌, List, [], ◌∷◌, leb}
use Rattle.spec.specs.Bytes.{Bytes}

pub record Range : Type 0 where
  pub low : ℕ
  pub high : ℕ

unfoldable pub to : ℕ → ℕ → Range
to a b = record { low = a; high = b }

-- a row of the table: the first byte, and the bytes behind it
pub record Sequence : Type 0 where
  pub first : Range
  pub more : List Range

unfoldable pub row : Range → List Range → Sequence
row r rs = record { first = r; more = rs }

unfoldable pub sequences : List Sequence
unfolding to row
sequences =
    row (to 0x00 0x7F) []
    ∷ row (to 0xC2 0xDF) (to 0x80 0xBF ∷ [])
    ∷ row (to 0xE0 0xE0) (to 0xA0 0xBF ∷ to 0x80 0xBF ∷ [])
    ∷ row (to 0xE1 0xEC) (to 0x80 0xBF ∷ to 0x80 0xBF ∷ [])
    ∷ row (to 0xED 0xED) (to 0x80 0x9F ∷ to 0x80 0xBF ∷ [])
    ∷ row (to 0xEE 0xEF) (to 0x80 0xBF ∷ to 0x80 0xBF ∷ [])
    ∷ row (to 0xF0 0xF0) (to 0x90 0xBF ∷ to 0x80 0xBF ∷ to 0x80 0xBF ∷ [])
    ∷ row (to 0xF1 0xF3) (to 0x80 0xBF ∷ to 0x80 0xBF ∷ to 0x80 0xBF ∷ [])
    ∷ row (to 0xF4 0xF4) (to 0x80 0x8F ∷ to 0x80 0xBF ∷ to 0x80 0xBF ∷ [])
    ∷ []

unfoldable pub within : ℕ → Range → Bool
within b r = leb r.low b && leb b r.high

-- some row begins with b
unfoldable pub begins : ℕ → List Sequence → Bool
begins b [] = false
begins b (s ∷ ss) = cond (within b s.first) true (begins b ss)

-- the bytes that follow b in the row that it begins
unfoldable pub following : ℕ → List Sequence → List Range
following b [] = []
following b (s ∷ ss) = cond (within b s.first) s.more (following b ss)

-- the next byte is right, where the sequence that is begun still wants the bytes in `due`
unfoldable pub fits : List Range → ℕ → Bool
fits [] b = begins b sequences
fits (r ∷ rs) b = within b r

unfoldable pub due_after : List Range → ℕ → List Range
due_after [] b = following b sequences
due_after (r ∷ rs) b = rs

unfoldable pub well_formed : List Range → Bytes → Bool
well_formed [] [] = true
well_formed (r ∷ rs) [] = false
well_formed [] (b ∷ s) = fits [] b && well_formed (due_after [] b) s
well_formed (r ∷ rs) (b ∷ s) = fits (r ∷ rs) b && well_formed (due_after (r ∷ rs) b) s

unfoldable pub is_utf8 : Bytes → Bool
is_utf8 s = well_formed [] s
