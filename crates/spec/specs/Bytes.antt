-- Bytes, and the functions of Rust's `str` that the serializer calls on them.
use Rattle.std.specs.Prelude.{ℕ, zero, suc, ◌+◌, ◌-◌, ◌*◌, ◌/◌, ◌%◌, Bool, true, false, cond, ◌&&◌, ◌||◌, List, [], ◌∷◌, ◌++◌, length, take, drop, eqb, leb, ltb}
use Prim.Native.Char.{code}
use Prim.Native.String as str
use Prim.Native.String.{String}
use Rattle.std.proofs.Math.Option.{Option, none, some}

abbrev pub Bytes : Type 0
Bytes = List ℕ

-- the bytes of a literal of ASCII characters
abbrev pub ascii : String → Bytes
ascii str.[] = []
ascii (str.◌∷◌ c s) = code c ∷ ascii s

-- ---- tests

unfoldable pub null : {A : Type 0} → List A → Bool
null [] = true
null (x ∷ xs) = false

unfoldable pub same : Bytes → Bytes → Bool
same [] [] = true
same [] (b ∷ y) = false
same (a ∷ x) [] = false
same (a ∷ x) (b ∷ y) = eqb a b && same x y

-- b is one of the bytes of s
unfoldable pub isin : ℕ → Bytes → Bool
isin b [] = false
isin b (c ∷ s) = eqb b c || isin b s

-- x is one of the byte strings
unfoldable pub among : Bytes → List Bytes → Bool
among x [] = false
among x (y ∷ ys) = same x y || among x ys

unfoldable pub every : (ℕ → Bool) → Bytes → Bool
every p [] = true
every p (b ∷ s) = p b && every p s

unfoldable pub starts_with : Bytes → Bytes → Bool
starts_with x s = same (take (length x) s) x

unfoldable pub ends_with : Bytes → Bytes → Bool
ends_with x s = same (drop (length s - length x) s) x

-- document 01, "white bytes": tab, LF, FF, CR, space
unfoldable pub white : ℕ → Bool
white b = isin b (9 ∷ 10 ∷ 12 ∷ 13 ∷ 32 ∷ [])

unfoldable pub blank : ℕ → Bool
blank b = eqb b 32

unfoldable pub digit : ℕ → Bool
digit b = leb 48 b && leb b 57

-- ---- trims. A class of characters is a test on a character's bytes

-- the one-byte characters of which p holds
unfoldable pub one : (ℕ → Bool) → Bytes → Bool
one p [] = false
one p (b ∷ []) = p b
one p (b ∷ c ∷ s) = false

-- Unicode's White_Space
unfoldable pub white_space_of : List Bytes
white_space_of =
    (9 ∷ []) ∷ (10 ∷ []) ∷ (11 ∷ []) ∷ (12 ∷ []) ∷ (13 ∷ []) ∷ (32 ∷ [])
    ∷ (0xC2 ∷ 0x85 ∷ []) ∷ (0xC2 ∷ 0xA0 ∷ [])
    ∷ (0xE1 ∷ 0x9A ∷ 0x80 ∷ [])
    ∷ (0xE2 ∷ 0x80 ∷ 0x80 ∷ []) ∷ (0xE2 ∷ 0x80 ∷ 0x81 ∷ []) ∷ (0xE2 ∷ 0x80 ∷ 0x82 ∷ []) ∷ (0xE2 ∷ 0x80 ∷ 0x83 ∷ [])
    ∷ (0xE2 ∷ 0x80 ∷ 0x84 ∷ []) ∷ (0xE2 ∷ 0x80 ∷ 0x85 ∷ []) ∷ (0xE2 ∷ 0x80 ∷ 0x86 ∷ []) ∷ (0xE2 ∷ 0x80 ∷ 0x87 ∷ [])
    ∷ (0xE2 ∷ 0x80 ∷ 0x88 ∷ []) ∷ (0xE2 ∷ 0x80 ∷ 0x89 ∷ []) ∷ (0xE2 ∷ 0x80 ∷ 0x8A ∷ [])
    ∷ (0xE2 ∷ 0x80 ∷ 0xA8 ∷ []) ∷ (0xE2 ∷ 0x80 ∷ 0xA9 ∷ []) ∷ (0xE2 ∷ 0x80 ∷ 0xAF ∷ []) ∷ (0xE2 ∷ 0x81 ∷ 0x9F ∷ [])
    ∷ (0xE3 ∷ 0x80 ∷ 0x80 ∷ [])
    ∷ []

unfoldable pub is_white_space : Bytes → Bool
is_white_space c = among c white_space_of

unfoldable pub unless : Bool → Bytes → Bytes
unless true s = []
unless false s = s

-- s without the characters of class q at its end. In UTF-8 no character's bytes begin inside another's, so that
-- the bytes left at some place are those of one character only where it begins
unfoldable pub trim_end_matches : (Bytes → Bool) → Bytes → Bytes
trim_end_matches q [] = []
trim_end_matches q (b ∷ s) = let r = b ∷ trim_end_matches q s in unless (q r) r

unfoldable pub trim_start_matches : (ℕ → Bool) → Bytes → Bytes
trim_start_matches p [] = []
trim_start_matches p (b ∷ s) = cond (p b) (trim_start_matches p s) (b ∷ s)

unfoldable pub trim_ascii_end : Bytes → Bytes
trim_ascii_end s = trim_end_matches (one white) s

unfoldable pub trim_ascii_start : Bytes → Bytes
trim_ascii_start s = trim_start_matches white s

-- `s.trim_ascii().is_empty()`
unfoldable pub is_blank : Bytes → Bool
is_blank s = every white s

unfoldable pub trim_end : Bytes → Bytes
trim_end s = trim_end_matches is_white_space s

-- how many bytes the White_Space character has that begins s; 0 where none does
unfoldable pub white_width : Bytes → ℕ
white_width s =
    cond (is_white_space (take 1 s)) 1 (cond (is_white_space (take 2 s)) 2 (cond (is_white_space (take 3 s)) 3 0))

-- s without its first k bytes, and then without the White_Space characters that begin it
unfoldable pub trim_from : ℕ → Bytes → Bytes
trim_from k [] = []
trim_from (suc k) (b ∷ s) = trim_from k s
trim_from zero (b ∷ s) = elim (white_width (b ∷ s)) [ zero ↦ b ∷ s | suc k ↦ trim_from k s ]

unfoldable pub trim : Bytes → Bytes
trim s = trim_from 0 (trim_end s)

-- ---- parts

unfoldable pub take_while : (ℕ → Bool) → Bytes → Bytes
take_while p [] = []
take_while p (b ∷ s) = cond (p b) (b ∷ take_while p s) []

-- the parts between the bytes of which p holds: the first, and the others
unfoldable pub cut_at : Bool → ℕ → Bytes × List Bytes → Bytes × List Bytes
cut_at true b r = ([], r.0 ∷ r.1)
cut_at false b r = (b ∷ r.0, r.1)

unfoldable pub parts : (ℕ → Bool) → Bytes → Bytes × List Bytes
parts p [] = ([], [])
parts p (b ∷ s) = cut_at (p b) b (parts p s)

unfoldable pub split : (ℕ → Bool) → Bytes → List Bytes
split p s = let r = parts p s in r.0 ∷ r.1

unfoldable pub filled : List Bytes → List Bytes
filled [] = []
filled (x ∷ xs) = cond (null x) (filled xs) (x ∷ filled xs)

-- `split_ascii_whitespace`; document 01: "Words part at white bytes"
unfoldable pub words : Bytes → List Bytes
words s = filled (split white s)

-- the first of the words, or nothing
unfoldable pub first_word : List Bytes → Bytes
first_word [] = []
first_word (w ∷ ws) = w

-- `join`: the parts with sep between them
unfoldable pub join_rest : Bytes → List Bytes → Bytes
join_rest sep [] = []
join_rest sep (x ∷ xs) = sep ++ (x ++ join_rest sep xs)

unfoldable pub join : Bytes → List Bytes → Bytes
join sep [] = []
join sep (x ∷ xs) = x ++ join_rest sep xs

-- ---- values that may be missing

unfoldable pub or_else : Option Bytes → Option Bytes → Option Bytes
or_else none y = y
or_else (some s) y = some s

unfoldable pub or_nothing : Option Bytes → Bytes
or_nothing none = []
or_nothing (some s) = s

-- ---- decimal numbers

-- the number of a run of digits, behind the digits of n
unfoldable pub value_from : ℕ → Bytes → ℕ
value_from n [] = n
value_from n (b ∷ s) = value_from (n * 10 + (b - 48)) s

-- n in digits, if it has at most k
unfoldable pub digits_of : ℕ → ℕ → Bytes
digits_of zero n = []
digits_of (suc k) n =
    let more = digits_of k (n / 10) ++ ((48 + n % 10) ∷ []) in
    cond (ltb n 10) ((48 + n) ∷ []) more

unfoldable pub decimal : ℕ → Bytes
decimal n = digits_of (suc n) n
