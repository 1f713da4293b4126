-- What stands for one byte of a link destination, and the balance of its parentheses.
use Rattle.std.specs.Prelude.{ℕ, Bool, cond, not, ◌||◌, eqb, ℤ, pos, ◌+ℤ◌, ◌-ℤ◌}
use Rattle.spec.specs.Bytes.{Bytes, ascii}
use Rattle.spec.specs.Md.TextUtils.{wants_wrap, wrapped_byte, backslash_twice}

-- below zero where b closes a parenthesis that is not open
abbrev pub next_balance : ℤ → ℕ → ℤ
next_balance balance b = cond (eqb b 40) (balance +ℤ pos 1) (cond (eqb b 41) (balance -ℤ pos 1) balance)

abbrev pub url_byte : Bool → ℕ → Bytes
url_byte wrap = cond wrap wrapped_byte backslash_twice

-- what stands for a byte that does not begin U+00A0
abbrev pub piece_of : Bool → ℕ → Bytes
piece_of wrap b = cond (eqb b 38) (ascii "&amp;") (cond (eqb b 34) (ascii "&quot;") (url_byte wrap b))

-- b stands as it is where a destination is appended, between `<` and `>` or without them
abbrev pub kept : ℕ → Bool
kept b =
    not (eqb b 34 || (eqb b 38 || (eqb b 60 || (eqb b 62 || (eqb b 92 || (eqb b 0xC2 || (eqb b 10 || eqb b 13)))))))

-- b stands as it is, whatever is around it: it wants no `<`, is no parenthesis, is not replaced, and does not begin U+00A0
abbrev pub itself : ℕ → Bool
itself b = not (wants_wrap b || (eqb b 40 || (eqb b 41 || (eqb b 38 || (eqb b 34 || (eqb b 92 || eqb b 0xC2))))))
