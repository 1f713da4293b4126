-- What is known of a text after some of its bytes, to tell whether it is White_Space.
use Rattle.std.specs.Prelude.{ℕ, Bool, true, false, cond, [], ◌∷◌, ◌++◌}
use Rattle.spec.specs.Bytes.{Bytes, is_white_space}
use Rattle.nodes.specs.declared.white_space.Begun.{Begun}
use Rattle.nodes.specs.declared.white_space.Begun.TheVariants.{Nothing, One, Two, Other}

-- the bytes of the character that is begun. No White_Space character begins with three zeros: they stand for all bytes that
-- are not White_Space whatever follows them
unfoldable pub held : Begun → Bytes
held Nothing = []
held (One a) = a ∷ []
held (Two a b) = a ∷ b ∷ []
held Other = 0 ∷ 0 ∷ 0 ∷ []

unfoldable pub grown : Begun → ℕ → Begun
grown Nothing c = One c
grown (One a) c = Two a c
grown (Two a b) c = Other
grown Other c = Other

-- one byte more
unfoldable pub next_white : Begun → ℕ → Begun
next_white x c = cond (is_white_space (held x ++ (c ∷ []))) Nothing (grown x c)

unfoldable pub white_state : Begun → Bytes → Begun
white_state x [] = x
white_state x (b ∷ s) = white_state (next_white x b) s

unfoldable pub is_nothing : Begun → Bool
is_nothing Nothing = true
is_nothing (One a) = false
is_nothing (Two a b) = false
is_nothing Other = false
