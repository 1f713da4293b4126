-- What the first byte of a UTF-8 sequence says of the rest, as numbers.
use Rattle.std.specs.Prelude.{ℕ, zero, suc, ◌-◌, ◌≡◌, Bool, false, cond, eqb, ltb, replicate, List, [], ◌∷◌, ◌++◌, Option, None, Some}
use Rattle.spec.specs.Bytes.{Bytes}
use Rattle.spec.specs.Utf8.{Range, to, well_formed}
use Rattle.input.specs.declared.utf8.Lead.{Lead}

abbrev pub make : ℕ → ℕ → ℕ → Lead
make n a b = record { more = n; low = a; high = b }

-- `None`: no sequence begins with b
abbrev pub lead_of : ℕ → Option Lead
lead_of b =
    cond (ltb b 0x80) (Some (make 0 0x80 0xBF))
    (cond (ltb b 0xC2) None
    (cond (ltb b 0xE0) (Some (make 1 0x80 0xBF))
    (cond (eqb b 0xE0) (Some (make 2 0xA0 0xBF))
    (cond (eqb b 0xED) (Some (make 2 0x80 0x9F))
    (cond (ltb b 0xF0) (Some (make 2 0x80 0xBF))
    (cond (eqb b 0xF0) (Some (make 3 0x90 0xBF))
    (cond (ltb b 0xF4) (Some (make 3 0x80 0xBF)) (cond (eqb b 0xF4) (Some (make 3 0x80 0x8F)) None))))))))

-- `None`: b is wrong where d is due
abbrev pub next_of : Lead → ℕ → Option Lead
next_of d b =
    cond (eqb d.more 0) (lead_of b) (cond (ltb b d.low) None (cond (ltb d.high b) None (Some (make (d.more - 1) 0x80 0xBF))))

-- the bytes that are still wanted
unfoldable pub ranges_of : ℕ → ℕ → ℕ → List Range
ranges_of zero low high = []
ranges_of (suc n) low high = to low high ∷ replicate n (to 0x80 0xBF)

abbrev pub due : Lead → List Range
due d = ranges_of d.more d.low d.high

-- the answer for s, where d says what is due before it
abbrev pub after : Option Lead → Bytes → Bool
after None s = false
after (Some d) s = well_formed (due d) s

-- r is due behind the part, where d is due before it, whatever comes then
abbrev pub Behind : Lead → Bytes → Option Lead → Type 0
Behind d part r = (rest : Bytes) → well_formed (due d) (part ++ rest) ≡ after r rest

abbrev pub is_ascii : ℕ → Bool
is_ascii b = ltb b 0x80
