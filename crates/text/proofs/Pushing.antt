-- Bytes that are appended: d is the memory, and its first `len` bytes are the text.
use Prim.Native.Nat.{ℕ, ◌+◌, ◌-◌, ◌≤◌, ◌<◌}
use mathlib.Core.Path.{◌≡◌, sym, ap, ◌∙◌}
use mathlib.Core.List.{List, [], ◌∷◌, ◌++◌, append_assoc}
use native.Mathlib.Omega.{arith}
use native.Mathlib.Numerals.{add-one}
use lib.ListN.{length, take, drop, set, length-append, length-set, length-take, length-drop}
use borrow.Rule.Slice.PartMut.{put_mid, same_len_mid}
use lib.Seq.{take_at}
use lib.Seq.{length-take-le, take-suc-set}
use Rattle.spec.specs.Out.{push}
use Rattle.text.specs.Writes.{Written, Refused}

pub push_full : (d s : List ℕ) (len : ℕ) → len ≤ length d → length d - len < length s → Refused (length d) (push s (take len d))
unfolding push
push_full d s len h k = record { over = omega (arith, length-take-le len d h) }

pub byte_done : (d : List ℕ) (b len : ℕ) → len < length d → Written (length d) (set d len b) (len + 1) (push (b ∷ []) (take len d))
unfolding push
byte_done d b len h =
    let l : length (take len d) ≡ len = length-take-le len d (omega arith) in
    record {
      long = length-set d len b;
      fits = omega arith;
      count = sym (length-append (take len d) (b ∷ []) ∙ ap (λ (k : ℕ). k + 1) l);
      text_is = rw (add-one, take-suc-set);
    }

-- the bytes from `len` on are replaced by s, as a write to `text[len..len + k]` leaves them
pub put_done : (d s : List ℕ) (len k : ℕ) → k ≡ length s → len + k ≤ length d → Written (length d) (put_mid len (len + k - len) d s) (len + k) (push s (take len d))
unfolding push
put_done d s len k q h =
    let l : length (take len d) ≡ len = length-take-le len d (omega arith) in
    let m : length (take len d ++ s) ≡ len + k = omega (arith, length-append (take len d) s) in
    record {
      long = same_len_mid len (len + k - len) d s (omega (arith, length-take (len + k - len) (drop len d), length-drop len d));
      fits = omega arith;
      count = sym m;
      text_is = ap (take (len + k)) (sym (append_assoc (take len d) s _)) ∙ take_at (take len d ++ s) _ (len + k) m;
    }
