-- A text that was gathered behind the text, and what is made of it.
use Prim.Native.Nat.{ℕ, ◌+◌, ◌-◌, ◌≤◌, ◌<◌, max}
use native.Mathlib.Omega.{arith}
use mathlib.Core.Path.{◌≡◌, ap, ap₂, ◌∙◌, sym, subst, subst₂}
use mathlib.Core.Bool.{cond, ◌||◌}
use mathlib.Core.List.{[], ◌∷◌, ◌++◌}
use lib.ListN.{length, take, drop, length-append}
use lib.Seq.{length-take-le, take-take, take_at, drop_at}
use Rattle.spec.specs.Bytes.{Bytes, ascii, null, ends_with, words, join}
use Rattle.spec.specs.Out.{Step, push, and_then, beside}
use Rattle.spec.specs.Md.Elements.Code.{backticks, needs_space, code_span, fenced_block, pre_in_link, max_backtick_run, push_code_text}
use Rattle.spec.specs.Md.TextUtils.{push_block_space}
use Rattle.std.specs.Prelude.{Ok, Err}
use Rattle.std.specs.Result.{IsErr}
use Rattle.text.specs.Writes.{Written, Refused, Writes}
use Rattle.text.specs.Texts.{bytes, wrote, WritesTo}
use Rattle.text.specs.declared.buffer.Full.{Full}
use Rattle.text.specs.declared.text.Text.{Text}
use Rattle.text.proofs.Reading.{drop_take}
use Rattle.text.proofs.Texts.{Answer, as_over, done}
use Rattle.text.proofs.Writing.{full, then_assoc}

-- what has no room has none for g, which takes more
pub stop_as : {a b : Text} {q r : Answer} {z : Full} {f g : Step} → q ≡ Err z → WritesTo a b q f → IsErr r → (Refused (length a.room.now) (f (bytes a)) → Refused (length a.room.now) (g (bytes a))) → WritesTo a b r g
stop_as {b = b} e v h k = as_over v.room_is v.long (k (full (ap (wrote b) e) v.writes)) h

-- x was written behind a text, up to the length of b; then the text is cut to what it was
module _ {a b : Text} {q : Answer} {u : Unit {0}} (x : Bytes) (e : q ≡ Ok u) (v : WritesTo a b q (push x)) where
  w : Written (length a.room.now) b.room.now b.len (push x (bytes a))
  w = done e v

  pub behind_from : a.len ≤ b.len
  unfolding push
  behind_from = omega (arith, w.count, length-append (bytes a) x, length-take-le a.len a.room.now a.fits)

  text_kept : take a.len b.room.now ≡ bytes a
  unfolding push
  text_kept =
      sym (take-take a.len b.len b.room.now behind_from) ∙ (ap (take a.len) w.text_is ∙ take_at (bytes a) x a.len (length-take-le a.len a.room.now a.fits))

  behind_is : take (b.len - a.len) (drop a.len b.room.now) ≡ x
  unfolding push
  behind_is = sym (drop_take a.len b.len b.room.now) ∙ (ap (drop a.len) w.text_is ∙ drop_at (bytes a) x a.len (length-take-le a.len a.room.now a.fits))

  -- f makes something of it
  pub behind_writes : (f : Bytes → Step) {m c : Text} {r : Answer} → m.room.ghost_name ≡ b.room.ghost_name → m.room.now ≡ b.room.now → m.len ≡ a.len
      → WritesTo m c r (f (take (b.len - a.len) (drop a.len b.room.now))) → WritesTo a c r (f x)
  behind_writes f {m} {c} {r} n g l y =
      record {
        room_is = y.room_is ∙ (n ∙ v.room_is);
        long = y.long ∙ (ap length g ∙ v.long);
        writes = subst (λ (k : ℕ). Writes k c.room.now (wrote c r) (f x (bytes a))) (ap length g ∙ v.long)
            (subst₂ (λ (s t : Bytes). Writes (length m.room.now) c.room.now (wrote c r) (f s t)) behind_is (ap₂ (λ (k : ℕ) (z : Bytes). take k z) l g ∙ text_kept) y.writes);
      }

-- the steps of `pre` in a link's text behind the first
abbrev pub span_in_link : Bytes → Step
span_in_link content t = and_then (push_code_text 0 (join (ascii " ") (words content)) t) push_block_space

pub in_link_lem : (content t : Bytes) → pre_in_link content t ≡ and_then (push_block_space t) (span_in_link content)
unfolding pre_in_link
in_link_lem content t = then_assoc (push_block_space t) (push_code_text 0 (join (ascii " ") (words content))) push_block_space

-- ---- what has no room behind the text has none in what is made of it

pub span_over : {room : ℕ} (x t : Bytes) → length t ≤ room → Refused room (push x t) → Refused room (push_code_text 0 x t)
unfolding push push_code_text null code_span and_then beside
span_over [] t h v = absurd (omega (arith, v.over))
span_over {room} (b ∷ x) t h v =
    record {
      over =
          longer (cond (ends_with (ascii "`") t) (ascii " ") []) (backticks (max_backtick_run (b ∷ x) + 1)) (cond (needs_space (b ∷ x)) (ascii " ") []) _ v.over;
    }
  where
    longer : (a f s : Bytes) (n : ℕ) → room < length t + length (b ∷ x) → room < max (0 + (length t + length (a ++ (f ++ (s ++ (b ∷ x)))))) n
    longer a f s n o = omega (arith, length-append a (f ++ (s ++ (b ∷ x))), length-append f (s ++ (b ∷ x)), length-append s (b ∷ x))

pub block_over : {room : ℕ} (begin lang x t : Bytes) → Refused room (push x t) → Refused room (push (begin ++ fenced_block lang x) t)
unfolding push fenced_block
block_over {room} begin lang x t v = record { over = longer begin (backticks (max (max_backtick_run x) 2 + 1)) lang (ascii "\n") (cond (null x || ends_with (ascii "\n") x) [] (ascii "\n") ++ (backticks (max (max_backtick_run x) 2 + 1) ++ ascii "\n")) v.over }
  where
    longer : (a f l n r : Bytes) → room < length t + length x → room < length t + length (a ++ (f ++ (l ++ (n ++ (x ++ r)))))
    longer a f l n r o =
        omega
        (arith, length-append a (f ++ (l ++ (n ++ (x ++ r)))), length-append f (l ++ (n ++ (x ++ r))), length-append l (n ++ (x ++ r)), length-append n (x ++ r), length-append x r)
