-- Lists of lines as texts: each line ended, or with a line end before each; and a last line that ends in no white byte.
use Rattle.std.specs.Prelude.{ℕ, ◌≡◌, refl, Bool, true, false, cond, not, List, [], ◌∷◌, ◌++◌}
use Rattle.std.proofs.Common.{sym, ap, true≢false, append-nil, append_assoc}
use Rattle.std.proofs.lemmas.Bool.{not-true}
use Rattle.spec.specs.Bytes.{Bytes, ascii, null, white, join, join_rest}
use Rattle.recovery.proofs.Fences.{ended}
use Rattle.recovery.specs.Closed.{spaced}
use Rattle.recovery.proofs.Written.Ends.{last_is, first_is, last_keep, first_app}
use Rattle.recovery.proofs.Written.Breaks.{sep}

-- the lines with a line end before each
abbrev pub below : List Bytes → Bytes
below ls = join_rest (ascii "\n") ls

pub ended_app : (a b : List Bytes) → ended (a ++ b) ≡ ended a ++ ended b
unfolding ended
ended_app [] b = refl
ended_app (l ∷ a) b = rw (ended_app a b) (sym (append_assoc l (10 ∷ ended a) (ended b)))

pub below_app : (a b : List Bytes) → below (a ++ b) ≡ below a ++ below b
unfolding join_rest
below_app [] b = refl
below_app (l ∷ a) b = rw (below_app a b) (ap (λ (x : Bytes). 10 ∷ x) (sym (append_assoc l (below a) (below b))))

pub below_nil : (x : Bytes) → x ++ below [] ≡ x
unfolding join_rest
below_nil x = append-nil x

pub below_ended : (ls : List Bytes) → 10 ∷ ended ls ≡ below ls ++ ascii "\n"
unfolding ended join_rest
below_ended [] = refl
below_ended (l ∷ ls) = rw (below_ended ls) (ap (λ (x : Bytes). 10 ∷ x) (sym (append_assoc l (below ls) (ascii "\n"))))

pub below_join : (ls : List Bytes) → null ls ≡ false → below ls ≡ 10 ∷ join (ascii "\n") ls
unfolding null join_rest join
below_join [] n = absurd (true≢false n)
below_join (l ∷ ls) n = refl

pub ended_join : (ls : List Bytes) → null ls ≡ false → ended ls ≡ join (ascii "\n") ls ++ ascii "\n"
unfolding null ended join
ended_join [] n = absurd (true≢false n)
ended_join (l ∷ ls) n = rw (below_ended ls) (sym (append_assoc l (below ls) (ascii "\n")))

pub join_app : (a b : List Bytes) → null a ≡ false → join (ascii "\n") (a ++ b) ≡ join (ascii "\n") a ++ below b
unfolding null join
join_app [] b n = absurd (true≢false n)
join_app (l ∷ a) b n = rw (below_app a b) (sym (append_assoc l (below a) (below b)))

-- joined lines begin as the first of them
pub join_first : (p : ℕ → Bool) (l : Bytes) (ls : List Bytes) → first_is p l ≡ false → first_is p (join (ascii "\n") (l ∷ ls)) ≡ false
unfolding join
join_first p l ls h = first_app p l (below ls) h

-- and end as the last
pub join_last : (p : ℕ → Bool) (ls : List Bytes) (l : Bytes) → last_is p l ≡ false → last_is p (join (ascii "\n") (ls ++ (l ∷ []))) ≡ false
unfolding join join_rest
join_last p [] l h = rw (append-nil l) h
join_last p (m ∷ ls) l h =
    rw (below_app ls (l ∷ []), append-nil l, ← append_assoc m (below ls) (10 ∷ l)) (last_keep p (m ++ below ls) (10 ∷ l) (last_keep p (ascii "\n") l h))

-- ---- a blank line before lines that do not stand close

pub spaced_app : (g : Bool) (a b : List Bytes) → spaced g (a ++ b) ≡ spaced g a ++ b
unfolding spaced
spaced_app true a b = refl
spaced_app false a b = refl

pub spaced_some : (g : Bool) (ls : List Bytes) → null ls ≡ false → null (spaced g ls) ≡ false
unfolding spaced null
spaced_some true ls h = h
spaced_some false ls h = refl

pub sep_ended : (g : Bool) (ls : List Bytes) → sep g ++ ended ls ≡ below (spaced g ls) ++ ascii "\n"
unfolding sep spaced ended
sep_ended true ls = below_ended ls
sep_ended false ls = below_ended ([] ∷ ls)

-- ---- the last line

-- the last line, if there is one, ends in no white byte
unfoldable pub tidy : List Bytes → Bool
tidy [] = true
tidy (l ∷ ls) = cond (null ls) (not (last_is white l)) (tidy ls)

pub tidy_nil : tidy [] ≡ true
unfolding tidy
tidy_nil = refl

pub tidy_cons : (l : Bytes) (ls : List Bytes) → last_is white l ≡ false → tidy ls ≡ true → tidy (l ∷ ls) ≡ true
unfolding tidy null
tidy_cons l [] h k = rw h
tidy_cons l (x ∷ ls) h k = k

pub tidy_app : (a b : List Bytes) → tidy a ≡ true → tidy b ≡ true → tidy (a ++ b) ≡ true
unfolding tidy null
tidy_app [] b h k = k
tidy_app (l ∷ []) b h k = tidy_cons l b (not-true (last_is white l) h) k
tidy_app (l ∷ x ∷ a) b h k = tidy_app (x ∷ a) b h k

pub tidy_spaced : (g : Bool) (ls : List Bytes) → null ls ≡ false → tidy ls ≡ true → tidy (spaced g ls) ≡ true
unfolding tidy spaced
tidy_spaced true ls n h = h
tidy_spaced false ls n h = rw n h

-- so does a text with such lines behind it
pub tidy_last : (ls : List Bytes) (x : Bytes) → null ls ≡ false → tidy ls ≡ true → last_is white (x ++ below ls) ≡ false
unfolding tidy null join_rest
tidy_last [] x n h = absurd (true≢false n)
tidy_last (l ∷ []) x n h =
    rw (append-nil l) (last_keep white x (10 ∷ l) (last_keep white (10 ∷ []) l (not-true (last_is white l) h)))
tidy_last (l ∷ m ∷ ls) x n h =
    rw (← append_assoc x (10 ∷ l) (below (m ∷ ls))) (tidy_last (m ∷ ls) (x ++ (10 ∷ l)) n h)

pub tidy_end : (ls : List Bytes) (x : Bytes) → last_is white x ≡ false → tidy ls ≡ true → last_is white (x ++ below ls) ≡ false
tidy_end [] x h k = rw (below_nil x) h
tidy_end (l ∷ ls) x h k = tidy_last (l ∷ ls) x (unfold null in refl) k

pub tidy_join : (ls : List Bytes) → null ls ≡ false → tidy ls ≡ true → last_is white (join (ascii "\n") ls) ≡ false
unfolding null tidy join
tidy_join [] n h = absurd (true≢false n)
tidy_join (l ∷ []) n h = rw (below_nil l) (not-true (last_is white l) h)
tidy_join (l ∷ m ∷ ls) n h = tidy_last (m ∷ ls) l refl h
