-- The backslash of `escape_closing_hashes`: behind it no run of # closes a heading behind a blank.
use Rattle.std.specs.Prelude.{ℕ, ◌-◌, ◌<◌, ◌≡◌, Bool, true, ◌&&◌, [], ◌∷◌, ◌++◌, eqb, ltb, length, take, drop}
use Rattle.std.proofs.Common.{arith, sym, ap, ◌∙◌, true≢false, append-nil, append_assoc, length-append, take-append-drop, eqb-true, lt-ltb, ltb-true}
use Rattle.std.proofs.Math.Path.{refl}
use Rattle.std.proofs.Math.Bool.{false}
use Rattle.std.proofs.Math.Seq.{take-append_seam, drop-append_seam}
use Rattle.spec.specs.Bytes.{Bytes, ascii, null, same, isin, every, ends_with, one, unless, among, white_space_of, is_white_space, trim_end_matches, trim_end}
use Rattle.spec.specs.Out.{keep, replace}
use Rattle.spec.specs.Md.Heading.{escape_closing_hashes}
use Rattle.spec.specs.Reading.Inline as reading
use Rattle.spec.specs.Reading.Inline.{escaped, slashed, unescape}
use Rattle.spec.specs.Reading.Lines.{punctuation, space_or_tab}
use Rattle.spec.proofs.Tests.{and_l, and_r, or_elim, same_eq}
use Rattle.recovery.specs.Closed.{hash}
use Rattle.recovery.proofs.Written.Ends.{last_is, last_keep, trim_cut, ends_by}
use Rattle.recovery.proofs.Pieces.Trims.{Tail, tail_of, Trimmed, trimmed, trim_run, trim_more}
use Rattle.recovery.proofs.Pieces.Closing.{closes_by, Closes, closes, slash_closes, run_closes}

-- what the writer makes of e: it stays where no run of # closes it behind a blank, or gains a backslash before the last run of #
pub data Escaped : Bytes → Bytes → Type 0 where
  kept : {e : Bytes} → closes_by 32 e ≡ false → Escaped e e
  backed : (front hashes rest : Bytes) → null hashes ≡ false → every hash hashes ≡ true → isin 35 rest ≡ false
      → Escaped (front ++ (32 ∷ (hashes ++ rest))) (front ++ (32 ∷ 92 ∷ (hashes ++ rest)))

-- the tests of the writer
unfoldable pub wanted : Bytes → Bytes → Bool
wanted stem content = ltb (length stem) (length content) && ends_with (ascii " ") stem

pub last_byte : (b : ℕ) (s : Bytes) → ends_with (b ∷ []) s ≡ true → s ≡ take (length s - 1) s ++ (b ∷ [])
unfolding ends_with
last_byte b s h =
    sym (take-append-drop (length s - 1) s) ∙ ap (λ (r : Bytes). take (length s - 1) s ++ r) (same_eq (drop (length s - 1) s) (b ∷ []) h)

run_some : (stem hs : Bytes) → length stem < length (stem ++ hs) → null hs ≡ false
unfolding null
run_some stem [] h = absurd (omega (arith, ap length (append-nil stem)))
run_some stem (b ∷ hs) h = refl

escape_backed : (e stem hs w : Bytes) → e ≡ (stem ++ hs) ++ w → wanted stem (stem ++ hs) ≡ true → every hash hs ≡ true → isin 35 w ≡ false
    → Escaped e (take (length stem) e ++ (ascii "\\" ++ drop (length stem) e))
unfolding wanted
escape_backed e stem hs w q h a f =
    let is : e ≡ stem ++ (hs ++ w) = q ∙ append_assoc stem hs w in
    let s : stem ≡ take (length stem - 1) stem ++ (32 ∷ []) = last_byte 32 stem (and_r (ltb (length stem) (length (stem ++ hs))) _ h) in
    let front : Bytes = take (length stem - 1) stem in
    let n : null hs ≡ false = run_some stem hs (ltb-true (length stem) (length (stem ++ hs)) (and_l (ltb (length stem) (length (stem ++ hs))) _ h)) in
    let l : e ≡ front ++ (32 ∷ (hs ++ w)) = is ∙ (ap (λ (r : Bytes). r ++ (hs ++ w)) s ∙ append_assoc front (32 ∷ []) (hs ++ w)) in
    let r : take (length stem) e ++ (ascii "\\" ++ drop (length stem) e) ≡ front ++ (32 ∷ 92 ∷ (hs ++ w)) =
    rw (is, take-append_seam stem (hs ++ w), drop-append_seam stem (hs ++ w)) (ap (λ (r : Bytes). r ++ (92 ∷ (hs ++ w))) s ∙ append_assoc front (32 ∷ []) (92 ∷ (hs ++ w))) in
    rw (r, l) (backed front hs w n a f)

blank_space : (b : ℕ) → space_or_tab b ≡ true → is_white_space (b ∷ []) ≡ true
unfolding space_or_tab
blank_space b h =
    or_elim (eqb b 32) (eqb b 9) (λ e. rw (eqb-true b 32 e) (unfold is_white_space white_space_of among same in refl))
    (λ e. rw (eqb-true b 9 e) (unfold is_white_space white_space_of among same in refl)) h

blanks_trim : (z : Bytes) → every space_or_tab z ≡ true → trim_end z ≡ []
unfolding trim_end trim_end_matches every unless
blanks_trim [] h = refl
blanks_trim (b ∷ z) h = rw (blanks_trim z (and_r (space_or_tab b) _ h), blank_space b (and_l (space_or_tab b) _ h))

some_more : (f hs : Bytes) → null hs ≡ false → length f < length (f ++ hs)
unfolding null
some_more f [] h = absurd (true≢false h)
some_more f (b ∷ hs) h = rw (length-append f (b ∷ hs)) (omega arith)

wanted_run : (front hs : Bytes) → null hs ≡ false → wanted (front ++ (32 ∷ [])) ((front ++ (32 ∷ [])) ++ hs) ≡ true
unfolding wanted same
wanted_run front hs n =
    rw (
      lt-ltb (length (front ++ (32 ∷ []))) (length ((front ++ (32 ∷ [])) ++ hs)) (some_more (front ++ (32 ∷ [])) hs n),
      ends_by (ascii " ") front (32 ∷ []) refl,
    )

-- a text that a run of # closes behind a blank wants the backslash
closes_wanted : (e : Bytes) → Closes 32 e → wanted (trim_end_matches (one hash) (trim_end e)) (trim_end e) ≡ true
closes_wanted e c =
    let f : Bytes = c.front ++ (32 ∷ []) in
    let is : e ≡ (f ++ c.hashes) ++ c.blanks =
    c.is ∙ sym (append_assoc f c.hashes c.blanks ∙ append_assoc c.front (32 ∷ []) (c.hashes ++ c.blanks)) in
    let content : trim_end e ≡ f ++ c.hashes =
    ap trim_end is ∙ (trim_more (f ++ c.hashes) c.blanks (blanks_trim c.blanks c.blank) ∙ trim_run f c.hashes c.all c.some) in
    let stem : trim_end_matches (one hash) (f ++ c.hashes) ≡ f =
    trim_cut hash f c.hashes (last_keep hash c.front (32 ∷ []) (unfold last_is null hash in refl)) c.all in
    rw (content, stem) (wanted_run c.front c.hashes c.some)

escape_kept : (e : Bytes) → wanted (trim_end_matches (one hash) (trim_end e)) (trim_end e) ≡ false → closes_by 32 e ≡ false
escape_kept e h = go (closes_by 32 e) refl
  where
    go : (t : Bool) → closes_by 32 e ≡ t → t ≡ false
    go false q = refl
    go true q = absurd (true≢false (sym (closes_wanted e (closes 32 e q)) ∙ h))

-- the writer's steps
pub escape_yes : (e content stem : Bytes) → trim_end e ≡ content → trim_end_matches (one hash) content ≡ stem → wanted stem content ≡ true
    → (escape_closing_hashes e).text ≡ take (length stem) e ++ (ascii "\\" ++ drop (length stem) e)
unfolding escape_closing_hashes wanted hash replace
escape_yes e content stem c s h = rw (c, s, h)

pub escape_no : (e content stem : Bytes) → trim_end e ≡ content → trim_end_matches (one hash) content ≡ stem → wanted stem content ≡ false
    → (escape_closing_hashes e).text ≡ e
unfolding escape_closing_hashes wanted hash keep
escape_no e content stem c s h = rw (c, s, h)

pub escapes : (e : Bytes) → Escaped e (escape_closing_hashes e).text
escapes e = go (wanted (trim_end_matches (one hash) (trim_end e)) (trim_end e)) refl
  where
    go : (t : Bool) → wanted (trim_end_matches (one hash) (trim_end e)) (trim_end e) ≡ t → Escaped e (escape_closing_hashes e).text
    go true q =
        let p : Trimmed e (trim_end e) = trimmed e in
        let r : Tail hash (trim_end e) (trim_end_matches (one hash) (trim_end e)) = tail_of hash (trim_end e) in
        let is : e ≡ (trim_end_matches (one hash) (trim_end e) ++ r.tail) ++ p.cut_off = p.is ∙ ap (λ (x : Bytes). x ++ p.cut_off) r.is in
        let w : wanted (trim_end_matches (one hash) (trim_end e)) (trim_end_matches (one hash) (trim_end e) ++ r.tail) ≡ true =
        sym (ap (wanted (trim_end_matches (one hash) (trim_end e))) r.is) ∙ q in
        rw (escape_yes e _ _ refl refl q) (escape_backed e (trim_end_matches (one hash) (trim_end e)) r.tail p.cut_off is w r.all p.free)
    go false q = rw (escape_no e _ _ refl refl q) (kept (escape_kept e q))

-- ---- what the backslash does

backed_closes : (k : ℕ) (front hs w : Bytes) → eqb 92 k ≡ false → eqb 35 k ≡ false → every hash hs ≡ true → isin 35 w ≡ false
    → closes_by k (front ++ (32 ∷ 92 ∷ (hs ++ w))) ≡ false
backed_closes k front hs w m n a f =
    rw (← append_assoc front (32 ∷ []) (92 ∷ (hs ++ w))) (slash_closes k (front ++ (32 ∷ [])) (hs ++ w) m ∙ run_closes k hs w n a f)

-- no run of # closes the text behind a blank
pub escaped_blank : {e d : Bytes} → Escaped e d → closes_by 32 d ≡ false
escaped_blank (kept h) = h
escaped_blank (backed front hs w n a f) = backed_closes 32 front hs w refl refl a f

-- and none behind a tab, where none did before
pub escaped_tab : {e d : Bytes} → Escaped e d → closes_by 9 e ≡ false → closes_by 9 d ≡ false
escaped_tab (kept h) k = k
escaped_tab (backed front hs w n a f) k = backed_closes 9 front hs w refl refl a f

same_behind : (u v : Bytes) → ((s : Bool) → unescape s u ≡ unescape s v) → (s : Bool) (p : Bytes) → unescape s (p ++ u) ≡ unescape s (p ++ v)
unfolding unescape
same_behind u v f s [] = f s
same_behind u v f s (b ∷ p) = rw (same_behind u v f (slashed s b) p)

slash_hash : (s : Bool) (hs w : Bytes) → null hs ≡ false → every hash hs ≡ true → unescape s (32 ∷ 92 ∷ (hs ++ w)) ≡ unescape s (32 ∷ (hs ++ w))
unfolding null every hash
slash_hash s [] w n a = absurd (true≢false n)
slash_hash s (b ∷ hs) w n a =
    rw (eqb-true b 35 (and_l (eqb b 35) _ a)) (go s)
  where
    go : (s : Bool) → unescape s (32 ∷ 92 ∷ 35 ∷ (hs ++ w)) ≡ unescape s (32 ∷ 35 ∷ (hs ++ w))
    go true = unfold unescape reading.bare escaped slashed punctuation in refl
    go false = unfold unescape reading.bare escaped slashed punctuation in refl

-- the reading of escapes takes the backslash away
pub escaped_unescape : {e d : Bytes} → Escaped e d → unescape false d ≡ unescape false e
escaped_unescape (kept h) = refl
escaped_unescape (backed front hs w n a f) =
    same_behind (32 ∷ 92 ∷ (hs ++ w)) (32 ∷ (hs ++ w)) (λ s. slash_hash s hs w n a) false front
