-- What the writer writes for a cell that holds a plain text is the text's phrase.
use Prim.Native.Nat.{ℕ, zero, suc, ◌+◌, ◌-◌, ◌%◌}
use native.Mathlib.Omega.{arith}
use Rattle.std.specs.Prelude.{◌≡◌, Bool, true, false, cond, ◌&&◌, eqb, length, replicate, take, drop}
use Rattle.std.proofs.Math.Path.{refl, sym, ap}
use Rattle.std.proofs.Common.{◌∙◌, true≢false, length-append, take-append-drop, eqb-true}
use mathlib.Core.List.{List, [], ◌∷◌, ◌++◌, append-nil, append_assoc, head-eq_of_cons-eq, tail-eq_of_cons-eq}
use Rattle.std.proofs.lemmas.List.{length-replicate}
use Rattle.std.proofs.lemmas.Bool.{eqb-false}
use Rattle.spec.specs.Bytes.{Bytes, ascii, null, same, isin, ends_with, one, trim_end_matches, words}
use Rattle.spec.specs.Md.Elements.Emphasis.{backslashes, drop_end}
use Rattle.spec.specs.Md.Elements.Table.{ends_with_cell_break, without_breaks, trim_trailing_cell_break, escape_table_cell_inplace, cell_text}
use Rattle.spec.specs.Md.Ctx.{fresh, table_cell}
use Rattle.spec.specs.Md.MDSerializer.{Ancestors, write_kids}
use Rattle.spec.specs.Md.Serializer.{write_nodes, write_at, serializer}
use Rattle.spec.specs.Md.TextUtils.{ends_with_white, normalized, push_normalized_text}
use Rattle.spec.specs.Out.{cut, keep, push, replace, and_then}
use Rattle.spec.specs.Plain.{plain_text, one_text}
use Rattle.spec.specs.SheetList.{first_text}
use Rattle.spec.specs.Tree.{Attr, Forest, nothing, element, attrs_of, kids_of}
use Rattle.spec.specs.declared.ctx.FormatOpts.{FormatOpts}
use Rattle.spec.proofs.Tests.{every_replicate, same_eq}
use Rattle.recovery.proofs.Words.{plain_words, blanked, text_words, text_some}
use Rattle.recovery.proofs.Escapes.{bare, bare_not, Esc, enil, ebare, eback, phrase_Esc}
use Rattle.recovery.proofs.TableBlocks.{kids_text, one_text_lem}
use Rattle.recovery.specs.Closed.{phrase}
use Rattle.recovery.proofs.Written.Breaks.{lfs, blank_white, end_blank, trimmed, trim_core}
use Rattle.recovery.proofs.Written.Normalized.{pipes_Esc, normalized_phrase, no_marker_empty}
use Rattle.recovery.proofs.Written.Phrases.{phrase_first, phrase_last}
use Rattle.recovery.proofs.Written.Ends.{last_is, last_keep, null_app, trim_none, trim_behind}

-- ---- backslashes at the end

unfoldable slash : ℕ → Bool
slash b = eqb b 92

slashes_behind : (p e : Bytes) → last_is slash p ≡ false → backslashes (p ++ e) ≡ backslashes e
unfolding backslashes slash
slashes_behind p e h =
    rw (trim_behind slash p e h, length-append p e, length-append p (trim_end_matches (one slash) e)) (omega arith)

record Odd (n : ℕ) : Type 0 where
  half : ℕ
  is : n ≡ suc (half + half)

slashes_more : (n : ℕ) (s : Bytes) → replicate n 92 ++ (92 ∷ s) ≡ replicate (suc n) 92 ++ s
slashes_more zero s = refl
slashes_more (suc n) s = ap (λ (r : Bytes). 92 ∷ r) (slashes_more n s)

slashes_alone : (k : ℕ) → backslashes (replicate (k + k) 92 ++ (92 ∷ [])) ≡ suc (k + k)
unfolding backslashes slash
slashes_alone k =
    let r : Bytes = replicate (suc (k + k)) 92 in
    let is : replicate (k + k) 92 ++ (92 ∷ []) ≡ r = slashes_more (k + k) [] ∙ append-nil r in
    rw (is, trim_none slash r (every_replicate slash (suc (k + k)) 92 refl), length-replicate {A = ℕ} (suc (k + k)) 92) (omega arith)

other_odd : (k : ℕ) (p e : Bytes) → last_is slash p ≡ false → Odd (backslashes (e ++ (92 ∷ [])))
    → Odd (backslashes (replicate (k + k) 92 ++ ((p ++ e) ++ (92 ∷ []))))
other_odd k p e h o =
    rw (
      append_assoc p e (92 ∷ []),
      ← append_assoc (replicate (k + k) 92) p (e ++ (92 ∷ [])),
      slashes_behind (replicate (k + k) 92 ++ p) (e ++ (92 ∷ [])) (last_keep slash (replicate (k + k) 92) p h),
    )
    o

back_odd : (t : Bool) (k b : ℕ) (e : Bytes) → slash b ≡ t → Odd (backslashes (e ++ (92 ∷ [])))
    → Odd (backslashes (replicate (suc k + suc k) 92 ++ (e ++ (92 ∷ [])))) → Odd (backslashes (replicate (k + k) 92 ++ ((92 ∷ b ∷ e) ++ (92 ∷ []))))
back_odd true k b e q o m =
    let n : suc k + suc k ≡ suc (suc (k + k)) = omega arith in
    rw (
      eqb-true b 92 (unfold slash in q),
      slashes_more (k + k) (92 ∷ (e ++ (92 ∷ []))),
      slashes_more (suc (k + k)) (e ++ (92 ∷ [])),
    )
    (rw n at m)
back_odd false k b e q o m = other_odd k (92 ∷ b ∷ []) e (unfold last_is null in q) o

-- behind what was escaped one more backslash makes their number odd; twice k stand before it
slashes_odd : {e w : Bytes} (k : ℕ) → Esc e w → Odd (backslashes (replicate (k + k) 92 ++ (e ++ (92 ∷ []))))
slashes_odd k enil = record { half = k; is = slashes_alone k }
slashes_odd k (ebare {b} {e} c h) = other_odd k (b ∷ []) e (unfold last_is null slash bare isin in bare_not b 92 c refl) (slashes_odd 0 h)
slashes_odd k (eback {b} {e} c h) = back_odd (slash b) k b e refl (slashes_odd 0 h) (slashes_odd (suc k) h)

-- ---- no break at the end

-- a text that was escaped, and a backslash
record Slashed (x : Bytes) : Type 0 where
  front : Bytes
  plain : Bytes
  is : x ≡ front ++ (92 ∷ [])
  esc : Esc front plain

-- it stands before a byte that must be escaped
slashed : {e w : Bytes} (b : ℕ) (x r : Bytes) → bare b ≡ false → eqb 92 b ≡ false → Esc e w → e ≡ x ++ (b ∷ r) → Slashed x
unfolding null
slashed b x r p n enil q = absurd (true≢false (ap null q ∙ null_app x (b ∷ r) refl))
slashed b [] r p n (ebare {b = a} c h) q = absurd (true≢false (sym c ∙ (ap bare (head-eq_of_cons-eq q) ∙ p)))
slashed b (y ∷ x) r p n (ebare {b = a} c h) q =
    let s : Slashed x = slashed b x r p n h (tail-eq_of_cons-eq q) in
    rw (← (head-eq_of_cons-eq q))
    (record { front = a ∷ s.front; plain = a ∷ s.plain; is = ap (λ (z : Bytes). a ∷ z) s.is; esc = ebare c s.esc })
slashed b [] r p n (eback {b = a} c h) q = absurd (eqb-false 92 b n (head-eq_of_cons-eq q))
slashed b (y ∷ []) r p n (eback {b = a} c h) q =
    rw (← (head-eq_of_cons-eq q)) (record { front = []; plain = []; is = refl; esc = enil })
slashed b (y ∷ z ∷ x) r p n (eback {b = a} c h) q =
    let s : Slashed x = slashed b x r p n h (tail-eq_of_cons-eq (tail-eq_of_cons-eq q)) in
    rw (← (head-eq_of_cons-eq q), ← (head-eq_of_cons-eq (tail-eq_of_cons-eq q)))
    (record { front = 92 ∷ a ∷ s.front; plain = a ∷ s.plain; is = ap (λ (z : Bytes). 92 ∷ a ∷ z) s.is; esc = eback c s.esc })

cell_break_by : {e w : Bytes} (t : Bool) → Esc e w → ends_with (ascii "<br>") e ≡ t → (t && eqb (backslashes (drop_end 4 e) % 2) 0) ≡ false
unfolding drop_end
cell_break_by false h q = refl
cell_break_by {e} {w} true h q =
    let x : Bytes = take (length e - 4) e in
    let end : drop (length e - 4) e ≡ ascii "<br>" = same_eq (drop (length e - 4) e) (ascii "<br>") (unfold ends_with in q) in
    let is : e ≡ x ++ ascii "<br>" = sym (take-append-drop (length e - 4) e) ∙ ap (λ (r : Bytes). x ++ r) end in
    let s : Slashed x = slashed 60 x (ascii "br>") (unfold bare isin in refl) refl h is in
    let o : Odd (backslashes (s.front ++ (92 ∷ []))) = slashes_odd 0 s.esc in
    let m : suc (o.half + o.half) % 2 ≡ 1 = omega arith in
    rw (s.is, o.is, m)

-- no escaped text ends with a line break
pub cell_break : {e w : Bytes} → Esc e w → ends_with_cell_break e ≡ false
unfolding ends_with_cell_break
cell_break {e} h = cell_break_by (ends_with (ascii "<br>") e) h refl

-- ---- the cell

-- the text alone, as a cell begins with it
alone_text : (opts : FormatOpts) (s : Bytes) → plain_text s ≡ true → trimmed (normalized (table_cell (fresh opts)) [] s) ≡ phrase (words s)
alone_text opts s h =
    rw (normalized_phrase (table_cell (fresh opts)) [] s refl refl (unfold ends_with same null in refl) (unfold null in refl) no_marker_empty h)
    (unfold lfs in trim_core 0 (phrase (words s)) (cond (ends_with_white s) (ascii " ") []) (phrase_first (words s) (text_words s h) (text_some s h))
    (phrase_last (words s) (text_words s h) (text_some s h)) (blank_white _ (end_blank (ends_with_white s))))

inside_text : (skips : List Bytes) (n : ℕ) (anc : Ancestors) (opts : FormatOpts) (name : Bytes) (attrs : List Attr) (kids : Forest)
    → one_text plain_text kids ≡ true
    → (write_kids (serializer skips (suc n)) anc (table_cell (fresh opts)) (element name attrs kids nothing) []).text
    ≡ phrase (words (first_text kids))
unfolding write_kids serializer write_at write_nodes push_normalized_text and_then push keep attrs_of kids_of trimmed
inside_text skips n anc opts name attrs kids h =
    ap (λ (k : Forest). (write_kids (serializer skips (suc n)) anc (table_cell (fresh opts)) (element name attrs k nothing) []).text)
    (one_text_lem plain_text kids h)
    ∙ alone_text opts (first_text kids) (kids_text plain_text kids h)

record Escaped (e : Bytes) : Type 0 where
  plain : Bytes
  esc : Esc e plain

phrase_escaped : (ws : List Bytes) → plain_words ws ≡ true → Escaped (phrase ws)
phrase_escaped [] h = unfold phrase in record { plain = []; esc = enil }
phrase_escaped (w ∷ ws) h = record { plain = w ++ blanked ws; esc = phrase_Esc w ws h }

without_none : (n : ℕ) (s : Bytes) → ends_with_cell_break s ≡ false → without_breaks n s ≡ s
unfolding without_breaks
without_none zero s h = refl
without_none (suc n) s h = rw h

pub cell_text_lem : (skips : List Bytes) (n : ℕ) (anc : Ancestors) (th : Bool) (opts : FormatOpts) (name : Bytes) (attrs : List Attr) (kids : Forest)
    → one_text plain_text kids ≡ true
    → (cell_text (serializer skips (suc n)) opts (record { ancestors = anc; is_th = th; node = element name attrs kids nothing })).text
    ≡ phrase (words (first_text kids))
unfolding cell_text and_then trim_trailing_cell_break cut escape_table_cell_inplace replace
cell_text_lem skips n anc th opts name attrs kids h =
    let p : plain_text (first_text kids) ≡ true = kids_text plain_text kids h in
    let e : Bytes = phrase (words (first_text kids)) in
    let q : Escaped e = phrase_escaped (words (first_text kids)) (text_words (first_text kids) p) in
    rw (inside_text skips n anc opts name attrs kids h, without_none (length e) e (cell_break q.esc), pipes_Esc false q.esc)
