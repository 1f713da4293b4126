-- Fenced blocks of any content: a reader's lines are those of the content with LF for each line end and U+FFFD for NUL.
use Rattle.std.specs.Prelude.{ℕ, suc, ◌+◌, max, ◌≡◌, Bool, cond, ◌&&◌, ◌||◌, eqb}
use Rattle.std.proofs.Common.{arith, sym, ◌∙◌, true≢false, eqb-true}
use Rattle.std.proofs.Math.Path.{refl, ap}
use Rattle.std.proofs.Math.Bool.{true, false, not, or-false}
use Rattle.std.proofs.lemmas.Bool.{false≢true}
use mathlib.Core.List.{[], ◌∷◌, ◌++◌, append-nil, append_assoc}
use Rattle.std.proofs.Math.Option.{some}
use Rattle.spec.specs.Bytes.{Bytes, ascii, null, same, isin, every, ends_with, digit}
use Rattle.spec.specs.Plain.{without, fixed_text}
use Rattle.spec.specs.SheetList.{with_final_lf}
use Rattle.spec.specs.Md.Elements.Code.{is_alphanumeric, longest_run, max_backtick_run, backticks, fenced_block}
use Rattle.spec.specs.Pieces.Fences.{fenced, line_feeds}
use Rattle.spec.specs.Reading.Lines.{head_is, safe_byte, safe, ends_line, line_byte, cut_lines, lines}
use Rattle.spec.proofs.Tests.{and_l, and_r, or_l, every_imp, every_replicate, apart, isin_no, isin_lacks}
use Rattle.recovery.proofs.Fences.{ends_more}
use Rattle.recovery.proofs.Pieces.Fences.{info_byte, fenced_block_lem}

-- ---- lines and their ends

cut_feeds : (t : Bytes) → cut_lines (line_feeds t) ≡ cut_lines t
unfolding cut_lines line_feeds ends_line line_byte
cut_feeds [] = refl
cut_feeds (b ∷ r) = go (ends_line b r) (eqb b 13) refl refl (cut_feeds r)
  where
    go : (e c : Bool) → ends_line b r ≡ e → eqb b 13 ≡ c → cut_lines (line_feeds r) ≡ cut_lines r
        → cut_lines (cond e (10 ∷ line_feeds r) (cond c (line_feeds r) (b ∷ line_feeds r))) ≡ line_byte e c b (cut_lines r)
    go true c e q ih = rw ih
    go false true e q ih = ih
    go false false e q ih = rw (or_l (eqb b 10) _ e, q, ih)

lines_feeds : (t : Bytes) → lines (line_feeds t) ≡ lines t
unfolding lines
lines_feeds t = rw (cut_feeds t)

-- what a reader has of a text: 2.3, and LF for each line end
unfoldable pub fed : Bytes → Bytes
fed s = line_feeds (safe s)

-- one byte more
unfoldable fed_byte : ℕ → Bool → Bytes → Bytes
fed_byte b feed g = cond (eqb b 0) (0xEF ∷ 0xBF ∷ 0xBD ∷ g) (cond (eqb b 10 || (eqb b 13 && not feed)) (10 ∷ g) (cond (eqb b 13) g (b ∷ g)))

safe_head : (s : Bytes) → head_is 10 (safe s) ≡ head_is 10 s
unfolding safe safe_byte head_is
safe_head [] = refl
safe_head (b ∷ s) = go (eqb b 0) refl
  where
    go : (t : Bool) → eqb b 0 ≡ t → head_is 10 (cond t (0xEF ∷ 0xBF ∷ 0xBD ∷ safe s) (b ∷ safe s)) ≡ eqb b 10
    go true e = unfold head_is in rw (eqb-true b 0 e)
    go false e = unfold head_is in refl

fed_more : (b : ℕ) (s : Bytes) → fed (b ∷ s) ≡ fed_byte b (head_is 10 s) (fed s)
unfolding fed fed_byte safe safe_byte
fed_more b s = go (eqb b 0)
  where
    go : (t : Bool) → line_feeds (cond t (0xEF ∷ 0xBF ∷ 0xBD ∷ safe s) (b ∷ safe s))
        ≡ cond t (0xEF ∷ 0xBF ∷ 0xBD ∷ line_feeds (safe s))
        (cond (eqb b 10 || (eqb b 13 && not (head_is 10 s))) (10 ∷ line_feeds (safe s)) (cond (eqb b 13) (line_feeds (safe s)) (b ∷ line_feeds (safe s))))
    go true = unfold line_feeds ends_line in refl
    go false = unfold line_feeds ends_line in rw (safe_head s)

-- ---- bytes that stay

unfoldable stays : ℕ → Bool
stays b = not (isin b (0 ∷ 13 ∷ []))

stay_byte : (b : ℕ) (feed : Bool) (g : Bytes) → stays b ≡ true → fed_byte b feed g ≡ b ∷ g
unfolding fed_byte stays isin
stay_byte b feed g h = rw (apart stays b 0 h refl, apart stays b 13 h refl, or-false (eqb b 10)) (go (eqb b 10) refl)
  where
    go : (t : Bool) → eqb b 10 ≡ t → cond t (10 ∷ g) (b ∷ g) ≡ b ∷ g
    go true e = ap (λ (n : ℕ). n ∷ g) (sym (eqb-true b 10 e))
    go false e = refl

fed_front : (x y : Bytes) → every stays x ≡ true → fed (x ++ y) ≡ x ++ fed y
unfolding every
fed_front [] y h = refl
fed_front (b ∷ x) y h =
    fed_more b (x ++ y) ∙ (stay_byte b (head_is 10 (x ++ y)) (fed (x ++ y)) (and_l (stays b) _ h) ∙ ap (λ (z : Bytes). b ∷ z) (fed_front x y (and_r (stays b) _ h)))

byte_stays : (b : ℕ) (feed : Bool) (g : Bytes) → every stays g ≡ true → every stays (fed_byte b feed g) ≡ true
unfolding fed_byte
byte_stays b feed g h = go (eqb b 0) (eqb b 10 || (eqb b 13 && not feed)) (eqb b 13) refl refl
  where
    go : (z l c : Bool) → eqb b 0 ≡ z → eqb b 13 ≡ c → every stays (cond z (0xEF ∷ 0xBF ∷ 0xBD ∷ g) (cond l (10 ∷ g) (cond c g (b ∷ g)))) ≡ true
    go true l c e q = unfold every stays isin in h
    go false true c e q = unfold every stays isin in h
    go false false true e q = h
    go false false false e q = unfold every stays isin in rw (e, q) h

fed_stays : (c : Bytes) → every stays (fed c) ≡ true
fed_stays [] = unfold fed safe line_feeds every in refl
fed_stays (b ∷ c) = rw (fed_more b c) (byte_stays b (head_is 10 c) (fed c) (fed_stays c))

fed_fixed : (c : Bytes) → fixed_text (fed c) ≡ true
unfolding fixed_text without
fed_fixed c = rw (isin_lacks stays 0 (fed c) (fed_stays c) (unfold stays isin in refl), isin_lacks stays 13 (fed c) (fed_stays c) (unfold stays isin in refl))

-- what is fed once stays
fed_twice : (c : Bytes) → fed (fed c) ≡ fed c
fed_twice c = rw append-nil at (fed_front (fed c) [] (fed_stays c) ∙ ap (λ (z : Bytes). fed c ++ z) nothing)
  where
    nothing : fed [] ≡ []
    nothing = unfold fed safe line_feeds in refl

-- ---- the end of the content

byte_some : (b : ℕ) (feed : Bool) (g : Bytes) → (feed ≡ true → null g ≡ false) → null (fed_byte b feed g) ≡ false
unfolding fed_byte null
byte_some b feed g h = go (eqb b 0) (eqb b 10) (eqb b 13) feed h
  where
    go : (z l c f : Bool) → (f ≡ true → null g ≡ false) → null (cond z (0xEF ∷ 0xBF ∷ 0xBD ∷ g) (cond (l || (c && not f)) (10 ∷ g) (cond c g (b ∷ g)))) ≡ false
    go true l c f k = refl
    go false true c f k = refl
    go false false true true k = k refl
    go false false true false k = refl
    go false false false f k = refl

fed_some : (b : ℕ) (s : Bytes) → null (fed (b ∷ s)) ≡ false
fed_some b [] = rw (fed_more b []) (byte_some b (head_is 10 []) (fed []) (λ e. unfold head_is in absurd (false≢true e)))
fed_some b (c ∷ s) = rw (fed_more b (c ∷ s)) (byte_some b (head_is 10 (c ∷ s)) (fed (c ∷ s)) (λ e. fed_some c s))

byte_app : (b : ℕ) (feed : Bool) (g t : Bytes) → fed_byte b feed (g ++ t) ≡ fed_byte b feed g ++ t
unfolding fed_byte
byte_app b feed g t = go (eqb b 0) (eqb b 10 || (eqb b 13 && not feed)) (eqb b 13)
  where
    go : (z l c : Bool) → cond z (0xEF ∷ 0xBF ∷ 0xBD ∷ (g ++ t)) (cond l (10 ∷ (g ++ t)) (cond c (g ++ t) (b ∷ (g ++ t))))
        ≡ cond z (0xEF ∷ 0xBF ∷ 0xBD ∷ g) (cond l (10 ∷ g) (cond c g (b ∷ g))) ++ t
    go true l c = refl
    go false true c = refl
    go false false true = refl
    go false false false = refl

byte_ends : (b : ℕ) (feed : Bool) (g : Bytes) → null g ≡ false → ends_with (ascii "\n") (fed_byte b feed g) ≡ ends_with (ascii "\n") g
unfolding fed_byte
byte_ends b feed [] n = unfold null in absurd (true≢false n)
byte_ends b feed (d ∷ g) n = go (eqb b 0) (eqb b 10 || (eqb b 13 && not feed)) (eqb b 13)
  where
    go : (z l c : Bool) → ends_with (ascii "\n") (cond z (0xEF ∷ 0xBF ∷ 0xBD ∷ d ∷ g) (cond l (10 ∷ d ∷ g) (cond c (d ∷ g) (b ∷ d ∷ g)))) ≡ ends_with (ascii "\n") (d ∷ g)
    go true l c = ends_more 10 0xEF 0xBF (0xBD ∷ d ∷ g) ∙ (ends_more 10 0xBF 0xBD (d ∷ g) ∙ ends_more 10 0xBD d g)
    go false true c = ends_more 10 10 d g
    go false false true = refl
    go false false false = ends_more 10 b d g

-- the LF that is missing at the end of a content is missing at the end of what is fed, and a CR there makes it one line end
unfoldable final_lf : Bytes → Bytes
final_lf c = cond (null c || ends_with (ascii "\n") c) [] (ascii "\n")

fed_one : (b : ℕ) (r : Bytes) → fed ((b ∷ []) ++ (final_lf (b ∷ []) ++ r)) ≡ fed (b ∷ []) ++ (final_lf (fed (b ∷ [])) ++ fed r)
unfolding fed_byte
fed_one b r = go (eqb b 10) refl
  where
    lf : fed (10 ∷ r) ≡ 10 ∷ fed r
    lf = fed_front (10 ∷ []) r (unfold every stays isin in refl)

    last : (z c : Bool) → final_lf (b ∷ []) ≡ ascii "\n"
        → cond z (0xEF ∷ 0xBF ∷ 0xBD ∷ 10 ∷ fed r) (cond (c && false) (10 ∷ 10 ∷ fed r) (cond c (10 ∷ fed r) (b ∷ 10 ∷ fed r)))
        ≡ cond z (0xEF ∷ 0xBF ∷ 0xBD ∷ []) (cond (c && true) (10 ∷ []) (cond c [] (b ∷ [])))
        ++ (final_lf (cond z (0xEF ∷ 0xBF ∷ 0xBD ∷ []) (cond (c && true) (10 ∷ []) (cond c [] (b ∷ [])))) ++ fed r)
    last true c f = unfold final_lf null ends_with same in refl
    last false true f = unfold final_lf null ends_with same in refl
    last false false f = rw f

    go : (t : Bool) → eqb b 10 ≡ t → fed ((b ∷ []) ++ (final_lf (b ∷ []) ++ r)) ≡ fed (b ∷ []) ++ (final_lf (fed (b ∷ [])) ++ fed r)
    go true e = rw (eqb-true b 10 e) (unfold fed final_lf safe safe_byte line_feeds ends_line null ends_with same in refl)
    go false e =
        let f : final_lf (b ∷ []) ≡ ascii "\n" = unfold final_lf null ends_with same in rw e in
        let nothing : fed [] ≡ [] = unfold fed safe line_feeds in refl in
        let one : fed (b ∷ []) ≡ fed_byte b false [] = fed_more b [] ∙ rw nothing (unfold head_is in refl) in
        let two : fed (b ∷ 10 ∷ r) ≡ fed_byte b true (10 ∷ fed r) = fed_more b (10 ∷ r) ∙ rw lf (unfold head_is in refl) in
        rw (f, one, two, e) (last (eqb b 0) (eqb b 13) f)

final_more : (b d : ℕ) (c : Bytes) → final_lf (b ∷ d ∷ c) ≡ final_lf (d ∷ c)
unfolding final_lf null
final_more b d c = rw (ends_more 10 b d c)

final_fed : (b d : ℕ) (c : Bytes) → final_lf (fed (b ∷ d ∷ c)) ≡ final_lf (fed (d ∷ c))
unfolding final_lf
final_fed b d c =
    rw (
      fed_some b (d ∷ c),
      fed_some d c,
      ap (ends_with (ascii "\n")) (fed_more b (d ∷ c)) ∙ byte_ends b (head_is 10 (d ∷ c)) (fed (d ∷ c)) (fed_some d c),
    )

fed_ended : (c r : Bytes) → fed (c ++ (final_lf c ++ r)) ≡ fed c ++ (final_lf (fed c) ++ fed r)
unfolding head_is
fed_ended [] r = unfold final_lf fed safe line_feeds null in refl
fed_ended (b ∷ []) r = fed_one b r
fed_ended (b ∷ d ∷ c) r =
    let g : Bytes = fed (d ∷ c) in
    rw (final_more b d c, final_fed b d c, fed_more b (d ∷ c))
    (fed_more b ((d ∷ c) ++ (final_lf (d ∷ c) ++ r))
    ∙ (ap (λ (z : Bytes). fed_byte b (eqb d 10) z) (fed_ended (d ∷ c) r)
    ∙ byte_app b (eqb d 10) g (final_lf g ++ fed r)))

-- ---- the runs of backticks

head_run : (n : ℕ) (c : Bytes) → head_is 10 c ≡ true → longest_run n c ≡ max n (longest_run 0 c)
unfolding head_is longest_run
head_run n [] h = absurd (false≢true h)
head_run n (b ∷ c) h = rw (eqb-true b 10 h) (omega arith)

run_fed : (n : ℕ) (c : Bytes) → longest_run n (fed c) ≡ longest_run n c
run_fed n [] = unfold fed safe line_feeds in refl
run_fed n (b ∷ c) = rw (fed_more b c) (go (eqb b 0) (eqb b 10) (eqb b 13) (head_is 10 c) refl refl refl refl (λ k. run_fed k c))
  where
    go : (z l r f : Bool) → eqb b 0 ≡ z → eqb b 10 ≡ l → eqb b 13 ≡ r → head_is 10 c ≡ f → ((k : ℕ) → longest_run k (fed c) ≡ longest_run k c)
        → longest_run n (fed_byte b (head_is 10 c) (fed c)) ≡ longest_run n (b ∷ c)
    go true l r f e q p h ih = unfold fed_byte longest_run in rw (eqb-true b 0 e, ih 0) (omega arith)
    go false true r f e q p h ih = unfold fed_byte longest_run in rw (eqb-true b 10 q, ih 0)
    go false false true true e q p h ih =
        unfold fed_byte longest_run in rw (eqb-true b 13 p, h, ih n) (head_run n c h)
    go false false true false e q p h ih = unfold fed_byte longest_run in rw (eqb-true b 13 p, h, ih 0)
    go false false false f e q p h ih = unfold fed_byte longest_run in rw (e, q, p, ih 0, ih (suc n))

-- ---- the block

info_stays : (lang : Bytes) → every info_byte lang ≡ true → every stays lang ≡ true
info_stays lang h =
    every_imp info_byte stays lang
    (λ b e. unfold stays in ap not (isin_no info_byte b (0 ∷ 13 ∷ []) e (unfold every info_byte is_alphanumeric digit isin in refl))) h

block_fed : (lang c more : Bytes) → every info_byte lang ≡ true
    → fed (fenced_block lang c ++ more)
    ≡ backticks (max (longest_run 0 c) 2 + 1)
    ++ (lang ++ (10 ∷ (fed c ++ (final_lf (fed c) ++ fed (backticks (max (longest_run 0 c) 2 + 1) ++ (10 ∷ more))))))
block_fed lang c more i =
    let f : Bytes = backticks (max (longest_run 0 c) 2 + 1) in
    let t : every stays f ≡ true = unfold backticks in every_replicate stays (max (longest_run 0 c) 2 + 1) 96 (unfold stays isin in refl) in
    let is : fenced_block lang c ++ more ≡ f ++ (lang ++ (10 ∷ (c ++ (final_lf c ++ (f ++ (10 ∷ more)))))) =
    unfold fenced_block max_backtick_run final_lf in simp append_assoc in
    rw (
      is,
      fed_front f (lang ++ (10 ∷ (c ++ (final_lf c ++ (f ++ (10 ∷ more)))))) t,
      fed_front lang (10 ∷ (c ++ (final_lf c ++ (f ++ (10 ∷ more))))) (info_stays lang i),
      fed_front (10 ∷ []) (c ++ (final_lf c ++ (f ++ (10 ∷ more)))) (unfold every stays isin in refl),
      fed_ended c (f ++ (10 ∷ more)),
    )

lines_fed : (t : Bytes) → lines (safe t) ≡ lines (fed t)
unfolding fed
lines_fed t = sym (lines_feeds (safe t))

-- 4.5: one fenced code block, for every content: NUL, CR and CR LF in it are what CommonMark reads there
pub fenced_any : (lang content more : Bytes) → every info_byte lang ≡ true
    → fenced (lines (safe (fenced_block lang content ++ more)))
    ≡ some (record { info = lang; content = with_final_lf (fed content); more = lines (safe more) })
fenced_any lang content more i =
    let same : fed (fenced_block lang content ++ more) ≡ fed (fenced_block lang (fed content) ++ more) =
    block_fed lang content more i ∙ sym (block_fed lang (fed content) more i ∙ rw (run_fed 0 content, fed_twice content)) in
    ap fenced (lines_fed (fenced_block lang content ++ more) ∙ (ap lines same ∙ sym (lines_fed (fenced_block lang (fed content) ++ more))))
    ∙ fenced_block_lem lang (fed content) more i (fed_fixed content)
