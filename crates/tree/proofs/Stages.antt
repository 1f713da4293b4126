-- One stage of storing follows from the one before it, field by field.
use Prim.Native.Nat.{ℕ, suc, ◌+◌, ◌-◌, ◌*◌, ◌<◌, ◌≤◌}
use native.Mathlib.Omega.{arith}
use mathlib.Core.Path.{◌≡◌, refl, ◌∙◌, sym, subst, subst₂}
use mathlib.Core.Bool.{Bool, true, false, cond, not, ◌&&◌, ◌||◌, and-eq-true_iff, false≢true}
use mathlib.Core.List.{List, [], ◌∷◌}
use lib.ListN.{length, get_or, drop, length-drop}
use lib.Dec.{eqb, ltb}
use borrow.Author.Tests.{eqb-true}
use Rattle.spec.specs.Bytes.{Bytes, isin}
use Rattle.spec.specs.Fields.{Field, fields, fields_short}
use Rattle.spec.specs.Questions.{may_follow, right_length, no_stray, open_after, keep_rules, still_open, nodes_in, node_count}
use Rattle.input.specs.Spans.{length_at, end_of, span_at, field_of}
use Rattle.input.specs.Scans.{length_right}
use Rattle.tree.specs.Memory.{word_at, Stored, end_at, parent_at}
use Rattle.tree.specs.Kinds.{Kind, opens, closes, texts, comments, aside, kind_by, kind_of, Placed, FitsAs, TurnedAs, Storable}
use Rattle.tree.specs.declared.store.Turn.{Turn}
use Rattle.input.proofs.Walking.{span_fields, past_end, end_bounds}
use Rattle.input.proofs.Rules.{right_length_lem}
use Rattle.spec.specs.Tree.{tree_of}
use Rattle.tree.specs.Represents.{entry_of, Holds}
use Rattle.tree.proofs.Telling.{Recorded, ToldAs, Told, RepAll, told_all}
use Rattle.tree.proofs.Building.{Later, later_refl, Chain, off_above, chain_later, old_parent, placed_later, end_parent, end_later}

-- k nodes begin before the fields fs, and `cur` is the innermost open one; what fs tells of a later memory, `next`, makes it
-- tell the whole
pub record Stage (n before : ℕ) (fs : List Field) (next : Bytes → ℕ → ℕ → List ℕ → Type 0) (whole : Bytes → Type 0)
    (ns : Bytes) (k cur : ℕ) : Type 0 where
  pub root : parent_at ns 0 ≡ 0
  pub around : List ℕ
  pub chain : Chain ns cur around
  pub below : cur < k
  pub rules : keep_rules before (length around) fs ≡ true
  pub shut : still_open (length around) fs ≡ 0
  pub counted : n ≡ k + nodes_in fs
  pub rest : (c : Bytes) → Later k (cur ∷ around) ns c → next c k cur around → whole c

-- the field begins a node
abbrev begins_node : Kind → Bool
begins_node opens = true
begins_node closes = false
begins_node texts = true
begins_node comments = true
begins_node aside = false

module _ (n tag : ℕ) (fs : List Field) (next : Bytes → ℕ → ℕ → List ℕ → Type 0) (whole : Bytes → Type 0) where
  -- a record stands where its memory has room, also later
  recorded : (k p e cur : ℕ) (stack : List ℕ) {a b : Bytes} (c : Bytes) → k * 24 + 24 ≤ length a → Placed k p e cur a b
      → Later (k + 1) stack b c → Recorded c k p cur
  recorded k p e cur stack c room new l =
      (omega (arith, l.long, new.same_long), l.entry k (omega arith) ∙ new.entry_is, l.parent k (omega arith) ∙ new.parent_is)

  -- the stage behind a text or a comment
  leaf_stage : (a b : Bytes) (p k cur : ℕ) (around : List ℕ) → parent_at a 0 ≡ 0 → k * 24 + 24 ≤ length a → Placed k p (k + 1) cur a b
      → Chain a cur around → cur < k
      → keep_rules tag (length around) fs ≡ true
      → still_open (length around) fs ≡ 0
      → n ≡ k + suc (nodes_in fs)
      → ((c : Bytes) → Later k (cur ∷ around) a c → (Recorded c k p cur × (end_at c k ≡ k + 1) × next c (k + 1) cur around) → whole c)
      → Stage n tag fs next whole b (k + 1) cur
  leaf_stage a b p k cur around root room new chain below rules shut counted rest =
      record {
        root = old_parent k p (k + 1) cur new 0 (omega arith) ∙ root;
        around = around;
        chain = chain_later a b k cur around (old_parent k p (k + 1) cur new) below chain;
        below = omega arith;
        rules = rules;
        shut = shut;
        counted = omega arith;
        rest = λ c l told.
            rest c (placed_later k p (k + 1) cur new (cur ∷ around) (cur ∷ around) c (λ i h o. o) l) (
              recorded k p (k + 1) cur (cur ∷ around) c room new l,
              l.shut k (omega arith) (off_above a k cur around chain below) ∙ new.end_is,
              told,
            );
      }

  open_stage : (a b : Bytes) (p k cur : ℕ) (around : List ℕ) → parent_at a 0 ≡ 0 → k * 24 + 24 ≤ length a → Placed k p (k + 1) cur a b
      → Chain a cur around → cur < k
      → keep_rules tag (suc (length around)) fs ≡ true
      → still_open (suc (length around)) fs ≡ 0
      → n ≡ k + suc (nodes_in fs)
      → ((c : Bytes) → Later k (cur ∷ around) a c → (Recorded c k p cur × next c (k + 1) k (cur ∷ around)) → whole c)
      → Stage n tag fs next whole b (k + 1) k
  open_stage a b p k cur around root room new chain below rules shut counted rest =
      record {
        root = old_parent k p (k + 1) cur new 0 (omega arith) ∙ root;
        around = cur ∷ around;
        chain = (below, new.parent_is, chain_later a b k cur around (old_parent k p (k + 1) cur new) below chain);
        below = omega arith;
        rules = rules;
        shut = shut;
        counted = omega arith;
        rest = λ c l told.
            rest c (placed_later k p (k + 1) cur new (cur ∷ around) (k ∷ cur ∷ around) c (λ i h o. ((λ e. omega arith), o)) l)
            (recorded k p (k + 1) cur (k ∷ cur ∷ around) c room new l, told);
      }

  close_stage : (a b : Bytes) (k cur q : ℕ) (around : List ℕ) → parent_at a 0 ≡ 0 → Stored word_at 2 (cur * 24 + 4) k a b
      → Chain a cur (q ∷ around) → cur < k
      → keep_rules tag (length around) fs ≡ true
      → still_open (length around) fs ≡ 0
      → n ≡ k + nodes_in fs
      → ((c : Bytes) → Later k (cur ∷ q ∷ around) a c → ((end_at c cur ≡ k) × next c k q around) → whole c)
      → Stage n tag fs next whole b k (parent_at a cur)
  close_stage a b k cur q around root end chain below rules shut counted rest =
      subst (λ (j : ℕ). Stage n tag fs next whole b k j) (sym chain.1)
      (record {
        root = end_parent k cur end 0 ∙ root;
        around = around;
        chain = chain_later a b k q around (λ i h. end_parent k cur end i) (omega (arith, chain.0)) chain.2;
        below = omega (arith, chain.0);
        rules = rules;
        shut = shut;
        counted = counted;
        rest = λ c l told.
            rest c (end_later k cur end (q ∷ around) c l)
            (l.shut cur below (off_above a cur q around chain.2 chain.0) ∙ end.value, told);
      })

  -- any field, by its kind
  next_stage : (isOpen isClose is_text isComment : Bool) (a b : Bytes) (p k cur : ℕ) (around : List ℕ) (t : Turn)
      → parent_at a 0 ≡ 0
      → not (isClose && eqb (length around) 0) ≡ true
      → keep_rules tag (cond isOpen (suc (length around)) (cond isClose (length around - 1) (length around))) fs ≡ true
      → still_open (cond isOpen (suc (length around)) (cond isClose (length around - 1) (length around))) fs ≡ 0
      → n ≡ k + cond (begins_node (kind_by isOpen isClose is_text isComment)) (suc (nodes_in fs)) (nodes_in fs)
      → Chain a cur around → cur < k
      → ((c : Bytes) → Later k (cur ∷ around) a c → ToldAs (kind_by isOpen isClose is_text isComment) c k p cur around (next c) → whole c)
      → FitsAs (kind_by isOpen isClose is_text isComment) k cur a
      → TurnedAs (kind_by isOpen isClose is_text isComment) p k cur a b t
      → Stage n tag fs next whole b t.count t.cur
  next_stage true c x m a b p k cur around t root stray rules shut counted chain below rest fits turned =
      subst₂ (Stage n tag fs next whole b) (sym turned.1) (sym turned.2)
      (open_stage a b p k cur around root fits.0 turned.0 chain below rules shut counted rest)
  next_stage false true x m a b p k cur [] t root stray rules shut counted chain below rest fits turned = absurd (false≢true stray)
  next_stage false true x m a b p k cur (q ∷ around) t root stray rules shut counted chain below rest fits turned =
      let less : suc (length around) - 1 ≡ length around = omega arith in
      subst₂ (Stage n tag fs next whole b) (sym turned.1) (sym turned.2)
      (close_stage a b k cur q around root turned.0 chain below (rw less at rules) (rw less at shut) counted rest)
  next_stage false false true m a b p k cur around t root stray rules shut counted chain below rest fits turned =
      subst₂ (Stage n tag fs next whole b) (sym turned.1) (sym turned.2)
      (leaf_stage a b p k cur around root fits.0 turned.0 chain below rules shut counted rest)
  next_stage false false false true a b p k cur around t root stray rules shut counted chain below rest fits turned =
      subst₂ (Stage n tag fs next whole b) (sym turned.1) (sym turned.2)
      (leaf_stage a b p k cur around root fits.0 turned.0 chain below rules shut counted rest)
  next_stage false false false false a b p k cur around t root stray rules shut counted chain below rest fits turned =
      subst₂ (Stage n tag fs next whole b) (sym turned.1) (sym turned.2)
      (subst (λ (m : Bytes). Stage n tag fs next whole m k cur) (sym turned.0)
      (record {
        root = root;
        around = around;
        chain = chain;
        below = below;
        rules = rules;
        shut = shut;
        counted = counted;
        rest = rest;
      }))

-- ---- the sheet

-- storing has come to p
abbrev pub Storing : Bytes → Bytes → ℕ → ℕ → ℕ → Type 0
Storing sh ns p k cur =
    (before : ℕ)
    × Stage (node_count sh) before (fields (drop p sh)) (λ c j i around. Told sh c (node_count sh) (fields (drop p sh)) p j i around)
    (λ c. Told sh c (node_count sh) (fields sh) 0 1 0 []) ns k cur

node_kind : (tag : ℕ) → isin tag (1 ∷ 4 ∷ 5 ∷ []) ≡ begins_node (kind_of tag)
unfolding isin
node_kind tag = go (eqb tag 6) refl
  where
    by : (o x m : Bool) → (o || (x || (m || false))) ≡ begins_node (kind_by o false x m)
    by true x m = refl
    by false true m = refl
    by false false true = refl
    by false false false = refl

    go : (c : Bool) → eqb tag 6 ≡ c → isin tag (1 ∷ 4 ∷ 5 ∷ []) ≡ begins_node (kind_by (eqb tag 1) c (eqb tag 4) (eqb tag 5))
    go true e = rw (eqb-true tag 6 e)
    go false e = by (eqb tag 1) (eqb tag 4) (eqb tag 5)

fits_by : (kind : Kind) (n m k cur : ℕ) (a : Bytes) → n ≡ k + cond (begins_node kind) (suc m) m → cur < k → n ≤ 65535 → n * 24 ≤ length a → FitsAs kind k cur a
fits_by opens n m k cur a e below few room = (omega arith, omega arith, omega arith)
fits_by closes n m k cur a e below few room = (omega arith, omega arith)
fits_by texts n m k cur a e below few room = (omega arith, omega arith, omega arith)
fits_by comments n m k cur a e below few room = (omega arith, omega arith, omega arith)
fits_by aside n m k cur a e below few room = tt

-- where nothing is left, storing has come to any place that is near the end or behind it
moved : (sh ns : Bytes) (p q k cur : ℕ) → length sh - p < 3 → length sh - q < 3 → Storing sh ns p k cur → Storing sh ns q k cur
unfolding Told
moved sh ns p q k cur h g s =
    let e : fields (drop p sh) ≡ [] = fields_short (drop p sh) (omega (arith, length-drop p sh)) in
    let f : fields (drop q sh) ≡ [] = fields_short (drop q sh) (omega (arith, length-drop q sh)) in
    rw f (rw e at s)

-- the field at p, behind which storing goes on where its length says
module _ (sh a : Bytes) (p k cur : ℕ) (s : Storing sh a p k cur) (h : p + 3 ≤ length sh) (room : Storable sh (length a)) where
  abbrev behind : List Field
  behind = fields (drop (p + 3 + length_at sh p) sh)

  all_left : fields (drop p sh) ≡ field_of sh (span_at sh p) ∷ behind
  all_left = span_fields sh p h ∙ rw (past_end sh p)

  counted_by : node_count sh ≡ k + cond (begins_node (kind_of (get_or sh p 0))) (suc (nodes_in behind)) (nodes_in behind)
  unfolding nodes_in
  counted_by = s.1.counted ∙ rw (all_left, node_kind (get_or sh p 0))

  pub fits_field : FitsAs (kind_of (get_or sh p 0)) k cur a
  fits_field = fits_by (kind_of (get_or sh p 0)) (node_count sh) _ k cur a counted_by s.1.below room.few room.room_for

  pub stored_on : (n v : ℕ) → n ≡ length_at sh p → v ≡ entry_of sh p → (b : Bytes) (t : Turn)
      → TurnedAs (kind_of (get_or sh p 0)) v k cur a b t
      → Storing sh b (p + 3 + n) t.count t.cur
  unfolding keep_rules still_open no_stray open_after Told
  stored_on n v n-is v-is b t turned =
      let g = s.1 in
      let tag : ℕ = get_or sh p 0 in
      let f : Field = field_of sh (span_at sh p) in
      let d : ℕ = length g.around in
      let rules : keep_rules s.0 d (f ∷ behind) ≡ true = rw all_left at g.rules in
      let kept : (no_stray d tag ≡ true) × (keep_rules tag (open_after d tag) behind ≡ true) =
      (and-eq-true_iff (no_stray d tag) (keep_rules tag (open_after d tag) behind)).0
      ((and-eq-true_iff (may_follow s.0 tag && right_length f) (no_stray d tag && keep_rules tag (open_after d tag) behind)).0 rules).1 in
      let shut : still_open d (f ∷ behind) ≡ 0 = rw all_left at g.shut in
      rw n-is (
        tag,
        next_stage (node_count sh) tag behind (λ c j i around. Told sh c (node_count sh) behind (p + 3 + length_at sh p) j i around)
            (λ c. Told sh c (node_count sh) (fields sh) 0 1 0 [])
            (eqb tag 1) (eqb tag 6) (eqb tag 4) (eqb tag 5) a b v k cur g.around t g.root kept.0 kept.1 shut counted_by g.chain g.below
            (λ c l told. g.rest c l (rw (all_left, ← v-is) told)) fits_field turned,
      )

  -- a close keeps the rules, so that nothing is in it
  close_end : get_or sh p 0 ≡ 6 → end_of sh p ≡ p + 3
  unfolding keep_rules isin
  close_end six =
      let f : Field = field_of sh (span_at sh p) in
      let tag : ℕ = get_or sh p 0 in
      let d : ℕ = length s.1.around in
      let rules : keep_rules s.0 d (f ∷ behind) ≡ true = rw all_left at s.1.rules in
      let right : right_length f ≡ true =
      ((and-eq-true_iff (may_follow s.0 tag) (right_length f)).0
      ((and-eq-true_iff (may_follow s.0 tag && right_length f) (no_stray d tag && keep_rules tag (open_after d tag) behind)).0 rules).0).1 in
      let none : length_right 6 (end_of sh p - (p + 3)) ≡ true =
      subst (λ (x : ℕ). length_right x (end_of sh p - (p + 3)) ≡ true) six (sym (right_length_lem sh p h) ∙ right) in
      let nothing : end_of sh p - (p + 3) ≡ 0 = eqb-true (end_of sh p - (p + 3)) 0 none in
      omega (arith, nothing, (end_bounds sh p h).0)

  pub fits_close : get_or sh p 0 ≡ 6 → FitsAs closes k cur a
  fits_close six = subst (λ (x : ℕ). FitsAs (kind_of x) k cur a) six fits_field

  -- behind a close storing goes on behind its head
  pub stored_close : get_or sh p 0 ≡ 6 → (b : Bytes) (up : ℕ) → Stored word_at 2 (cur * 24 + 4) k a b → up ≡ parent_at a cur
      → Storing sh b (p + 3) k up
  stored_close six b up end up_is = go (ltb (length sh - (p + 3)) (length_at sh p)) refl (close_end six)
    where
      turn : Turn
      turn = record { count = k; cur = up }

      next : Storing sh b (p + 3 + length_at sh p) k up
      next =
          stored_on (length_at sh p) (entry_of sh p) refl refl b turn
          (subst (λ (x : ℕ). TurnedAs (kind_of x) (entry_of sh p) k cur a b turn) (sym six) (end, refl, up_is))

      go : (t : Bool) → ltb (length sh - (p + 3)) (length_at sh p) ≡ t → cond t (length sh) (p + 3 + length_at sh p) ≡ p + 3
          → Storing sh b (p + 3) k up
      go true e q = moved sh b (p + 3 + length_at sh p) (p + 3) k up (omega (arith, q)) (omega (arith, q)) next
      go false e q = subst (λ (x : ℕ). Storing sh b x k up) q next

-- ---- beginning and end

pub stored_none : (sh ns : Bytes) → Storable sh (length ns) → parent_at ns 0 ≡ 0 → Storing sh ns 0 1 0
unfolding node_count
stored_none sh ns room root = (
  0,
  record {
    root = root;
    around = [];
    chain = refl;
    below = omega arith;
    rules = room.rules;
    shut = room.shut;
    counted = omega arith;
    rest = λ c l told. told;
  },
)

-- behind the last field nothing is open, and the end of node 0 makes it the tree
module _ (sh ns : Bytes) (p k cur : ℕ) (s : Storing sh ns p k cur) (h : length sh - p < 3) where
  none_left : fields (drop p sh) ≡ []
  none_left = fields_short (drop p sh) (omega (arith, length-drop p sh))

  pub all_counted : k ≡ node_count sh
  unfolding nodes_in
  all_counted = sym (s.1.counted ∙ rw none_left (omega arith))

  none_around : (around : List ℕ) → still_open (length around) (fields (drop p sh)) ≡ 0 → around ≡ []
  unfolding still_open
  none_around [] e = refl
  none_around (q ∷ around) e = let z : suc (length around) ≡ 0 = rw none_left at e in absurd (omega arith)

  pub told : (c : Bytes) → Stored word_at 2 4 (node_count sh) ns c → Told sh c (node_count sh) (fields sh) 0 1 0 []
  unfolding Told
  told c end =
      let g = s.1 in
      let empty : g.around ≡ [] = none_around g.around g.shut in
      let bottom : cur ≡ 0 = subst (Chain ns cur) empty g.chain in
      let later : Later (node_count sh) (0 ∷ []) ns c = end_later (node_count sh) 0 end [] c (later_refl (node_count sh) [] c) in
      g.rest c (rw (all_counted, bottom, empty) later) (rw none_left (all_counted, empty))

  pub stored_all : (c : Bytes) → Stored word_at 2 4 (node_count sh) ns c → Storable sh (length ns) → Holds sh c (node_count sh)
  unfolding RepAll tree_of
  stored_all c end room =
      record {
        fits = omega (arith, room.room_for, end.same_long);
        root_end = end.value;
        root_parent = end_parent (node_count sh) 0 end 0 ∙ s.1.root;
        tree = told_all sh c (node_count sh) (fields sh) 0 1 0 [] refl (told c end);
      }

  pub finished : {c : Bytes} → Stored word_at 2 4 k ns c → Storable sh (length ns) → (k ≡ node_count sh) × Holds sh c k
  finished {c} end room = (
    all_counted,
    subst (λ (v : ℕ). Holds sh c v) (sym all_counted)
        (stored_all c (subst (λ (v : ℕ). Stored word_at 2 4 v ns c) all_counted end) room),
  )

-- there is a node
pub one_node : (sh : Bytes) → 1 ≤ node_count sh
unfolding node_count
one_node sh = omega arith
