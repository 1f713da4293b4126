-- What a field does to the nodes, and what storing it does to node memory.
use Rattle.std.specs.Prelude.{ℕ, ◌+◌, ◌*◌, ◌≤◌, ◌<◌, ◌≡◌, Bool, true, false, length, get_or, eqb}
use Rattle.spec.specs.Bytes.{Bytes}
use Rattle.spec.specs.Fields.{fields}
use Rattle.spec.specs.Questions.{keep_rules, still_open, node_count}
use Rattle.tree.specs.Memory.{word_at, Stored, entry_at, end_at, parent_at}
use Rattle.tree.specs.declared.store.Turn.{Turn}

-- what a field does to the nodes
pub data Kind : Type 0 where
  opens closes texts comments aside : Kind

abbrev pub kind_by : Bool → Bool → Bool → Bool → Kind
kind_by true c x m = opens
kind_by false true x m = closes
kind_by false false true m = texts
kind_by false false false true = comments
kind_by false false false false = aside

abbrev pub kind_of : ℕ → Kind
kind_of tag = kind_by (eqb tag 1) (eqb tag 6) (eqb tag 4) (eqb tag 5)

-- the record of node i says this now, and all but its first eight bytes is as it was
pub record Placed (i entry end parent : ℕ) (a b : Bytes) : Type 0 where
  pub same_long : length b ≡ length a
  pub entry_is : entry_at b i ≡ entry
  pub end_is : end_at b i ≡ end
  pub parent_is : parent_at b i ≡ parent
  pub before : (j : ℕ) → j < i * 24 → get_or b j 0 ≡ get_or a j 0
  pub behind : (j : ℕ) → i * 24 + 8 ≤ j → get_or b j 0 ≡ get_or a j 0

-- the records that a field of this kind changes are there, and their numbers fit; k nodes begin before it, and `cur` is the
-- innermost open one
abbrev pub FitsAs : Kind → ℕ → ℕ → Bytes → Type 0
FitsAs opens k cur a = (k * 24 + 24 ≤ length a) × (k < 65535) × (cur < 65536)
FitsAs closes k cur a = (cur * 24 + 24 ≤ length a) × (k < 65536)
FitsAs texts k cur a = (k * 24 + 24 ≤ length a) × (k < 65535) × (cur < 65536)
FitsAs comments k cur a = (k * 24 + 24 ≤ length a) × (k < 65535) × (cur < 65536)
FitsAs aside k cur a = Unit {0}

-- what storing a field does; e is the entry of the node that it begins, if it does
abbrev pub TurnedAs : Kind → ℕ → ℕ → ℕ → Bytes → Bytes → Turn → Type 0
TurnedAs opens e k cur a b t = Placed k e (k + 1) cur a b × (t.count ≡ k + 1) × (t.cur ≡ k)
TurnedAs closes e k cur a b t = Stored word_at 2 (cur * 24 + 4) k a b × (t.count ≡ k) × (t.cur ≡ parent_at a cur)
TurnedAs texts e k cur a b t = Placed k e (k + 1) cur a b × (t.count ≡ k + 1) × (t.cur ≡ cur)
TurnedAs comments e k cur a b t = Placed k e (k + 1) cur a b × (t.count ≡ k + 1) × (t.cur ≡ cur)
TurnedAs aside e k cur a b t = (b ≡ a) × (t.count ≡ k) × (t.cur ≡ cur)

-- the sheet's fields keep the rules, all elements are closed, and its nodes have room in a memory of so many bytes
pub record Storable (sh : Bytes) (room : ℕ) : Type 0 where
  pub short : length sh ≤ 1048576
  pub rules : keep_rules 0 0 (fields sh) ≡ true
  pub shut : still_open 0 (fields sh) ≡ 0
  pub few : node_count sh ≤ 65535
  pub room_for : node_count sh * 24 ≤ room
