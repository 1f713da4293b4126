-- What the writers are given, and what they answer.
use Rattle.std.specs.Prelude.{ℕ, ◌+◌, ◌*◌, ◌≤◌, ◌<◌, ◌^◌, ◌≡◌, Bool, List, length, take}
use Rattle.spec.specs.Bytes.{Bytes}
use Rattle.spec.specs.Tree.{Attr, Forest}
use Rattle.spec.specs.Out.{Out, Step, keep}
use Rattle.spec.specs.Call.{tags_to_skip}
use Rattle.spec.specs.Md.MDSerializer.{Ancestors, MDSerializer}
use Rattle.spec.specs.Md.Serializer.{serializer}
use Rattle.spec.specs.Md.Elements.List.{Progress}
use Rattle.spec.specs.declared.ctx.FormatOpts.{FormatOpts}
use Rattle.spec.specs.declared.ctx.ListContext.{ListContext}
use Rattle.tree.specs.Memory.{parent_at}
use Rattle.input.specs.Scans.{skip_of}
use Rattle.tree.specs.Represents.{Rep, Around}
use Rattle.text.specs.Writes.{Written, Refused, Writes}
use Rattle.text.specs.Writes.{Wrote}
use Rattle.std.specs.Prelude.{Result, Ok, Err, Option}
use Rattle.std.specs.Borrow.{Bor}
use Rattle.text.specs.declared.buffer.Full.{Full}
use Rattle.text.specs.declared.text.Text.{Text}
use Rattle.text.specs.Texts.{bytes, wrote}
use Rattle.nodes.specs.Stands.{ElementAt}
use Rattle.tables.specs.TableSteps.{RowWrites, RowsWrites}
use Rattle.serializer.specs.declared.progress.Going.{Going}

-- the serializer of a call, with so many levels below
abbrev pub self_at : Option (Bor Bytes) → ℕ → MDSerializer
self_at skip levels = serializer (tags_to_skip (skip_of skip)) levels

-- a sheet that passes question 1
abbrev pub Short : Bytes → Type 0
Short sh = length sh ≤ 1048576

-- a text keeps its room
pub record SameRoom (before after : Text) : Type 0 where
  pub room_is : after.room.ghost_name ≡ before.room.ghost_name
  pub long : length after.room.now ≡ length before.room.now

-- the offsets of lists within so many levels fit beside the flags in a machine word: each list steps 12 at most
abbrev pub Fits : FormatOpts → ℕ → Type 0
Fits opts levels = opts.offset + levels * 12 + 24 < 2 ^ 48

abbrev pub FitsIn : ListContext → ℕ → Type 0
FitsIn ctx levels = Fits ctx.opts levels × (ctx.list_indent + levels * 12 + 36 < 2 ^ 48)

-- whatever forest the nodes from number i up to e are, and whatever stands around them, it is written by the step
pub record WritesForest (sh ns : Bytes) (i e : ℕ) (step : Ancestors → Forest → Step) (t : Bytes) (room : ℕ) (after : Bytes) (r : Wrote) : Type 0 where
  pub for : (parent : ℕ) (f : Forest) (anc : Ancestors) → Rep sh ns parent i e f → Around sh ns parent anc → Writes room after r (step anc f t)

-- whatever element node i is, and whatever stands around it, it is written by the step
pub record WritesElement (sh ns : Bytes) (i : ℕ) (step : Ancestors → Bytes → List Attr → Forest → Step) (t : Bytes) (room : ℕ) (after : Bytes) (r : Wrote) : Type 0 where
  pub for : (name : Bytes) (attrs : List Attr) (kids : Forest) (anc : Ancestors) → ElementAt sh ns i name attrs kids
      → Around sh ns (parent_at ns i) anc → Writes room after r (step anc name attrs kids t)

-- and what is written stands behind the text
abbrev pub ForestTo : Bytes → Bytes → ℕ → ℕ → (Ancestors → Forest → Step) → Text → Text → Result (Unit {0}) Full → Type 0
ForestTo sh ns i e step before after r = WritesForest sh ns i e step (bytes before) (length before.room.now) after.room.now (wrote after r)

abbrev pub ElementTo : Bytes → Bytes → ℕ → (Ancestors → Bytes → List Attr → Forest → Step) → Text → Text → Result (Unit {0}) Full → Type 0
ElementTo sh ns i step before after r = WritesElement sh ns i step (bytes before) (length before.room.now) after.room.now (wrote after r)

abbrev pub RowTo : Text → Text → List ℕ → Result (Unit {0}) Full → List Out → Type 0
RowTo before after stored r os = RowWrites (length before.room.now) after.room.now stored (wrote after r) os (bytes before)

abbrev pub RowsTo : Text → Text → List (List ℕ) → Result (Unit {0}) Full → List (List Out) → Type 0
RowsTo before after stored r rows = RowsWrites (length before.room.now) after.room.now stored (wrote after r) rows (bytes before)

-- ---- the children of an item

-- before a child: whether no block stood before, whether a blank line is due, and the text
abbrev pub progress_at : Bool → Bool → Bytes → Progress
progress_at first due t = record { is_first_block = first; blank_line_due = due; out = keep t }

-- the length of the text, and what is known behind it
pub record At : Type 0 where
  pub len : ℕ
  pub first : Bool
  pub due : Bool

-- so far, where the text stands at the front of d
abbrev pub progress_of : At → Bytes → Progress
progress_of g d = progress_at g.first g.due (take g.len d)

-- and where it stands in a text
abbrev pub at_text : Going → Text → At
at_text g t = record { len = t.len; first = g.first; due = g.due }

abbrev pub progress_on : Going → Text → Progress
progress_on g t = progress_of (at_text g t) t.room.now

abbrev pub Went : Type 0
Went = Result At Full

abbrev pub gone : Text → Result Going Full → Went
gone after (Ok g) = Ok (at_text g after)
gone after (Err e) = Err e

-- what a step's answer gives, with what is known behind it
abbrev pub going_of : Wrote → Bool → Bool → Went
going_of (Ok n) first due = Ok (record { len = n; first = first; due = due })
going_of (Err e) first due = Err e

abbrev pub SaysGoing : ℕ → Bytes → Went → Progress → Type 0
SaysGoing room after (Ok g) p = Written room after g.len p.out × (g.first ≡ p.is_first_block) × (g.due ≡ p.blank_line_due)
SaysGoing room after (Err _) p = Refused room p.out

-- a record, so that antt reads its arguments off its type
pub record Goes (room : ℕ) (after : Bytes) (r : Went) (p : Progress) : Type 0 where
  pub says : SaysGoing room after r p

pub record GoesForest (sh ns : Bytes) (i e : ℕ) (step : Ancestors → Forest → Progress) (room : ℕ) (after : Bytes) (r : Went) : Type 0 where
  pub for : (parent : ℕ) (f : Forest) (anc : Ancestors) → Rep sh ns parent i e f → Around sh ns parent anc → Goes room after r (step anc f)

pub record GoesElement (sh ns : Bytes) (i : ℕ) (step : Ancestors → Bytes → List Attr → Forest → Progress) (room : ℕ) (after : Bytes) (r : Went) : Type 0 where
  pub for : (name : Bytes) (attrs : List Attr) (kids : Forest) (anc : Ancestors) → ElementAt sh ns i name attrs kids
      → Around sh ns (parent_at ns i) anc → Goes room after r (step anc name attrs kids)

-- `Goes`, where what is written stands behind the text
abbrev pub GoesTo : Text → Text → Result Going Full → Progress → Type 0
GoesTo before after r p = Goes (length before.room.now) after.room.now (gone after r) p

abbrev pub ForestGoes : Bytes → Bytes → ℕ → ℕ → (Ancestors → Forest → Progress) → Text → Text → Result Going Full → Type 0
ForestGoes sh ns i e step before after r = GoesForest sh ns i e step (length before.room.now) after.room.now (gone after r)

abbrev pub ElementGoes : Bytes → Bytes → ℕ → (Ancestors → Bytes → List Attr → Forest → Progress) → Text → Text → Result Going Full → Type 0
ElementGoes sh ns i step before after r = GoesElement sh ns i step (length before.room.now) after.room.now (gone after r)
