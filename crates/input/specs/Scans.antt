-- What the scan of a sheet's fields answers.
use Rattle.std.specs.Prelude.{ℕ, suc, Bool, true, false, cond, not, ◌&&◌, List, [], ◌∷◌, length, eqb, leb, Option, None, Some}
use Rattle.std.specs.Borrow.{Bor}
use Rattle.spec.specs.Utf8.{is_utf8}
use Rattle.spec.specs.Bytes.{Bytes, ascii, same, isin}
use Rattle.spec.specs.Fields.{Field}
use Rattle.spec.specs.Questions.{may_follow, no_stray, keep_rules, still_open, SkipList, standard, own}

-- `right_length` of a field with so many bytes
abbrev pub length_right : ℕ → ℕ → Bool
length_right tag len = cond (isin tag (1 ∷ 2 ∷ [])) (not (eqb len 0)) (cond (eqb tag 6) (eqb len 0) true)

abbrev pub field_right : ℕ → ℕ → ℕ → ℕ → Bool
field_right before depth tag len = (may_follow before tag && length_right tag len) && no_stray depth tag

-- the elements still open behind fields that keep the rules
unfoldable pub scan_of : List Field → Option ℕ
scan_of fs = cond (keep_rules 0 0 fs) (Some (still_open 0 fs)) None

abbrev pub begins_node : ℕ → Bool
begins_node tag = isin tag (1 ∷ 4 ∷ 5 ∷ [])

-- the nodes begun behind a field, with `count` before it
abbrev pub count_after : ℕ → ℕ → ℕ
count_after count tag = cond (begins_node tag) (suc count) count

abbrev pub opens_blockquote : ℕ → Bytes → Bool
opens_blockquote tag body = eqb tag 1 && same body (ascii "blockquote")

-- `skip_name` of a field with these bytes
abbrev pub skip_name_of : Bytes → Bool
skip_name_of s = (leb 1 (length s) && leb (length s) 64) && is_utf8 s

-- the skip list of a call: the default, or the run of fields that is lent
abbrev pub skip_list : Bool → Bytes → SkipList
skip_list true run = own run
skip_list false run = standard

-- the skip list, for a run that is lent only where it is the skip list
abbrev pub skip_of : Option (Bor Bytes) → SkipList
skip_of (Some run) = own run.now
skip_of None = standard
