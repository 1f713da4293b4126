-- What the answers of the call say: the number of document 01 and the length, for each case; and both coded in one signed number,
-- for hosts.
use Rattle.std.specs.Prelude.{ℕ, suc, Bool, true, false, not, eqb, ℤ, pos, negsuc, neg_ℤ, Result, Ok, Err}
use Rattle.input.specs.declared.refusal.Refusal.{Refusal}
use Rattle.input.specs.Refusals.{number_of as question}

-- the length of the text, or the question that said no
abbrev pub Answer : Type 0
Answer = Result ℕ Refusal

-- `Ok` is acceptance, number 0; `Err` holds the question that said no
abbrev pub number_of : Answer → ℕ
number_of (Ok n) = 0
number_of (Err r) = question r

-- `Ok` holds the length of the text; that of a no is 0
abbrev pub length_of : Answer → ℕ
length_of (Ok n) = n
length_of (Err r) = 0

-- "Acceptance is told apart from every no"
abbrev pub is_written : Answer → Bool
is_written (Ok n) = true
is_written (Err r) = false

-- ---- one signed number

-- a text of n bytes is n, and question k's no is -k
abbrev pub coded : Answer → ℤ
coded (Ok n) = pos n
coded (Err r) = neg_ℤ (pos (question r))

-- what a host reads off the code: a number below 0 is a no, any other the length of the text
abbrev pub coded_number : ℤ → ℕ
coded_number (pos n) = 0
coded_number (negsuc k) = suc k

abbrev pub coded_length : ℤ → ℕ
coded_length (pos n) = n
coded_length (negsuc k) = 0

-- a host's flag: 0 is false, any other byte true
abbrev pub flag : ℕ → Bool
flag b = not (eqb b 0)
