-- The numbers of the ten questions (document 01).
use Rattle.std.specs.Prelude.{ℕ, Result, Ok, Err}
use Rattle.input.specs.declared.refusal.Refusal.{Refusal}
use Rattle.input.specs.declared.refusal.Refusal.TheVariants.{
  SheetLength,
  Fields,
  Rules,
  Utf8,
  Limits,
  Blockquote,
  Start,
  SkipList,
  NodeMemory,
  TextMemory,
}

abbrev pub number_of : Refusal → ℕ
number_of SheetLength = 1
number_of Fields = 2
number_of Rules = 3
number_of Utf8 = 4
number_of Limits = 5
number_of Blockquote = 6
number_of Start = 7
number_of SkipList = 8
number_of NodeMemory = 9
number_of TextMemory = 10

-- the number of a no, and 0 for a yes
abbrev pub number_told : {A : Type 0} → Result A Refusal → ℕ
number_told (Ok x) = 0
number_told (Err r) = number_of r
