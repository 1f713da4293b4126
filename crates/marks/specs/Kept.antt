-- The bytes that a language's name keeps.
use Rattle.std.specs.Prelude.{ℕ, Bool, ◌||◌}
use Rattle.spec.specs.Bytes.{ascii, isin}
use Rattle.spec.specs.Md.Elements.Code.{is_alphanumeric}

abbrev pub kept_byte : ℕ → Bool
kept_byte b = is_alphanumeric b || isin b (ascii "-_+.#")
