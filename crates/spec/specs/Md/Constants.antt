-- `constants.rs`.
use Rattle.std.specs.Prelude.{ℕ, List, [], ◌∷◌}
use Rattle.spec.specs.Bytes.{Bytes, ascii}

abbrev pub LIST_OFFSET_BASE : ℕ
LIST_OFFSET_BASE = 4

-- CommonMark, list items: "a sequence of 1–9 arabic digits (0-9), followed by either a . character or a ) character"
abbrev pub MAX_LIST_NUMBER : ℕ
MAX_LIST_NUMBER = 999999999

-- escaped anywhere in a line
abbrev pub ALWAYS_ESCAPED : Bytes
ALWAYS_ESCAPED = ascii "\\`*_[]<|~"

-- escaped at the beginning of a line
abbrev pub LINE_START_ESCAPED : Bytes
LINE_START_ESCAPED = ascii "#>-+"

abbrev pub DEFAULT_SKIP_TAGS : List Bytes
DEFAULT_SKIP_TAGS = ascii "script" ∷ ascii "style" ∷ ascii "meta" ∷ ascii "head" ∷ []

abbrev pub CODE_LANGUAGE_ATTRIBUTES : List Bytes
CODE_LANGUAGE_ATTRIBUTES = ascii "data-lang" ∷ ascii "data-language" ∷ []

abbrev pub CODE_LANGUAGE_PREFIX : Bytes
CODE_LANGUAGE_PREFIX = ascii "language-"
