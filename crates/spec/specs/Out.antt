-- What writing gives: the text, and the most room that it took on the way (document 01, question 10: "No, exactly when at
-- some append of the definition the texts then in being are together longer than it").
use Rattle.std.specs.Prelude.{ℕ, ◌+◌, max, List, [], ◌∷◌, ◌++◌, length}
use Rattle.spec.specs.Bytes.{Bytes}

-- `peak`: the greatest total length, over all appends, of this text and the texts begun inside it. Where texts only grow,
-- the last append has the greatest total, so that a run of appends may be one `push`
pub record Out : Type 0 where
  pub text : Bytes
  pub peak : ℕ

-- a way of writing, from the text so far
abbrev pub Step : Type 0
Step = Bytes → Out

-- the text is made shorter, or stays as it is
unfoldable pub cut : (Bytes → Bytes) → Step
cut f t = record { text = f t; peak = 0 }

unfoldable pub keep : Step
keep t = record { text = t; peak = 0 }

-- x is appended
unfoldable pub push : Bytes → Step
push x t = record { text = t ++ x; peak = length t + length x }

-- a longer text takes the text's place, in one step
unfoldable pub replace : (Bytes → Bytes) → Step
replace f t = record { text = f t; peak = length (f t) }

-- f goes on from where o ended
unfoldable pub and_then : Out → Step → Out
and_then o f = let r = f o.text in record { text = r.text; peak = max o.peak r.peak }

-- n bytes of another text count meanwhile
unfoldable pub beside : ℕ → Out → Out
beside n o = record { text = o.text; peak = n + o.peak }

-- o is a text begun inside t: it counts on top of t
unfoldable pub inside : Bytes → Out → ℕ
inside t o = length t + o.peak

-- o is a text begun inside t, and f follows
unfoldable pub nested : Out → Step → Step
nested o f t = let r = f t in record { text = r.text; peak = max (inside t o) r.peak }

-- texts begun inside t one after the other, each staying in being: the room that they take
unfoldable pub inside_all : Bytes → List Out → ℕ
inside_all t [] = 0
inside_all t (o ∷ os) = max (inside t o) (inside_all (t ++ o.text) os)

unfoldable pub nested_all : List Out → Step → Step
nested_all os f t = let r = f t in record { text = r.text; peak = max (inside_all t os) r.peak }
