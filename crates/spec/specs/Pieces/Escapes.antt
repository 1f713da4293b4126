-- Escaping a string (HTML Standard, section 13.3, "Serializing HTML fragments").
use Rattle.std.specs.Prelude.{ℕ, zero, suc, ◌-◌, cond, [], ◌∷◌, ◌++◌, length}
use Rattle.spec.specs.Bytes.{Bytes, ascii, starts_with}

-- every occurrence of x in s replaced by y; the first k bytes of s belong to an occurrence that is replaced already
unfoldable pub replaced_from : Bytes → Bytes → ℕ → Bytes → Bytes
replaced_from x y k [] = []
replaced_from x y (suc k) (b ∷ s) = replaced_from x y k s
replaced_from x y zero (b ∷ s) =
    let here = starts_with x (b ∷ s) in
    cond here y (b ∷ []) ++ replaced_from x y (cond here (length x - 1) 0) s

unfoldable pub replaced : Bytes → Bytes → Bytes → Bytes
replaced x y s = replaced_from x y 0 s

-- HTML: "Replace any occurrence of the "&" character by the string "&amp;"."
unfoldable pub ampersands : Bytes → Bytes
ampersands s = replaced (ascii "&") (ascii "&amp;") s

-- HTML: "Replace any occurrences of the U+00A0 NO-BREAK SPACE character by the string "&nbsp;"."
unfoldable pub no_break_spaces : Bytes → Bytes
no_break_spaces s = replaced (0xC2 ∷ 0xA0 ∷ []) (ascii "&nbsp;") s

-- HTML: "Replace any occurrences of the "<" character by the string "&lt;"." "Replace any occurrences of the ">" character by the
-- string "&gt;"."
unfoldable pub angle_brackets : Bytes → Bytes
angle_brackets s = replaced (ascii ">") (ascii "&gt;") (replaced (ascii "<") (ascii "&lt;") s)

-- HTML: "If the algorithm was invoked in the attribute mode, then replace any occurrences of the """ character by the string
-- "&quot;"."
unfoldable pub quotation_marks : Bytes → Bytes
quotation_marks s = replaced (ascii "\"") (ascii "&quot;") s

-- the steps in the Standard's order
unfoldable pub escaped_attribute : Bytes → Bytes
escaped_attribute s = quotation_marks (angle_brackets (no_break_spaces (ampersands s)))
