-- `heading.rs`.
use Rattle.std.specs.Prelude.{ℕ, Bool, cond, ◌&&◌, [], ◌∷◌, ◌++◌, length, take, drop, eqb, ltb}
use Rattle.spec.specs.Bytes.{Bytes, ascii, isin, ends_with, one, trim_end_matches, trim_end}
use Rattle.spec.specs.Names as tag
use Rattle.spec.specs.Out.{Step, keep, replace}

unfoldable pub is_heading : ℕ → Bool
is_heading name = isin name (tag.h1 ∷ tag.h2 ∷ tag.h3 ∷ tag.h4 ∷ tag.h5 ∷ tag.h6 ∷ [])

-- empty where the Rust has none
unfoldable pub md_prefix : ℕ → Bytes
md_prefix name =
    cond (eqb name tag.h1) (ascii "# ")
    (cond (eqb name tag.h2) (ascii "## ")
    (cond (eqb name tag.h3) (ascii "### ")
    (cond (eqb name tag.h4) (ascii "#### ")
    (cond (eqb name tag.h5) (ascii "##### ")
    (cond (eqb name tag.h6) (ascii "###### ")
    (cond (eqb name tag.hr) (ascii "---") []))))))

-- CommonMark, ATX headings: "The optional closing sequence of #s must be preceded by spaces or tabs"
unfoldable pub escape_closing_hashes : Step
escape_closing_hashes text =
    let content = trim_end text in
    let stem = trim_end_matches (one (λ b. eqb b 35)) content in
    cond (ltb (length stem) (length content) && ends_with (ascii " ") stem)
    (replace (λ t. take (length stem) t ++ (ascii "\\" ++ drop (length stem) t)) text)
    (keep text)
