-- The parts of a text that is appended word by word.
use Rattle.std.specs.Prelude.{ℕ, Bool, cond, not, ◌&&◌, ◌||◌, [], ◌∷◌, eqb}
use Rattle.spec.specs.Bytes.{Bytes, ascii, null, same, ends_with}
use Rattle.spec.specs.Md.TextUtils.{escaped_from, ends_with_marker_digits}
use Rattle.spec.specs.declared.ctx.FormatOpts.{FormatOpts}

-- a chunk with its escapes, or as it is
abbrev pub marks : Bool → Bool → Bool → Bool → Bytes → Bytes
marks escape start marker underline chunk = cond escape (escaped_from start marker underline chunk) chunk

-- a byte, or nothing for 0
abbrev pub lead_of : ℕ → Bytes
lead_of b = cond (eqb b 0) [] (b ∷ [])

abbrev pub dot_word : Bytes → Bool
dot_word word = same word (ascii ".") || same word (ascii ")")

-- what stands before the first word
abbrev pub lead_text : FormatOpts → Bytes → Bool → Bool → Bytes
lead_text opts text white dot =
    let follows = (ends_with (ascii "\n") text || ends_with (ascii " ") text) || null text in
    cond ((opts.inline || not follows) && white) (ascii " ")
    (cond (not opts.skip_escape && (dot && ends_with_marker_digits text)) (ascii "\\") [])

abbrev pub blank_text : Bytes → Bool → Bytes
blank_text text some = cond (not (ends_with (ascii "\n") text || ends_with (ascii " ") text) && some) (ascii " ") []

abbrev pub line_start : FormatOpts → Bytes → Bool
line_start opts text = (null text || ends_with (ascii "\n") text) || opts.list_item
