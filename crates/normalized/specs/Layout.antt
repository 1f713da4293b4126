-- How a text is appended: what stands before its bytes and behind them, and what they add.
use Rattle.std.specs.Prelude.{ℕ, ◌≤◌, ◌<◌, ◌≡◌, Bool, true, false, cond, not, [], ◌++◌, length, take, eqb}
use Rattle.std.proofs.Math.Seq.{slice}
use Rattle.spec.specs.Bytes.{Bytes, ascii, every, white, starts_with}
use Rattle.spec.specs.Out.{push}
use Rattle.spec.specs.Md.TextUtils.{escaped_chunk, push_normalized_text}
use Rattle.spec.specs.declared.ctx.FormatOpts.{FormatOpts}
use Rattle.text.specs.Class.{ordinary}
use Rattle.text.specs.Flow.{starts_black, flow, flow_before}
use Rattle.text.specs.Marks.{lead_of}
use Rattle.normalized.specs.declared.layout.Layout.{Layout}

-- all that matters of `rest`, which stands behind a byte, is known from its first byte, or from a blank where it has none
pub record Behind (next : ℕ) (rest : Bytes) : Type 0 where
  pub word : not (white next) ≡ starts_black rest
  pub bracket : eqb next 91 ≡ starts_with (ascii "[") rest

-- a word that begins a line has a backslash more before its byte at r; the bytes before it add themselves
pub record Marked (word : Bytes) (start : Bool) (r : ℕ) : Type 0 where
  pub begins : start ≡ true
  pub rest : Bytes
  pub bare : every ordinary (take r word) ≡ true
  pub with_sign : escaped_chunk word true true ≡ take r word ++ (ascii "\\" ++ rest)
  pub without : escaped_chunk word true false ≡ take r word ++ rest

-- a word that begins a line has one escape more than elsewhere, before its byte at r; none where r is its length
pub record LineSign (word : Bytes) (start : Bool) (r : ℕ) : Type 0 where
  pub within : r ≤ length word
  pub none : r ≡ length word → escaped_chunk word true start ≡ escaped_chunk word true false
  pub some : r < length word → Marked word start r

-- what stands before the byte at `mark`
abbrev pub front : Bool → Bytes → Layout → Bytes
front escape s l =
    lead_of l.lead
    ++ (flow_before escape (slice l.at l.mark s) (slice l.mark (length s) s) ++ cond l.sign (ascii "\\") [])

-- s is appended by this layout
pub record Laid (opts : FormatOpts) (text s : Bytes) (l : Layout) : Type 0 where
  pub ordered : l.at ≤ l.mark
  pub within : l.mark ≤ length s
  pub is : push_normalized_text s opts text
      ≡ push (front (not opts.skip_escape) s l ++ (flow (not opts.skip_escape) (slice l.mark (length s) s) ++ cond l.last (ascii " ") [])) text
