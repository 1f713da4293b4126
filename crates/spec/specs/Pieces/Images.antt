-- Where an image begins (CommonMark 0.31, sections 2.4 and 6.4).
use Rattle.std.specs.Prelude.{Bool, false, cond, not, ◌&&◌, [], ◌∷◌, eqb}
use Rattle.spec.specs.Bytes.{Bytes, null}
use Rattle.spec.specs.Reading.Inline.{escaped, slashed}

-- whether an unescaped backslash stands at the end of t; s: one stands before t
unfoldable pub waits : Bool → Bytes → Bool
waits s [] = s
waits s (b ∷ r) = waits (slashed s b) r

-- 6.4: "an image description starts with ![ rather than [". 2.4: escaped characters "are treated as regular characters and do not have
-- their usual Markdown meanings". A bracket behind t opens an image: t ends with a `!` that is not escaped
unfoldable pub opens_image : Bool → Bytes → Bool
opens_image s [] = false
opens_image s (b ∷ r) = cond (null r) (not (escaped s b) && eqb b 33) (opens_image (slashed s b) r)
