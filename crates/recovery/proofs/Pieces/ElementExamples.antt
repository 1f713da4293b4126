-- Choices of the writer that no public document makes, evaluated: which elements are blocks, and what a link of blanks and a break in a cell give.
use Rattle.std.specs.Prelude.{◌≡◌, refl, []}
use Rattle.spec.specs.Bytes.{Bytes, ascii}
use Rattle.spec.specs.Everything.{everything}
use Rattle.spec.specs.Tree.{nothing, text, element}
use Rattle.recovery.proofs.Pieces.ItemExamples.{written_of, holding}
use Rattle.recovery.proofs.Pieces.Elements.{attr_of}

-- text, one of these elements, text: three paragraphs
unfoldable pub between : Bytes → Bytes
between name = written_of (text (ascii "x") (holding name (ascii "y") (text (ascii "z") nothing)))

pub blocks_part :
    (between (ascii "article") ≡ ascii "x\n\ny\n\nz") × (between (ascii "section") ≡ ascii "x\n\ny\n\nz") × (between (ascii "div") ≡ ascii "x\n\ny\n\nz")
    × (between (ascii "p") ≡ ascii "x\n\ny\n\nz") × (between (ascii "dl") ≡ ascii "x\n\ny\n\nz") × (between (ascii "span") ≡ ascii "xyz")
unfolding everything between written_of holding
blocks_part = (refl, refl, refl, refl, refl, refl)

-- in a link's text a block, an item, a row and a cell are parted by blanks
unfoldable pub in_link : Bytes → Bytes
in_link name =
    written_of
    (element (ascii "a") (attr_of (ascii "href") (ascii "u"))
    (element (ascii "img") (attr_of (ascii "src") (ascii "v")) nothing (holding name (ascii "x") (holding name (ascii "y") nothing))) nothing)

pub links_part :
    (in_link (ascii "p") ≡ ascii "[![](v) x y](u)") × (in_link (ascii "li") ≡ ascii "[![](v) x y](u)") × (in_link (ascii "tr") ≡ ascii "[![](v) x y](u)")
    × (in_link (ascii "th") ≡ ascii "[![](v) x y](u)") × (in_link (ascii "td") ≡ ascii "[![](v) x y](u)") × (in_link (ascii "span") ≡ ascii "[![](v)xy](u)")
unfolding everything in_link written_of holding attr_of
links_part = (refl, refl, refl, refl, refl, refl)

-- a link that shows blanks alone parts the words around it
pub blank_link_lem : written_of (text (ascii "a") (element (ascii "a") (attr_of (ascii "href") (ascii "u")) (text (ascii " ") nothing) (text (ascii "b") nothing))) ≡ ascii "a b"
unfolding everything written_of attr_of
blank_link_lem = refl

-- a cell has `<br>` for a line break
pub cell_break :
    written_of
    (element (ascii "table") []
    (element (ascii "tr") [] (element (ascii "th") [] (text (ascii "a") (element (ascii "br") [] nothing (text (ascii "b") nothing))) nothing)
    (element (ascii "tr") [] (holding (ascii "td") (ascii "c") nothing) nothing)) nothing)
    ≡ ascii "| a  <br>b |\n| -------- |\n| c |"
unfolding everything written_of holding
cell_break = refl
