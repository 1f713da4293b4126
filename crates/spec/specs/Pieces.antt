-- Pieces of the written text that a public document defines, each by the rules for that piece alone; what Reading/ defines is not said
-- again.
--
-- Sentences with a section number are those of the CommonMark specification 0.31 (John MacFarlane, CC BY-SA 4.0), those marked "GFM"
-- are those of the GitHub Flavored Markdown specification (GitHub, CC BY-SA 4.0), those marked "HTML" are those of the HTML Standard
-- (WHATWG, CC BY 4.0).
pub mod Integers
pub mod Escapes
pub mod CodeSpans
pub mod Fences
pub mod Links
pub mod Srcset
pub mod Lines
pub mod Tables
pub mod Emphasis
pub mod EmphasisReading
pub mod LinkWholes
pub mod Images
pub mod Items
