-- What the proofs of several functions use.
pub mod ListTests
pub mod Openings
pub mod Links
pub mod Renumbering
pub mod WhiteStarts
pub mod Multilines
pub mod Edges
pub mod Nesting
pub mod Languages
pub mod Joining
pub mod Behind
