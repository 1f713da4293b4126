-- What the proofs of several functions use.
pub mod Writing
pub mod Pushing
pub mod Reading
pub mod Trimming
pub mod Moving
pub mod Spaces
pub mod Sourcing
pub mod Ordinary
pub mod WhiteSpace
pub mod Temporary
pub mod Finding
pub mod Lifting
pub mod Texts
pub mod Parts
