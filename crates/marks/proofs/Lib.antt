-- What the proofs of several functions use.
pub mod Leaves
pub mod Headings
pub mod Pipes
pub mod Spans
pub mod Marking
