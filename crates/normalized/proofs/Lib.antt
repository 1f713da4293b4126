-- What the proofs of several functions use.
pub mod Markers
pub mod Wording
pub mod Flowing
pub mod Starting
pub mod Streaming
pub mod Blocks
pub mod Normal
