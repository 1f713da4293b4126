-- What the proofs of several functions use.
pub mod Sequences
pub mod Walking
pub mod Rules
pub mod Every
pub mod ByTag
pub mod Sounding
pub mod Splitting
