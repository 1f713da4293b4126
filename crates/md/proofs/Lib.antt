-- What the proofs of several functions share.
pub mod Starting
pub mod Answering
