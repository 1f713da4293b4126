-- What the proofs of several functions use.
pub mod Numbers
pub mod Appending
pub mod Siblings
pub mod Tests
pub mod Whites
pub mod Interrupts
pub mod Spots
