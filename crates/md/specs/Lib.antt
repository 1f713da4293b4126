-- The definitions that this crate's contracts add to those of `spec`.
pub mod Answer
pub mod Started
