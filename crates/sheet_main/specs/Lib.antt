-- The definition that this crate's contract adds to those of `spec`.
pub mod Reply
