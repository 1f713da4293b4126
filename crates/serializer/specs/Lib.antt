-- The definitions that this crate's contracts add to those of `spec`.
pub mod ListStep
pub mod Options
pub mod Writers
