-- The definitions that the contracts cite.
pub mod Words
pub mod Blocks
pub mod Verbatim
pub mod Layout
