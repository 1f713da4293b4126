-- The definitions that the contracts cite.
pub mod Writes
pub mod Class
pub mod Trimmed
pub mod Lifted
pub mod Source
pub mod Marks
pub mod Flow
pub mod Texts
