-- What the proofs of several functions use.
pub mod TableRows
pub mod TableCells
pub mod RowTests
pub mod Putting
pub mod Gathering
pub mod Cutting
pub mod Columns
pub mod Lines
pub mod Tables
pub mod Scratch
pub mod TableTexts
