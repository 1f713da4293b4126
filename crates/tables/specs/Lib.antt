-- The definitions that the contracts cite.
pub mod Rows
pub mod Puts
pub mod Spans
pub mod Columns
pub mod TableSteps
