-- The definitions that the contracts cite.
pub mod Kept
pub mod Runs
pub mod Pipes
pub mod Marked
