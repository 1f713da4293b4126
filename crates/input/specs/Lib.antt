-- The definitions that the contracts cite.
pub mod Fields
pub mod Lead
pub mod Refusals
pub mod Spans
pub mod Scans
pub mod Sound
