-- The definitions that the contracts cite.
pub mod Url
pub mod Parsed
pub mod Items
