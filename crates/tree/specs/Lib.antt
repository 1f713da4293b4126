-- The definitions that the contracts cite.
pub mod Memory
pub mod Kinds
pub mod Represents
pub mod Accepted
pub mod Attributes
pub mod Nodes
pub mod Siblings
pub mod NodeFields
