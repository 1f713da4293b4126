-- The definitions that the contracts cite.
pub mod Stands
pub mod TextStep
pub mod Begun
pub mod FirstElement
pub mod Spots
