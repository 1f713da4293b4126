-- What the proofs of several functions use.
pub mod Linking
pub mod Boundary
pub mod ListNumbers
pub mod Prefixes
pub mod ItemLines
pub mod Values
pub mod Balance
pub mod ItemLeads
pub mod Titles
