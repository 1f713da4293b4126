-- The closed form of a plain sheet's text. The laws about it, and about the definitions of `spec`, stand in proofs/.
pub mod Closed
