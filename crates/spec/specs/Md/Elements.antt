-- The files of `elements/`.
pub mod Blocks
pub mod Image
pub mod Code
pub mod Emphasis
pub mod Link
pub mod Table
pub mod List
