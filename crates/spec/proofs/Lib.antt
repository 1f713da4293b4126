-- General lemmas, which mention no writer.
pub mod Digits
pub mod ListNumbers
pub mod Order
pub mod Tests
