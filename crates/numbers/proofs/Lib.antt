pub mod Integers
pub mod Doubles
pub mod Nearest
