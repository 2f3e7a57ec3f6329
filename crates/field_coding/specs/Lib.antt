pub mod Coding
pub mod Escapes
