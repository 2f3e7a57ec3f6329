pub mod Putting
pub mod Escapes
