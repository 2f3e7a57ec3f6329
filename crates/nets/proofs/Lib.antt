pub mod Bounds
pub mod Turns
