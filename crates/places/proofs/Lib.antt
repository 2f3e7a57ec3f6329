pub mod Lines
pub mod Characters
pub mod Theorems
