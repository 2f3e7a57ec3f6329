pub mod Naming
pub mod Putting
