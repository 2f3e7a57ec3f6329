pub mod Bench
pub mod Values
