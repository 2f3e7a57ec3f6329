mod Bench
pub mod Steps
pub mod Rows
pub mod Theorems
pub mod Sound
