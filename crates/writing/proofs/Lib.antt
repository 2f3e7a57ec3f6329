pub mod Gather
pub mod Turns
