pub mod Runs
pub mod Ends
