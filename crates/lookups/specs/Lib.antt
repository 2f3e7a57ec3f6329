pub mod Targets
pub mod Deltas
