pub mod Targets
pub mod Bounds
pub mod Lines
