pub mod First
pub mod Faults
