pub mod Plans
pub mod Machine
pub mod Depth
