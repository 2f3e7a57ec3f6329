pub mod Sizes
pub mod Blocks
pub mod Actions
pub mod Levels
pub mod Jumps
pub mod Turns
