pub mod Found
pub mod Positions
pub mod Levels
pub mod Accepted
pub mod Actions
