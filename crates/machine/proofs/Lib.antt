pub mod Moves
pub mod Runs
pub mod Complete
pub mod Stops
pub mod Depth
