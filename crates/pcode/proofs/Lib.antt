pub mod Deltas
pub mod Swf19
