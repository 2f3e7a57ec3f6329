pub mod Each
pub mod Trees
pub mod Readings
pub mod Answers
pub mod Counted
pub mod Examples
pub mod Theorems
