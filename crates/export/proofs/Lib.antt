pub mod Accepted
pub mod Answers
pub mod Theorems
