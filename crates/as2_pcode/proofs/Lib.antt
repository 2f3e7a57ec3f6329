pub mod Rows
pub mod Kept
pub mod Handed
pub mod Exactly
pub mod Theorems
