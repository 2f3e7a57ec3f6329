pub mod Signed
pub mod Worth
