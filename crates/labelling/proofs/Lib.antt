pub mod Arranging
pub mod Turns
pub mod Names
pub mod Over
