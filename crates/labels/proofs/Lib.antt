pub mod Hashing
pub mod Linking
pub mod Placing
pub mod Same
pub mod Searching
pub mod Turns
