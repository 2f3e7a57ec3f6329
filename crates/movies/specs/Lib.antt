pub mod Movie
pub mod Strings
pub mod Meaning
pub mod Sites
pub mod Counts
