pub mod Integers
pub mod Lists
pub mod Ranges
pub mod Rest
pub mod Tabulate
pub mod Variants
