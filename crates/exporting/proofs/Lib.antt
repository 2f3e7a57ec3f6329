pub mod Entries
pub mod Tabled
pub mod First
pub mod Spotted
pub mod Whole
pub mod Second
pub mod Both
