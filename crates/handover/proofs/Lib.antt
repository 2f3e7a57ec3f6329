pub mod Rows
pub mod Handing
