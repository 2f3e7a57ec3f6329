mod Bench
pub mod Starts
pub mod Rows
pub mod Valid
pub mod Front
