pub mod Bytes
pub mod Ends
