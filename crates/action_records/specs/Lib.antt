pub mod Codes
pub mod Fields
pub mod Operands
pub mod Bytes
pub mod Export
