pub mod Tables
pub mod Operands
pub mod Flags
