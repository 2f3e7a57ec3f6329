pub mod There
pub mod Turns
pub mod Bits
