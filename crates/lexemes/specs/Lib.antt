pub mod Lexemes
pub mod Operands
pub mod Events
