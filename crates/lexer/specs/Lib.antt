pub mod Lexing
pub mod Scratch
pub mod Spans
