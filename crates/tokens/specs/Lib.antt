pub mod Kinds
pub mod Tokens
