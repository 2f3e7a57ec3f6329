pub mod Letters
pub mod Spellings
pub mod Tables
pub mod Words
