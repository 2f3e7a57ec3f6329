pub mod Firsts
pub mod Blanks
pub mod Kept
