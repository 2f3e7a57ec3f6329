pub mod Reading
pub mod Scratch
