pub mod Trees
pub mod Tables
pub mod Told
