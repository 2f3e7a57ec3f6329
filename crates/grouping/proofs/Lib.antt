pub mod Keys
mod Counts
mod Parts
mod Calls
