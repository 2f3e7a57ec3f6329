pub mod Bench
pub mod Prefixes
pub mod Range
pub mod WordKinds
