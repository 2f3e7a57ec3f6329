pub mod Index
pub mod Labels
