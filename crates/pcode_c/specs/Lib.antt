pub mod ReadFor
pub mod ExportFor
