pub mod Asked
pub mod Export
pub mod Parts
