pub mod Named
pub mod Made
