pub mod Log
pub mod Contract
