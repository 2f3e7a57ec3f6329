pub mod Places
pub mod Characters
