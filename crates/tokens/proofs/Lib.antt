pub mod Arms
pub mod Raw
pub mod Words
pub mod Unclosed
pub mod Places
