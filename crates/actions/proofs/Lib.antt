pub mod Numbers
pub mod Arms
pub mod Listed
