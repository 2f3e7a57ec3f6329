pub mod Fills
pub mod Cut
pub mod Hand
