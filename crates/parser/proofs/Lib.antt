pub mod Leaves
pub mod BlockLaws
pub mod TryLaws
pub mod LevelLaws
pub mod Whole
