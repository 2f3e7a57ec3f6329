pub mod Grammar
pub mod Reading
pub mod Nets
pub mod Refusals
pub mod Demand3
pub mod Trees
