pub mod Cells
pub mod Chains
pub mod Shape
pub mod Stored
