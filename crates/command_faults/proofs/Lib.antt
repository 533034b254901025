pub mod Blocks
pub mod Checks
pub mod Commands
pub mod Long
pub mod Parts
pub mod Told
pub mod Vectors
