pub mod Counts
pub mod Fair
mod Vectors
pub mod Walk
pub mod Whole
