pub mod Counted
pub mod Vectors
