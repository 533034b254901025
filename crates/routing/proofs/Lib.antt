pub mod Padding
pub mod Vectors
