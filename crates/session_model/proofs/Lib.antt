pub mod Single
pub mod Vectors
