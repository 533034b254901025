pub mod Together
pub mod Vectors
