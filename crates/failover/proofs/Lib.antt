mod Vectors
pub mod Walk
