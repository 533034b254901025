pub mod Eight
pub mod Vectors
