pub mod Plain
pub mod Types
pub mod Vectors
