pub mod Hosted
pub mod Lines
mod Vectors
