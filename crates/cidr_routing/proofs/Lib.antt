pub mod Known
pub mod Once
mod Vectors
pub mod Walk
