mod Choices
mod Kept
pub mod Moments
mod Writes
mod Vectors
