pub mod Fields
mod Short
pub mod Sound
pub mod Told
pub mod Vectors
