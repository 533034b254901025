pub mod Bridged
pub mod Within
mod Vectors
