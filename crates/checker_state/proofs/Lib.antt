pub mod Fifty
pub mod Rows
pub mod Standing
mod Vectors
