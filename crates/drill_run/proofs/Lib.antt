pub mod Arms
pub mod Chain
pub mod Healthy
pub mod Making
pub mod Steps
mod Vectors
