pub mod Octets
pub mod Outcomes
pub mod Standing
pub mod Vectors
