pub mod Subnets
pub mod Unmet
pub mod Vectors
