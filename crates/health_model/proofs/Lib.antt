pub mod Changing
pub mod Listed
pub mod Local
pub mod Members
pub mod Paths
pub mod Recursion
pub mod Reported
pub mod Working
mod Vectors
