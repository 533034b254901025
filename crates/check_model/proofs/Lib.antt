pub mod Found
pub mod Kept
pub mod Members
pub mod Told
pub mod Walks
mod Vectors
