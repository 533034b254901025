pub mod Listing
pub mod Vectors
