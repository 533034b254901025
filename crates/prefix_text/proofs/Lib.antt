pub mod Addresses
mod Vectors
