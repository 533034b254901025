pub mod Items
pub mod Vectors
