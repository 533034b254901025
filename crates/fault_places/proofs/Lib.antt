pub mod Composed
pub mod Leaves
pub mod Places
pub mod Sets
pub mod Steps
pub mod Texts
pub mod Values
pub mod Vectors
