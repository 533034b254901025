pub mod Chosen
pub mod Cyclic
pub mod Eight
pub mod Noted
mod Vectors
