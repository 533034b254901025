pub mod Flags
pub mod InTurn
pub mod Places
mod Vectors
