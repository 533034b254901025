pub mod Answering
pub mod Pieces
pub mod Turns
pub mod Vectors
pub mod Windows
