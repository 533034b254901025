pub mod Counting
pub mod Ids
pub mod InTurn
pub mod Kept
pub mod Used
mod Vectors
