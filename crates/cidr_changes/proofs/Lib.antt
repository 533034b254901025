pub mod Begun
pub mod Fine
pub mod Gather
pub mod Keeping
pub mod Members
pub mod Named
pub mod Placing
pub mod Rising
pub mod Spots
pub mod Told
mod Vectors
