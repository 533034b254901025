pub mod Few
pub mod Held
pub mod Picks
pub mod Places
pub mod Pieces
pub mod Regions
pub mod Shapes
pub mod Sound
pub mod Told
mod Vectors
pub mod Walks
pub mod Written
