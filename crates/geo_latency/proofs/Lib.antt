pub mod Cuts
pub mod Fields
pub mod Head
mod LineVectors
pub mod Listed
pub mod Order
pub mod Padding
pub mod Placed
pub mod Prefixes
pub mod Ranks
mod Vectors
pub mod Wanted
