pub mod Among
pub mod Long
pub mod Parts
pub mod Snapshots
pub mod Told
pub mod Vectors
