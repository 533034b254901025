mod Faults
mod Following
mod Kept
mod Made
mod Opened
mod Readings
mod Shapes
mod Sides
mod Standing
mod Taken
mod Vectors
pub mod Weakening
