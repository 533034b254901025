mod Bounds
mod Steps
mod Vectors
