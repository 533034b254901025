mod Flat
mod Steps
mod Stores
mod Vectors
