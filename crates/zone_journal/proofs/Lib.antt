mod Appends
mod Openings
mod PairLemmas
mod Pieces
mod Sides
pub mod Stores
mod Syncs
mod Vectors
