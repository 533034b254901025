pub mod Feeds
pub mod Vectors
