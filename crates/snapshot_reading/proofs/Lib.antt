pub mod Finding
pub mod Joining
pub mod Leaving
pub mod Whole
