pub mod Counting
pub mod Drills
pub mod Leaving
