pub mod Between
pub mod Ending
