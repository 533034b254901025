pub mod Extending
pub mod Prefix
pub mod Remaining
