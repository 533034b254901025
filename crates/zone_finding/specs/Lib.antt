pub mod Counted
pub mod Looking
pub mod Stored
