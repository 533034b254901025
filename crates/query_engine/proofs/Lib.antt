pub mod Added
pub mod Finishing
pub mod Following
pub mod Named
pub mod Stepping
pub mod Typed
