pub mod Between
pub mod Naming
pub mod Rises
