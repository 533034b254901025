pub mod Commands
pub mod Prefixes
pub mod Texts
