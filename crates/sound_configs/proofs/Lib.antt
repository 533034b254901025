pub mod Bridges
pub mod Serving
