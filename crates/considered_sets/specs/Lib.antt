pub mod Considered
pub mod Healthy
pub mod Laws
