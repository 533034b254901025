pub mod Laws
pub mod Memory
pub mod Network
pub mod Script
pub mod Streams
pub use Rattle.octets.specs.Counts
