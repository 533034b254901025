pub mod Link
pub mod Peers
pub use Rattle.octets.specs.Counts
