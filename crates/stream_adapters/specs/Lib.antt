pub mod Reading
pub mod Writing
pub use Rattle.octets.specs.Counts
