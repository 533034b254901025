pub mod Faults
pub mod Opened
pub mod Source
pub mod Untold
pub use Rattle.octets.specs.Counts
