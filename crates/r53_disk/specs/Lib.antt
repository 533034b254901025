pub mod Calls
pub mod Disk
pub mod Images
pub mod Laws
pub mod Memory
pub mod Synced
pub use Rattle.octets.specs.Counts
