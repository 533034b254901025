pub mod Compacting
pub mod Engine
pub mod Laws
pub use Rattle.snapshot_octets.specs.Octets
