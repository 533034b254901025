pub mod Laws
pub mod Parts
pub mod Places
pub use Rattle.snapshot_octets.specs.Laws as LawsOfSnapshotOctets
pub use Rattle.snapshot_octets.specs.Octets
pub use Rattle.snapshot_octets.specs.Reading
