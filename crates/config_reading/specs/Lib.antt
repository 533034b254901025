pub mod Reading
pub use Rattle.config_zones.specs.Sound
pub use Rattle.config_zones.specs.Configured
pub use Rattle.snapshot_reading.specs.Octets
pub use Rattle.snapshot_reading.specs.declared.faults.SnapshotFault as SnapshotFaultRecord
pub use Rattle.snapshot_reading.specs.LawsOfSnapshotOctets as Laws
