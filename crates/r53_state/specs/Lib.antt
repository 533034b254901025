pub mod Snapshots
pub mod States
pub mod Steps
pub use Rattle.check_commands.specs.Applying
pub use Rattle.check_commands.specs.Laws
pub use Rattle.config_reading.specs.Reading
pub use Rattle.zone_commands.specs.Configured
pub use Rattle.config_reading.specs.Octets
pub use Rattle.zone_commands.specs.Configs
pub use Rattle.zone_commands.specs.Sound
pub use Rattle.zone_commands.specs.MadeRecord
pub use Rattle.zone_commands.specs.RefusalRecord
pub use Rattle.zone_commands.specs.Octets as OctetsOfCommandOctets
pub use Rattle.zone_commands.specs.CommandRecord
pub use Rattle.config_reading.specs.SnapshotFaultRecord
