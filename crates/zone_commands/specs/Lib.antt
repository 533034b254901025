pub use Rattle.config_zones.specs.Configured
pub use Rattle.config_zones.specs.Edited as Laws
pub use Rattle.config_zones.specs.Edits
pub use Rattle.config_zones.specs.Tables
pub use Rattle.config_zones.specs.Zones
pub use Rattle.config_zones.specs.ZoneEditRecord
pub use Rattle.config_zones.specs.DeltaRecord
pub use Rattle.config_zones.specs.CommandRecord
pub use Rattle.config_zones.specs.BatchRecord
pub use Rattle.config_zones.specs.Configs
pub use Rattle.config_zones.specs.Sound
pub use Rattle.config_zones.specs.MadeRecord
pub use Rattle.config_zones.specs.RefusalRecord
pub use Rattle.config_zones.specs.OctetsOfCommandOctets as Octets
