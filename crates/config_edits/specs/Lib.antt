pub mod Laws
pub use Rattle.config_model.specs.Configs
pub use Rattle.zone_table.specs.Changes
pub use Rattle.zone_table.specs.Zones
pub use Rattle.zone_table.specs.Edits
pub use Rattle.zone_table.specs.Counted
pub use Rattle.zone_table.specs.FoundZones as Found
pub use Rattle.zone_table.specs.Looking
pub use Rattle.zone_table.specs.Sums
pub use Rattle.zone_table.specs.Tables
pub use Rattle.zone_table.specs.declared.edits.ZoneEdit as ZoneEditRecord
pub use Rattle.zone_table.specs.declared.refs.Delta as DeltaRecord
pub use Rattle.config_model.specs.Applying
pub use Rattle.config_model.specs.Batches
pub use Rattle.config_model.specs.NewZones
pub use Rattle.config_model.specs.Sound
pub use Rattle.config_model.specs.declared.refusals.Made as MadeRecord
pub use Rattle.config_model.specs.declared.refusals.Refusal as RefusalRecord
pub use Rattle.config_model.specs.CommandRecord
pub use Rattle.zone_table.specs.Holding
pub use Rattle.zone_table.specs.WatchRecord
pub use Rattle.config_model.specs.OctetsOfSetOctets as Octets
pub use Rattle.config_model.specs.Differences
pub use Rattle.config_model.specs.Hosted
pub use Rattle.config_model.specs.Slotted
pub use Rattle.config_model.specs.Zones as ZonesOfZoneModel
pub use Rattle.config_model.specs.RecordSetRecord
pub use Rattle.zone_table.specs.Laws as LawsOfZoneTable
pub use Rattle.config_model.specs.Laws as LawsOfConfigModel
pub use Rattle.config_model.specs.Telling
pub use Rattle.config_model.specs.Told
pub use Rattle.config_model.specs.declared.refusals.InputReason as InputReasonRecord
pub use Rattle.config_model.specs.Others
pub use Rattle.zone_table.specs.SetRefRecord
pub use Rattle.config_model.specs.BatchRecord
pub use Rattle.config_model.specs.Rules
pub use Rattle.config_model.specs.OctetsOfCommandOctets
pub use Rattle.config_model.specs.BatchRefusalRecord
