pub mod Keyed
pub mod Laws
pub mod Named
pub mod Starts
pub use Rattle.batch_model.specs.Batches
pub use Rattle.batch_model.specs.Rules
pub use Rattle.zone_table.specs.Sets as Zones
pub use Rattle.zone_table.specs.Zones as AllZones
pub use Rattle.zone_table.specs.Slotted
pub use Rattle.zone_table.specs.Changes
pub use Rattle.zone_table.specs.Edits
pub use Rattle.zone_table.specs.Laws as LawsOfZoneTable
pub use Rattle.zone_table.specs.Looking
pub use Rattle.zone_table.specs.declared.edits.ZoneEdit as ZoneEditRecord
