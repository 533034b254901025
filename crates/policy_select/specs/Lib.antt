pub mod Groups
pub mod Members
pub mod Nearby
pub mod Rules
pub mod Seen
pub mod Selecting
pub mod Soonest
pub use Rattle.answer_model.specs.Descent
pub use Rattle.answer_model.specs.Clients
pub use Rattle.zone_table.specs.Looking
pub use Rattle.zone_table.specs.FoundZones as Found
pub use Rattle.zone_table.specs.SetRefRecord
pub use Rattle.zone_table.specs.Zones
pub use Rattle.zone_table.specs.GroupRecord
pub use Rattle.answer_model.specs.Laws
pub use Rattle.answer_model.specs.Names
pub use Rattle.answer_model.specs.Sections
pub use Rattle.answer_model.specs.Zones as ZonesOfAnswerModel
pub use Rattle.zone_table.specs.Found as FoundOfSetSearch
pub use Rattle.zone_table.specs.BoundRecord
pub use Rattle.answer_model.specs.Existing
pub use Rattle.answer_model.specs.Hosted
pub use Rattle.answer_model.specs.Keys
pub use Rattle.answer_model.specs.Slotted
pub use Rattle.answer_model.specs.ZonesOfZoneModel
pub use Rattle.answer_model.specs.Sets
pub use Rattle.answer_model.specs.RecordSetRecord
pub use Rattle.answer_model.specs.Records
pub use Rattle.zone_table.specs.Bodies
pub use Rattle.zone_table.specs.Holding
pub use Rattle.answer_model.specs.Location
pub use Rattle.answer_model.specs.Reply
pub use Rattle.answer_model.specs.declared.used.Used as UsedRecord
pub use Rattle.zone_table.specs.Changes
pub use Rattle.zone_table.specs.Tables
pub use Rattle.zone_table.specs.Telling
pub use Rattle.zone_table.specs.Edits
pub use Rattle.zone_table.specs.declared.edits.ZoneEdit as ZoneEditRecord
pub use Rattle.zone_table.specs.declared.refs.Delta as DeltaRecord
