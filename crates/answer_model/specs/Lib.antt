pub mod Clients
pub mod Descent
pub mod Laws
pub mod Location
pub mod Names
pub mod Records
pub mod Reply
pub mod Sections
pub mod Zones
pub use Rattle.choice_model.specs.Choice
pub use Rattle.choice_model.specs.Laws as LawsOfChoiceModel
pub use Rattle.choice_model.specs.Policies
pub use Rattle.choice_model.specs.Places
pub use Rattle.choice_model.specs.Regions
pub use Rattle.choice_model.specs.Stored
pub use Rattle.choice_model.specs.TablesRecord
pub use Rattle.zone_model.specs.Existing
pub use Rattle.zone_model.specs.Hosted
pub use Rattle.zone_model.specs.Keys
pub use Rattle.zone_model.specs.Slotted
pub use Rattle.zone_model.specs.Zones as ZonesOfZoneModel
pub use Rattle.zone_model.specs.Sets
pub use Rattle.zone_model.specs.RecordSetRecord
