pub mod Adding
pub mod Asking
pub use Rattle.zone_lookup.specs.Reply
pub use Rattle.zone_lookup.specs.Sections
pub use Rattle.reply_records.specs.Groups
pub use Rattle.zone_lookup.specs.Served
pub use Rattle.zone_lookup.specs.Edits
pub use Rattle.zone_lookup.specs.Looking
pub use Rattle.zone_lookup.specs.Tables
pub use Rattle.zone_lookup.specs.ZonesOfZoneList as Zones
pub use Rattle.zone_lookup.specs.ZoneEditRecord
pub use Rattle.zone_lookup.specs.DeltaRecord
