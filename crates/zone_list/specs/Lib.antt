pub mod Apexes
pub mod Changes
pub mod Found
pub mod Kept
pub mod Steps
pub mod Zones
pub use Rattle.zone_changes.specs.Placing
pub use Rattle.zone_changes.specs.Zones as Sets
pub use Rattle.zone_changes.specs.Slotted
pub use Rattle.zone_changes.specs.Coming
pub use Rattle.zone_changes.specs.Sums
pub use Rattle.zone_changes.specs.Orders
pub use Rattle.zone_changes.specs.Index
pub use Rattle.zone_changes.specs.Stars
pub use Rattle.zone_changes.specs.Stored
pub use Rattle.zone_changes.specs.declared.sums.Sums as SumsRecord
pub use Rattle.zone_changes.specs.Telling
pub use Rattle.zone_changes.specs.WatchRecord
pub use Rattle.zone_changes.specs.Bounds
pub use Rattle.zone_changes.specs.Found as FoundOfSetSearch
pub use Rattle.zone_changes.specs.Stops
pub use Rattle.zone_changes.specs.BoundRecord
pub use Rattle.zone_changes.specs.Octets
pub use Rattle.zone_changes.specs.Existing
pub use Rattle.zone_changes.specs.Hosted
pub use Rattle.zone_changes.specs.Sets as SetsOfRecordSet
pub use Rattle.zone_changes.specs.RecordSetRecord
pub use Rattle.zone_changes.specs.SetKeyRecord
pub use Rattle.zone_changes.specs.Types
pub use Rattle.zone_changes.specs.RTypeRecord
pub use Rattle.zone_changes.specs.Labels
pub use Rattle.zone_changes.specs.Suffix
pub use Rattle.zone_changes.specs.Keys
pub use Rattle.zone_changes.specs.Bodies
pub use Rattle.zone_changes.specs.Holding
pub use Rattle.zone_changes.specs.Walks
pub use Rattle.zone_changes.specs.SetsOfSetReading
pub use Rattle.zone_changes.specs.Reasons
pub use Rattle.zone_changes.specs.BodyRecord
pub use Rattle.zone_changes.specs.Policies
pub use Rattle.zone_changes.specs.Spelling
