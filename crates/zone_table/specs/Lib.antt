pub mod Apexes
pub mod Edits
pub mod Laws
pub mod Needs
pub mod Tables
pub use Rattle.zone_list.specs.Existing
pub use Rattle.zone_list.specs.Slotted
pub use Rattle.zone_list.specs.Sets
pub use Rattle.zone_list.specs.Telling
pub use Rattle.zone_list.specs.Bounds
pub use Rattle.zone_list.specs.FoundOfSetSearch as Found
pub use Rattle.zone_list.specs.Sums
pub use Rattle.zone_list.specs.Changes
pub use Rattle.zone_list.specs.Found as FoundZones
pub use Rattle.zone_list.specs.Zones
pub use Rattle.zone_list.specs.declared.refs.SetRef as SetRefRecord
pub use Rattle.zone_list.specs.BoundRecord
pub use Rattle.zone_list.specs.Keys
pub use Rattle.zone_list.specs.Placing
pub use Rattle.zone_list.specs.SetsOfRecordSet
pub use Rattle.zone_list.specs.RecordSetRecord
pub use Rattle.zone_list.specs.SetKeyRecord
pub use Rattle.zone_list.specs.Bodies
pub use Rattle.zone_list.specs.Holding
pub use Rattle.zone_list.specs.Walks
pub use Rattle.zone_list.specs.WatchRecord
pub use Rattle.zone_list.specs.SetsOfSetReading
pub use Rattle.zone_list.specs.Octets
pub use Rattle.zone_list.specs.Reasons
pub use Rattle.zone_list.specs.BodyRecord
pub use Rattle.cidr_routing.specs.Choice
pub use Rattle.zone_list.specs.Policies
pub use Rattle.zone_list.specs.Spelling
pub use Rattle.zone_finding.specs.Counted
pub use Rattle.zone_finding.specs.Looking
pub use Rattle.zone_finding.specs.Stored
pub use Rattle.zone_finding.specs.declared.refs.Group as GroupRecord
