pub mod Differences
pub mod Existing
pub mod Hosted
pub mod KeyLaws
pub mod Keys
pub mod Laws
pub mod Slotted
pub mod Placing
pub mod Walks
pub mod Zones
pub use Rattle.record_set.specs.Suffix
pub use Rattle.record_set.specs.Datum
pub use Rattle.record_set.specs.Reasons
pub use Rattle.record_set.specs.Sets
pub use Rattle.record_set.specs.declared.sets.RecordSet as RecordSetRecord
pub use Rattle.record_set.specs.declared.sets.SetKey as SetKeyRecord
pub use Rattle.record_set.specs.Types
pub use Rattle.record_set.specs.RTypeRecord
pub use Rattle.record_set.specs.Order as OrderOfDnsName
pub use Rattle.record_set.specs.OrderLaws
pub use Rattle.record_set.specs.declared.sets.Body as BodyRecord
pub use Rattle.record_set.specs.Sameness
pub use Rattle.record_set.specs.declared.reasons.Reason as ReasonRecord
pub use Rattle.record_set.specs.Labels
pub use Rattle.record_set.specs.Names
pub use Rattle.record_set.specs.Stored
pub use Rattle.record_set.specs.RoutingRecord
