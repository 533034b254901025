pub mod Octets
pub use Rattle.record_set.specs.Texts
pub use Rattle.record_set.specs.ContinentRecord
pub use Rattle.record_set.specs.RoleRecord
pub use Rattle.record_set.specs.PlaceRecord
pub use Rattle.record_set.specs.RoutingRecord
pub use Rattle.record_set.specs.Values
pub use Rattle.record_set.specs.declared.sets.Body as BodyRecord
pub use Rattle.record_set.specs.declared.sets.RecordSet as RecordSetRecord
pub use Rattle.record_set.specs.Datum
pub use Rattle.record_set.specs.Gives
pub use Rattle.record_set.specs.WireFaultRecord
pub use Rattle.record_set.specs.declared.reasons.Reason as ReasonRecord
pub use Rattle.record_set.specs.Sets
pub use Rattle.record_set.specs.ValueOfText
pub use Rattle.record_set.specs.ValueFaultRecord
pub use Rattle.record_set.specs.Reasons
pub use Rattle.record_set.specs.declared.sets.SetKey as SetKeyRecord
pub use Rattle.record_set.specs.Written
