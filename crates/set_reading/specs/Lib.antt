pub mod Gives
pub mod Laws
pub mod Reading
pub mod Sets
pub use Rattle.set_fields.specs.Octets
pub use Rattle.set_fields.specs.Sets as SetsOfRecordSet
pub use Rattle.set_fields.specs.RecordSetRecord
pub use Rattle.set_fields.specs.Reading as ReadingOfOctetReading
pub use Rattle.set_fields.specs.Types
pub use Rattle.set_fields.specs.RTypeRecord
pub use Rattle.set_fields.specs.Labels
pub use Rattle.set_fields.specs.NamesOfDnsName as Names
pub use Rattle.set_fields.specs.PlaceRecord
pub use Rattle.set_fields.specs.RoutingRecord
pub use Rattle.set_fields.specs.Values
pub use Rattle.set_fields.specs.BodyRecord
pub use Rattle.set_fields.specs.Datum
pub use Rattle.set_fields.specs.Layout
pub use Rattle.set_fields.specs.Stored
pub use Rattle.set_fields.specs.Wire
pub use Rattle.set_fields.specs.Names as NamesOfOctetReading
pub use Rattle.set_fields.specs.Rules
pub use Rattle.set_fields.specs.Reasons
pub use Rattle.set_fields.specs.SetKeyRecord
pub use Rattle.set_fields.specs.LawsOfDnsName
pub use Rattle.set_fields.specs.Order
pub use Rattle.set_fields.specs.OrderLaws
pub use Rattle.set_fields.specs.Wildcard
pub use Rattle.set_fields.specs.Numbers
pub use Rattle.set_fields.specs.Texts
pub use Rattle.set_fields.specs.Layouts
pub use Rattle.set_fields.specs.Readers
pub use Rattle.set_fields.specs.StopRecord
pub use Rattle.set_fields.specs.ReasonRecord
pub use Rattle.set_fields.specs.Written
