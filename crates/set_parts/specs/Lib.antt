pub mod Heads
pub mod Laws
pub mod Passing
pub use Rattle.set_reading.specs.Laws as LawsOfSetReading
pub use Rattle.set_reading.specs.Reading
pub use Rattle.set_reading.specs.Sets
pub use Rattle.set_reading.specs.Octets
pub use Rattle.set_reading.specs.Values
pub use Rattle.set_reading.specs.BodyRecord
pub use Rattle.set_reading.specs.RecordSetRecord
pub use Rattle.set_reading.specs.SetsOfRecordSet
pub use Rattle.set_reading.specs.SetKeyRecord
pub use Rattle.set_reading.specs.Datum
pub use Rattle.set_reading.specs.Layout
pub use Rattle.set_reading.specs.Types
pub use Rattle.set_reading.specs.RTypeRecord
pub use Rattle.set_reading.specs.Labels
pub use Rattle.set_reading.specs.Names
pub use Rattle.set_reading.specs.Stored
pub use Rattle.set_reading.specs.Wire
pub use Rattle.set_reading.specs.RoutingRecord
pub use Rattle.set_reading.specs.Gives
pub use Rattle.set_reading.specs.declared.faults.ReadFault as ReadFaultRecord
pub use Rattle.set_reading.specs.NamesOfOctetReading
pub use Rattle.set_reading.specs.Rules
