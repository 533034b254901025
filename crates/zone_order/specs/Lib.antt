pub mod Orders
pub use Rattle.set_store.specs.Slotted
pub use Rattle.set_store.specs.Servers
pub use Rattle.set_store.specs.Stars
pub use Rattle.set_store.specs.Stored
pub use Rattle.set_store.specs.Telling
pub use Rattle.set_store.specs.Index
pub use Rattle.set_store.specs.WatchRecord
pub use Rattle.set_store.specs.LawsOfSetReading as Laws
pub use Rattle.set_store.specs.Found
pub use Rattle.set_store.specs.Octets
pub use Rattle.set_store.specs.Placing
pub use Rattle.set_store.specs.SetsOfRecordSet as Sets
pub use Rattle.set_store.specs.RecordSetRecord
pub use Rattle.set_store.specs.SetKeyRecord
pub use Rattle.set_store.specs.Cells
pub use Rattle.set_store.specs.Existing
pub use Rattle.set_store.specs.Hosted
pub use Rattle.set_store.specs.Keys
pub use Rattle.set_store.specs.Zones
pub use Rattle.set_store.specs.BodyRecord
pub use Rattle.set_store.specs.RTypeRecord
pub use Rattle.set_store.specs.Order
pub use Rattle.set_store.specs.OrderLaws
pub use Rattle.set_store.specs.Suffix
pub use Rattle.set_store.specs.RoutingRecord
pub use Rattle.set_store.specs.Bounds
pub use Rattle.set_store.specs.Stops
pub use Rattle.set_store.specs.BoundRecord
pub use Rattle.set_store.specs.Types
pub use Rattle.set_store.specs.Labels
pub use Rattle.set_store.specs.Bodies
pub use Rattle.set_store.specs.Holding
pub use Rattle.set_store.specs.Walks
pub use Rattle.set_store.specs.Sets as SetsOfSetReading
pub use Rattle.set_store.specs.Reasons
pub use Rattle.set_store.specs.Policies
pub use Rattle.set_store.specs.Spelling
