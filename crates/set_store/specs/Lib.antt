pub mod Ends
pub mod Heads
pub mod Index
pub mod Packed
pub mod Policies
pub mod Servers
pub mod Stars
pub mod Stored
pub mod Tags
pub use Rattle.set_scratch.specs.Cells
pub use Rattle.set_scratch.specs.Octets
pub use Rattle.set_scratch.specs.Sets
pub use Rattle.set_scratch.specs.Telling
pub use Rattle.set_scratch.specs.declared.telling.Watch as WatchRecord
pub use Rattle.set_search.specs.Found
pub use Rattle.set_search.specs.Keys
pub use Rattle.set_search.specs.Laws
pub use Rattle.set_search.specs.Slotted
pub use Rattle.set_search.specs.Placing
pub use Rattle.set_search.specs.Zones
pub use Rattle.set_search.specs.Sets as SetsOfRecordSet
pub use Rattle.set_search.specs.RecordSetRecord
pub use Rattle.set_search.specs.SetKeyRecord
pub use Rattle.set_scratch.specs.LawsOfSetReading
pub use Rattle.set_search.specs.Existing
pub use Rattle.set_search.specs.Hosted
pub use Rattle.set_search.specs.BodyRecord
pub use Rattle.set_search.specs.RTypeRecord
pub use Rattle.set_search.specs.OrderOfDnsName as Order
pub use Rattle.set_search.specs.OrderLaws
pub use Rattle.set_search.specs.Suffix
pub use Rattle.set_search.specs.RoutingRecord
pub use Rattle.set_search.specs.Bounds
pub use Rattle.set_search.specs.Stops
pub use Rattle.set_search.specs.declared.bounds.Bound as BoundRecord
pub use Rattle.set_search.specs.Types
pub use Rattle.set_search.specs.Labels
pub use Rattle.set_scratch.specs.Bodies
pub use Rattle.set_scratch.specs.Holding
pub use Rattle.set_search.specs.Walks
pub use Rattle.set_search.specs.Reasons
pub use Rattle.set_scratch.specs.Spelling
