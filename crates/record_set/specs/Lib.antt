pub mod Laws
pub mod Reasons
pub mod Sameness
pub mod Sets
pub mod Values
pub use Rattle.rdata.specs.Datum
pub use Rattle.rdata.specs.Types
pub use Rattle.rdata.specs.RTypeRecord
pub use Rattle.rdata.specs.Labels
pub use Rattle.routing.specs.Texts
pub use Rattle.routing.specs.declared.policies.Continent as ContinentRecord
pub use Rattle.routing.specs.declared.policies.Place as PlaceRecord
pub use Rattle.routing.specs.declared.policies.Role as RoleRecord
pub use Rattle.routing.specs.declared.policies.Routing as RoutingRecord
pub use Rattle.rdata.specs.Order
pub use Rattle.rdata.specs.OrderLaws
pub use Rattle.rdata.specs.Suffix
pub use Rattle.rdata.specs.Gives
pub use Rattle.rdata.specs.declared.faults.WireFault as WireFaultRecord
pub use Rattle.rdata.specs.ValueOfText
pub use Rattle.rdata.specs.declared.faults.ValueFault as ValueFaultRecord
pub use Rattle.rdata.specs.Names
pub use Rattle.rdata.specs.Stored
pub use Rattle.rdata.specs.Written
