pub mod Bridges
pub mod Choice
pub mod Laws
pub mod Policies
pub use Rattle.geo_latency.specs.Places
pub use Rattle.geo_latency.specs.Regions
pub use Rattle.geo_latency.specs.declared.location.Location as LocationRecord
pub use Rattle.geo_latency.specs.declared.tables.Tables as TablesRecord
pub use Rattle.cidr_routing.specs.Stored
