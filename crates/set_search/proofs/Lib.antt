pub mod Below
pub mod Beside
pub mod Filters
pub mod Lookups
pub mod Together
pub mod Typed
pub use Rattle.zone_model.proofs.Ordered
pub use Rattle.zone_model.proofs.Beside as BesideOfDnsName
pub use Rattle.zone_model.proofs.Depth
pub use Rattle.zone_model.proofs.Labels
pub use Rattle.zone_model.proofs.Among
pub use Rattle.zone_model.proofs.Lists as ListsOfZoneModel
pub use Rattle.zone_model.proofs.Staying
pub use Rattle.zone_model.proofs.Places
