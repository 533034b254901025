pub mod Choosing
pub mod Descending
pub mod GroupSizes
pub mod Members
pub mod Nearby
pub mod Noted
mod Pieces
mod Policies
mod LeastSlow
mod Front
mod Settled
pub mod Targets
pub use Rattle.zone_table.proofs.Listing
pub use Rattle.zone_table.proofs.Looked
pub use Rattle.zone_table.proofs.Members as MembersOfZoneList
pub use Rattle.zone_table.proofs.Naming
pub use Rattle.zone_table.proofs.Below
pub use Rattle.answer_model.proofs.Among
pub use Rattle.answer_model.proofs.Lists as ListsOfZoneModel
