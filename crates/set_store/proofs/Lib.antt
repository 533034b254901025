mod Alike
mod Policies
mod Behind
pub mod Named
pub mod Lists
pub mod Chains
pub mod Keeping
pub mod More
pub mod Counts
pub mod Fronts
pub mod Puts
pub mod Beside
pub mod Eights
pub mod Reading
pub mod Takes
pub mod Back
pub mod Replaces
pub mod Whole
pub use Rattle.set_search.proofs.Among
pub use Rattle.set_search.proofs.ListsOfZoneModel
pub use Rattle.set_search.proofs.Below
pub use Rattle.set_search.proofs.Lookups
pub use Rattle.set_search.proofs.Ordered
pub use Rattle.set_search.proofs.Staying
pub use Rattle.set_search.proofs.Places
