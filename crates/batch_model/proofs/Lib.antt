pub mod Answering
pub mod Staying
pub mod Telling
pub mod Vectors
pub use Rattle.zone_model.proofs.Among
pub use Rattle.zone_model.proofs.Ordered
pub use Rattle.zone_model.proofs.Places
pub use Rattle.zone_model.proofs.Lists
