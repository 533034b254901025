pub use Rattle.batch_model.proofs.Ordered
pub use Rattle.batch_model.proofs.Among
pub use Rattle.batch_model.proofs.Lists
pub use Rattle.batch_model.proofs.Places
