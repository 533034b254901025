pub mod Valid
pub use Rattle.batch_model.proofs.Staying
pub use Rattle.batch_model.proofs.Telling
pub use Rattle.batch_model.proofs.Answering
