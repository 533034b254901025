pub mod Edits
pub mod Told
pub use Rattle.batch_limits.proofs.Answering
pub use Rattle.set_search.proofs.Lookups
