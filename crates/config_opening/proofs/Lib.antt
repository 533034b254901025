mod Opened
mod Replayed
pub use Rattle.config_journal.proofs.Weakening
