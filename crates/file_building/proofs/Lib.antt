pub mod Gates
mod PartLemmas
pub use Rattle.gate_journal.proofs.AppendLemmas
pub use Rattle.gate_journal.proofs.Opening
pub use Rattle.gate_journal.proofs.Reading
pub use Rattle.gate_journal.proofs.Moments
