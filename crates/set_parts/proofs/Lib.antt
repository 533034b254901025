pub mod Fronts
pub mod Labels
pub use Rattle.set_reading.proofs.Counted
