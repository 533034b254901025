mod Beginning
mod Pieced
mod Going
pub mod Held
mod Pieces
pub mod Staying
pub mod Told
pub use Rattle.store_model.proofs.Weakening
