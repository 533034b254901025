pub mod Bodies
pub mod Found
pub mod Held
pub mod Named
pub mod Placed
pub mod Told
pub use Rattle.set_parts.proofs.Fronts
