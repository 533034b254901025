mod Followed
mod Looked
mod Moves
mod Sums
mod Walked
pub use Rattle.config_zones.proofs.Told
pub use Rattle.config_zones.proofs.Zoning
