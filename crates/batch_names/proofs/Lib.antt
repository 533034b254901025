pub mod Applied
pub mod Deciding
pub mod Filtered
mod Keys
pub mod Rising
pub mod Ruled
pub mod Runs
pub mod Starting
pub mod Values
pub use Rattle.zone_table.proofs.Equation
pub use Rattle.zone_table.proofs.Members
