pub mod Batched
mod Bounds
pub mod Checked
pub mod Ended
pub mod Left
pub mod Members
pub mod NewParts
pub mod NewSets
pub mod Opened
pub mod Outcomes
pub mod Told
mod Vectors
pub mod Zoning
pub use Rattle.set_reading.proofs.Base
pub use Rattle.set_reading.proofs.Composed
pub use Rattle.set_reading.proofs.Optional
pub use Rattle.set_reading.proofs.Rules
pub use Rattle.set_reading.proofs.WholeOfOctetReading as Whole
pub use Rattle.command_octets.proofs.Among
pub use Rattle.command_octets.proofs.Ordered
pub use Rattle.command_octets.proofs.Lists
pub use Rattle.command_octets.proofs.Places
