pub mod CheckVectors
pub mod CollectionVectors
pub mod Commands
pub mod Fields
pub mod Vectors
pub use Rattle.block_reading.proofs.Prefixes
pub use Rattle.block_reading.proofs.Texts
pub use Rattle.check_reading.proofs.Commands as CommandsOfCheckReading
pub use Rattle.check_reading.proofs.Parts as PartsOfCheckReading
