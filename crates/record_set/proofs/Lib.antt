pub mod Firsts
pub mod Times
pub use Rattle.rdata.proofs.Beside
pub use Rattle.rdata.proofs.Depth
pub use Rattle.rdata.proofs.Labels
pub mod Vectors
