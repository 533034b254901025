pub mod AppendLemmas
pub mod Bytes
pub mod Closings
pub mod Lists
pub mod Opening
pub mod Reading
mod Vectors
pub use Rattle.r53_disk.proofs.Moments
