pub mod Input
pub mod Laws
pub mod Turns
pub use Rattle.geo_latency.specs.Tables
pub use Rattle.line_splitting.specs.Lines
pub use Rattle.octets.specs.Counts
