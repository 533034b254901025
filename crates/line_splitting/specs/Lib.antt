pub mod Judging
pub mod Lines
pub mod Reading
pub mod Steps
pub mod Waiting
pub use Rattle.octets.specs.Counts
pub use Rattle.r53_io.specs.Streams
