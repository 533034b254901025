pub mod Octets
pub use Rattle.octet_reading.specs.Readers
pub use Rattle.octet_reading.specs.Reading
pub use Rattle.octet_reading.specs.Rules
pub use Rattle.octet_reading.specs.Labels
