pub mod Fields
pub mod Laws
pub mod Reading
pub use Rattle.check_octets.specs.Octets
