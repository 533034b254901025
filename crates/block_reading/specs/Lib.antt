pub mod Blocks
pub mod Laws
pub mod Reading
pub use Rattle.block_octets.specs.Octets
pub use Rattle.block_octets.specs.Bits
pub use Rattle.block_octets.specs.IpAddressRecord
