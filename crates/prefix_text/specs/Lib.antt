pub mod Marks
pub mod Prefixes
pub use Rattle.ip_table.specs.Bits
pub use Rattle.ip_table.specs.Prefixes as PrefixesOfIpTable
pub use Rattle.ip_table.specs.Rows
pub use Rattle.ip_table.specs.AddressOfText
pub use Rattle.ip_table.specs.IpAddressRecord
