pub mod Idents
pub mod Judged
pub mod Laws
pub mod Listing
pub mod Order
pub mod Places
pub use Rattle.ip_table.specs.Prefixes
pub use Rattle.ip_table.specs.Rows
pub use Rattle.routing.specs.Texts
pub use Rattle.ip_table.specs.IpAddressRecord
pub use Rattle.ip_table.specs.Location
pub use Rattle.ip_table.specs.Laws as LawsOfIpTable
pub use Rattle.ip_table.specs.Bits
