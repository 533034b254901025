pub mod Changed
pub mod Changes
pub mod Gathered
pub mod Laws
pub mod Refusals
pub use Rattle.cidr_blocks.specs.Idents
pub use Rattle.cidr_blocks.specs.Listing
pub use Rattle.cidr_blocks.specs.Order
pub use Rattle.cidr_blocks.specs.Places
pub use Rattle.cidr_blocks.specs.Prefixes
pub use Rattle.cidr_blocks.specs.Texts
pub use Rattle.cidr_blocks.specs.declared.places.CidrLocation as CidrLocationRecord
pub use Rattle.cidr_blocks.specs.declared.places.Collection as CollectionRecord
pub use Rattle.cidr_blocks.specs.Location
pub use Rattle.cidr_blocks.specs.Rows as RowsOfIpTable
pub use Rattle.cidr_blocks.specs.IpAddressRecord
pub use Rattle.cidr_blocks.specs.LawsOfIpTable
pub use Rattle.cidr_blocks.specs.Bits
