pub mod Commands
pub mod Kept
pub mod Stored
pub use Rattle.cidr_changes.specs.Idents
pub use Rattle.cidr_changes.specs.Listing
pub use Rattle.cidr_changes.specs.Places
pub use Rattle.cidr_changes.specs.Changed
pub use Rattle.cidr_changes.specs.Changes
pub use Rattle.cidr_changes.specs.Gathered
pub use Rattle.cidr_changes.specs.Laws
pub use Rattle.cidr_changes.specs.Refusals
pub use Rattle.cidr_changes.specs.Location
pub use Rattle.cidr_changes.specs.Texts
pub use Rattle.cidr_changes.specs.CollectionRecord
pub use Rattle.cidr_changes.specs.LawsOfIpTable
pub use Rattle.cidr_changes.specs.Prefixes
pub use Rattle.cidr_changes.specs.RowsOfIpTable as Rows
pub use Rattle.cidr_changes.specs.IpAddressRecord
pub use Rattle.cidr_changes.specs.declared.changes.CidrChange as CidrChangeRecord
pub use Rattle.cidr_changes.specs.Bits
pub use Rattle.cidr_changes.specs.declared.faults.CidrFault as CidrFaultRecord
pub use Rattle.cidr_changes.specs.CidrLocationRecord
