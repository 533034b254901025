pub mod Octets
pub use Rattle.cidr_commands.specs.declared.command.CidrCommand as CidrCommandRecord
pub use Rattle.cidr_commands.specs.Laws
pub use Rattle.cidr_commands.specs.CidrChangeRecord
pub use Rattle.cidr_commands.specs.Idents
pub use Rattle.cidr_commands.specs.Places
pub use Rattle.octet_reading.specs.Readers
pub use Rattle.octet_reading.specs.Reading
pub use Rattle.octet_reading.specs.Rules
pub use Rattle.cidr_commands.specs.Bits
pub use Rattle.cidr_commands.specs.Prefixes
pub use Rattle.octet_reading.specs.NamesOfDnsName as Names
pub use Rattle.cidr_commands.specs.IpAddressRecord
pub use Rattle.cidr_commands.specs.Texts
pub use Rattle.cidr_commands.specs.Commands
pub use Rattle.cidr_commands.specs.Kept
pub use Rattle.cidr_commands.specs.Stored
pub use Rattle.cidr_commands.specs.CidrFaultRecord
pub use Rattle.cidr_commands.specs.CollectionRecord
pub use Rattle.cidr_commands.specs.CidrLocationRecord
