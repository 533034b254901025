pub mod Fields
pub mod Laws
pub mod Layout
pub mod Types
pub use Rattle.dns_name.specs.Labels
pub use Rattle.dns_name.specs.Names
pub use Rattle.dns_name.specs.Stored
pub use Rattle.dns_name.specs.Wire
pub use Rattle.dns_name.specs.Text
pub use Rattle.dns_name.specs.Written
pub use Rattle.dns_name.specs.declared.fault.NameFault as NameFaultRecord
pub use Rattle.dns_name.specs.Order
pub use Rattle.dns_name.specs.OrderLaws
pub use Rattle.dns_name.specs.Whole
pub use Rattle.dns_name.specs.Wildcard
pub use Rattle.dns_name.specs.Suffix
pub use Rattle.dns_name.specs.Laws as LawsOfDnsName
