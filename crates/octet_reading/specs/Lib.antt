pub mod Laws
pub mod Layouts
pub mod Names
pub mod Readers
pub mod Reading
pub mod Rules
pub use Rattle.rdata_layout.specs.Types
pub use Rattle.rdata_layout.specs.declared.types.RType as RTypeRecord
pub use Rattle.rdata_layout.specs.Names as NamesOfDnsName
pub use Rattle.rdata_layout.specs.Layout
pub use Rattle.rdata_layout.specs.Labels
pub use Rattle.rdata_layout.specs.Stored
pub use Rattle.rdata_layout.specs.Wire
pub use Rattle.rdata_layout.specs.LawsOfDnsName
pub use Rattle.rdata_layout.specs.Order
pub use Rattle.rdata_layout.specs.OrderLaws
pub use Rattle.rdata_layout.specs.Wildcard
