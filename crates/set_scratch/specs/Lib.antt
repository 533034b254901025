pub mod Bodies
pub mod Holding
pub mod Kept
pub mod Spelling
pub mod Telling
pub use Rattle.set_parts.specs.Heads
pub use Rattle.set_parts.specs.Laws
pub use Rattle.set_parts.specs.Gives
pub use Rattle.set_parts.specs.LawsOfSetReading
pub use Rattle.set_parts.specs.Reading
pub use Rattle.set_parts.specs.Sets
pub use Rattle.set_parts.specs.ReadFaultRecord
pub use Rattle.set_parts.specs.Octets
pub use Rattle.set_parts.specs.NamesOfOctetReading as Names
pub use Rattle.set_parts.specs.Rules
pub use Rattle.octet_region.specs.Cells
pub use Rattle.octet_region.specs.Stored
