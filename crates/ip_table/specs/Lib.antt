pub mod Bits
pub mod Laws
pub mod Location
pub mod Prefixes
pub mod Rows
pub mod Tables
pub mod Trees
pub mod Visits
pub use Rattle.address_text.specs.AddressOfText
pub use Rattle.address_text.specs.Laws as LawsOfAddressText
pub use Rattle.address_text.specs.Spelling
pub use Rattle.address_text.specs.declared.address.IpAddress as IpAddressRecord
