pub mod AddressOfText
pub mod Laws
pub mod Spelling
pub mod Wrote
