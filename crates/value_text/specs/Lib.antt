pub mod Fields
pub mod Laws
pub mod Numbers
pub mod Strings
