pub mod Bare
pub mod Digits
pub mod Escapes
