pub mod InTurn
pub mod Marked
pub mod Places
pub mod Refusing
