pub mod Asked
pub mod Commands
pub mod Compactions
pub mod Network
pub mod Short
