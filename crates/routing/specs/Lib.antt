pub mod Padded
pub mod Texts
