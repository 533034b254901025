pub mod Linked
pub mod Lists
pub mod Walk
