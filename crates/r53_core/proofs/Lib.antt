mod Accepted
pub mod Commanding
mod Compacting
pub mod Refused
pub mod Reporting
pub mod Staying
mod Told
mod Settling
