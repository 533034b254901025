pub mod Going
pub mod Health
pub mod Packets
pub mod Reports
pub mod Settled
pub mod Turns
