pub mod Asking
pub mod Control
pub mod LineLength
pub mod Packets
pub mod Parting
pub mod Sending
