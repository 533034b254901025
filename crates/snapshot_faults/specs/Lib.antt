pub mod Laws
pub mod Snapshots
