pub mod Cuts
pub mod GroupSlots
pub mod Holding
pub mod Looked
pub mod Naming
pub mod Stars
pub mod Totals
