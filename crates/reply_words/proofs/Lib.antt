pub mod Chains
pub mod Lengths
