pub mod Addresses
pub mod Colons
pub mod Dotted
pub mod Grouped
pub mod Placing
pub mod Sides
pub mod Split
pub mod Vectors
