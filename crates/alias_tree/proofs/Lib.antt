pub mod LinkByLink
pub mod Lists
pub mod OnePlace
pub mod Walking
