pub mod Sizes
pub use Rattle.alias_links.specs.After
pub use Rattle.config_zones.specs.Batches
pub use Rattle.config_zones.specs.Configured
