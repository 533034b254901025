pub mod Named
pub use Rattle.config_zones.specs.Configured
