pub mod Parts
pub use Rattle.config_model.specs.NewZones
pub use Rattle.config_model.specs.Sound
