pub mod Laws
pub use Rattle.config_model.specs.Laws as LawsOfConfigModel
pub use Rattle.config_model.specs.Configs
pub use Rattle.config_model.specs.CommandRecord
