pub mod Dump
pub mod Errors
pub mod Json
pub mod Lists
pub mod Outcomes
pub mod Paging
pub mod Sets
pub use Rattle.config_model.specs.declared.refusals.Refusal as RefusalRecord
pub use Rattle.config_model.specs.Applying
pub use Rattle.config_model.specs.Configs
pub use Rattle.config_model.specs.Laws
pub use Rattle.config_model.specs.declared.refusals.Made as MadeRecord
pub use Rattle.config_model.specs.CommandRecord
