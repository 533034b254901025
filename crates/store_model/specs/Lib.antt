pub mod Kept
pub mod Laws
pub mod Leaving
pub mod Opening
pub use Rattle.command_bounds.specs.Laws as LawsOfCommandBounds
pub use Rattle.command_codec.specs.Commands
pub use Rattle.command_codec.specs.Gives
pub use Rattle.command_codec.specs.Reading
pub use Rattle.config_model.specs.Applying
pub use Rattle.config_model.specs.Configs
pub use Rattle.config_model.specs.declared.refusals.Refusal as RefusalRecord
pub use Rattle.command_octets.specs.declared.commands.Command as CommandRecord
