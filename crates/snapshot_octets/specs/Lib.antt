pub mod Laws
pub mod Octets
pub mod Reading
pub use Rattle.command_codec.specs.Reading as ReadingOfCommandCodec
pub use Rattle.config_model.specs.Configs
pub use Rattle.config_model.specs.LawsOfSetReading
pub use Rattle.config_model.specs.Hosted
pub use Rattle.config_model.specs.RecordSetRecord
