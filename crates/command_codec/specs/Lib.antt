pub mod Commands
pub mod Gives
pub mod Laws
pub mod Reading
pub use Rattle.command_octets.specs.Octets
pub use Rattle.command_octets.specs.declared.commands.Command as CommandRecord
pub use Rattle.block_reading.specs.Blocks
pub use Rattle.block_reading.specs.Reading as ReadingOfBlockReading
pub use Rattle.check_reading.specs.Fields
pub use Rattle.check_reading.specs.Reading as ReadingOfCheckReading
