pub mod Applying
pub mod Batches
pub mod Configs
pub mod Laws
pub mod NewZones
pub mod Others
pub mod Sound
pub mod Telling
pub mod Told
pub use Rattle.command_octets.specs.Batches as BatchModel
pub use Rattle.command_octets.specs.Rules
pub use Rattle.check_model.specs.Checks
pub use Rattle.check_model.specs.Commands
pub use Rattle.command_octets.specs.CommandsOfCidrCommands as Collections
pub use Rattle.command_octets.specs.Stored
pub use Rattle.command_octets.specs.Hosted
pub use Rattle.command_octets.specs.Walks
pub use Rattle.command_octets.specs.Zones
pub use Rattle.command_octets.specs.Limits
pub use Rattle.command_octets.specs.ActionRecord
pub use Rattle.command_octets.specs.BatchRecord
pub use Rattle.command_octets.specs.ChangeRecord
pub use Rattle.command_octets.specs.OctetsOfBlockOctets as Octets
pub use Rattle.set_reading.specs.Octets as OctetsOfSetOctets
pub use Rattle.set_reading.specs.Reasons
pub use Rattle.set_reading.specs.SetsOfRecordSet as Sets
pub use Rattle.set_reading.specs.BodyRecord
pub use Rattle.set_reading.specs.RecordSetRecord
pub use Rattle.command_octets.specs.LawsOfCidrChanges
pub use Rattle.command_octets.specs.Places
pub use Rattle.command_octets.specs.CidrCommandRecord
pub use Rattle.command_octets.specs.Prefixes
pub use Rattle.command_octets.specs.CidrChangeRecord
pub use Rattle.command_octets.specs.OctetsOfCheckOctets
pub use Rattle.set_reading.specs.Laws as LawsOfSetReading
pub use Rattle.set_reading.specs.Sets as SetsOfSetReading
pub use Rattle.set_reading.specs.SetKeyRecord
pub use Rattle.command_octets.specs.Idents
pub use Rattle.command_octets.specs.CidrLocationRecord
pub use Rattle.command_octets.specs.CollectionRecord
pub use Rattle.set_reading.specs.NamesOfOctetReading as Names
pub use Rattle.set_reading.specs.Readers
pub use Rattle.set_reading.specs.ReadingOfOctetReading as Reading
pub use Rattle.set_reading.specs.Rules as RulesOfOctetReading
pub use Rattle.set_reading.specs.RTypeRecord
pub use Rattle.command_octets.specs.Keys
pub use Rattle.set_reading.specs.ReasonRecord
pub use Rattle.set_reading.specs.Datum
pub use Rattle.set_reading.specs.Written
pub use Rattle.set_reading.specs.Types
pub use Rattle.command_octets.specs.Placing
pub use Rattle.command_octets.specs.Slotted
pub use Rattle.set_reading.specs.Layout
pub use Rattle.command_octets.specs.declared.commands.Command as CommandRecord
pub use Rattle.command_octets.specs.Differences
pub use Rattle.command_octets.specs.Octets as OctetsOfCommandOctets
pub use Rattle.command_octets.specs.BatchRefusalRecord
