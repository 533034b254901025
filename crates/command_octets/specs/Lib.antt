pub mod Octets
pub use Rattle.batch_model.specs.Batches
pub use Rattle.batch_model.specs.Changing
pub use Rattle.batch_model.specs.Laws
pub use Rattle.batch_model.specs.Rules
pub use Rattle.batch_model.specs.declared.batches.Action as ActionRecord
pub use Rattle.batch_model.specs.declared.batches.Batch as BatchRecord
pub use Rattle.batch_model.specs.declared.batches.Change as ChangeRecord
pub use Rattle.batch_model.specs.declared.refusals.BatchRefusal as BatchRefusalRecord
pub use Rattle.batch_model.specs.Hosted
pub use Rattle.batch_model.specs.Keys
pub use Rattle.batch_model.specs.Placing
pub use Rattle.batch_model.specs.Walks
pub use Rattle.batch_model.specs.Zones
pub use Rattle.block_octets.specs.Commands as CommandsOfCidrCommands
pub use Rattle.block_octets.specs.Kept
pub use Rattle.block_octets.specs.Stored
pub use Rattle.block_octets.specs.CidrCommandRecord
pub use Rattle.block_octets.specs.CidrFaultRecord
pub use Rattle.block_octets.specs.Idents
pub use Rattle.block_octets.specs.Places
pub use Rattle.block_octets.specs.CollectionRecord
pub use Rattle.batch_model.specs.Limits
pub use Rattle.block_octets.specs.Octets as OctetsOfBlockOctets
pub use Rattle.block_octets.specs.Laws as LawsOfCidrChanges
pub use Rattle.block_octets.specs.Prefixes
pub use Rattle.block_octets.specs.CidrChangeRecord
pub use Rattle.check_octets.specs.Octets as OctetsOfCheckOctets
pub use Rattle.block_octets.specs.CidrLocationRecord
pub use Rattle.batch_model.specs.Slotted
pub use Rattle.batch_model.specs.Differences
