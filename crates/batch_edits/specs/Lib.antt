pub mod Places
pub mod Replacing
pub mod Edits
pub mod Laws
pub use Rattle.change_batch.specs.Batches
pub use Rattle.change_batch.specs.Rules
pub use Rattle.config_model.specs.Laws as Bounds
pub use Rattle.batch_names.specs.Changes
pub use Rattle.batch_names.specs.AllZones as Zones
pub use Rattle.config_model.specs.Slotted
pub use Rattle.batch_names.specs.Edits as Tables
pub use Rattle.batch_names.specs.Looking
pub use Rattle.change_batch.specs.BatchRecord
pub use Rattle.change_batch.specs.ChangeRecord
pub use Rattle.change_batch.specs.BatchRefusalRecord
