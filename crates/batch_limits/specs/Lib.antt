pub mod Tests
pub use Rattle.batch_model.specs.Batches
pub use Rattle.batch_model.specs.Limits
pub use Rattle.batch_model.specs.Changing
pub use Rattle.batch_model.specs.Rules
pub use Rattle.batch_model.specs.Telling
pub use Rattle.batch_model.specs.declared.batches.Action as ActionRecord
pub use Rattle.batch_model.specs.declared.batches.Change as ChangeRecord
pub use Rattle.batch_model.specs.declared.refusals.BatchRefusal as BatchRefusalRecord
pub use Rattle.batch_model.specs.declared.batches.Batch as BatchRecord
