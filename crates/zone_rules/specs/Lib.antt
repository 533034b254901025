pub mod Breaks
pub mod Groups
pub mod Lent
pub mod Marks
pub use Rattle.batch_model.specs.Rules
pub use Rattle.batch_model.specs.Zones
pub use Rattle.batch_model.specs.declared.refusals.BatchRefusal as BatchRefusalRecord
