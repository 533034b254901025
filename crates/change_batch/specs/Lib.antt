pub mod Lent
pub use Rattle.batch_limits.specs.Batches
pub use Rattle.batch_limits.specs.Changing
pub use Rattle.batch_limits.specs.Limits
pub use Rattle.batch_limits.specs.Rules
pub use Rattle.batch_limits.specs.Telling
pub use Rattle.set_search.specs.Zones
pub use Rattle.set_search.specs.Found
pub use Rattle.batch_limits.specs.ActionRecord
pub use Rattle.batch_limits.specs.ChangeRecord
pub use Rattle.batch_limits.specs.BatchRefusalRecord
pub use Rattle.batch_limits.specs.BatchRecord
pub use Rattle.zone_rules.specs.Lent as LentSets
