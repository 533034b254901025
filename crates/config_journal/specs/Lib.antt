pub mod Compacting
pub mod Holding
pub mod Journals
pub mod States
pub mod Steps
pub use Rattle.r53_state.specs.States as Kept
pub use Rattle.r53_state.specs.Steps as Installing
pub use Rattle.store_model.specs.Opening
pub use Rattle.zone_journal.specs.Pairs
pub use Rattle.zone_journal.specs.Standing
pub use Rattle.store_model.specs.Laws
pub use Rattle.r53_state.specs.SnapshotFaultRecord
pub use Rattle.store_model.specs.Commands
pub use Rattle.store_model.specs.Gives
pub use Rattle.store_model.specs.Reading
pub use Rattle.store_model.specs.Applying
pub use Rattle.store_model.specs.Configs
pub use Rattle.store_model.specs.RefusalRecord
pub use Rattle.store_model.specs.CommandRecord
pub use Rattle.store_model.specs.Leaving
pub use Rattle.store_model.specs.LawsOfCommandBounds
