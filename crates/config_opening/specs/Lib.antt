pub mod Opening
pub use Rattle.config_journal.specs.Compacting
pub use Rattle.config_journal.specs.Holding
pub use Rattle.config_journal.specs.Installing
pub use Rattle.config_journal.specs.Journals
pub use Rattle.config_journal.specs.Kept
pub use Rattle.config_journal.specs.States
pub use Rattle.config_journal.specs.Steps
pub use Rattle.config_journal.specs.Leaving
pub use Rattle.config_journal.specs.Opening as OpeningOfStoreModel
pub use Rattle.config_journal.specs.LawsOfCommandBounds as Laws
pub use Rattle.config_journal.specs.Laws as LawsOfStoreModel
