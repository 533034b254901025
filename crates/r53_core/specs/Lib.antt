pub mod Kinds
pub mod Stores
pub use Rattle.config_opening.specs.Holding
pub use Rattle.config_opening.specs.Kept
pub use Rattle.config_opening.specs.States as Journaled
pub use Rattle.config_opening.specs.LawsOfStoreModel as Laws
pub use Rattle.config_opening.specs.Leaving
pub use Rattle.config_opening.specs.OpeningOfStoreModel as Opening
pub use Rattle.config_opening.specs.Laws as LawsOfCommandBounds
pub use Rattle.query_engine.specs.Asking
