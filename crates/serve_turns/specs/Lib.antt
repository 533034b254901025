pub mod Settled
pub mod Turning
-- definitions of the store and what it stands on, for crates that stand on this one alone
pub use Rattle.r53_core.specs.Holding
pub use Rattle.r53_core.specs.Journaled
pub use Rattle.r53_core.specs.Kept
pub use Rattle.r53_core.specs.Stores
pub use Rattle.session_model.specs.Replies
pub use Rattle.session_model.specs.Serving as ServingOfSessionModel
pub use Rattle.session_model.specs.Steps
pub use Rattle.session_model.specs.Compacting
pub use Rattle.session_model.specs.Engine
pub use Rattle.session_model.specs.CompactedRecord
pub use Rattle.session_model.specs.ReportedRecord
pub use Rattle.r53_core.specs.Laws
pub use Rattle.r53_core.specs.Leaving
pub use Rattle.r53_core.specs.Opening
pub use Rattle.session_model.specs.LineRecord
pub use Rattle.r53_core.specs.LawsOfCommandBounds
