pub mod Laws
pub use Rattle.reply_model.specs.Paging
pub use Rattle.reply_model.specs.Json
pub use Rattle.reply_model.specs.Outcomes
pub use Rattle.reply_model.specs.declared.outcomes.Outcome as OutcomeRecord
