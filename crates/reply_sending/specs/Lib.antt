pub use Rattle.reply_writing.specs.OutcomesOfReplyModel as Outcomes
pub use Rattle.reply_writing.specs.OutcomeRecord
pub use Rattle.reply_writing.specs.TurnsRecord
pub use Rattle.reply_writing.specs.Applying
pub use Rattle.reply_writing.specs.Configs
pub use Rattle.reply_writing.specs.Laws
pub use Rattle.reply_writing.specs.MadeRecord
pub use Rattle.reply_writing.specs.RefusalRecord
pub use Rattle.reply_writing.specs.CommandRecord
