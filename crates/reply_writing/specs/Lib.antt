pub use Rattle.reply_words.specs.Json
pub use Rattle.reply_words.specs.Lists
pub use Rattle.reply_words.specs.Outcomes as OutcomesOfReplyModel
pub use Rattle.reply_words.specs.OutcomeRecord
pub use Rattle.reply_words.specs.TurnsRecord
pub use Rattle.reply_words.specs.Applying
pub use Rattle.reply_words.specs.Configs
pub use Rattle.reply_words.specs.Laws
pub use Rattle.reply_words.specs.MadeRecord
pub use Rattle.reply_words.specs.RefusalRecord
pub use Rattle.reply_words.specs.CommandRecord
