pub mod Asking
pub mod Laws
pub mod Replies
pub mod Serving
pub mod Sessions
pub mod Steps
pub use Rattle.engine_model.specs.Engine
pub use Rattle.engine_model.specs.declared.answers.Reported as ReportedRecord
pub use Rattle.reply_model.specs.declared.outcomes.Turns as TurnsRecord
pub use Rattle.engine_model.specs.Compacting
pub use Rattle.engine_model.specs.declared.answers.Compacted as CompactedRecord
pub use Rattle.batch_json.specs.declared.asking.Line as LineRecord
