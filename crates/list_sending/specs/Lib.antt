pub mod Pages
pub use Rattle.session_model.specs.Asking
pub use Rattle.session_model.specs.Replies
pub use Rattle.session_model.specs.Serving
pub use Rattle.session_model.specs.Sessions
pub use Rattle.session_model.specs.Steps
pub use Rattle.session_model.specs.Engine
pub use Rattle.config_zones.specs.Edited as Laws
pub use Rattle.config_zones.specs.Tables
pub use Rattle.reply_sending.specs.Applying
pub use Rattle.reply_sending.specs.MadeRecord
pub use Rattle.session_model.specs.ReportedRecord
pub use Rattle.reply_sending.specs.RefusalRecord
