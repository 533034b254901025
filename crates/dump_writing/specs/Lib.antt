pub mod Rooms
pub use Rattle.reply_words.specs.Dump as DumpOfReplyModel
pub use Rattle.reply_words.specs.Json
