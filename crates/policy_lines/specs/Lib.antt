pub mod Places
pub mod Policies
pub use Rattle.line_words.specs.Words
