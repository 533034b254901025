pub mod Queries
pub use Rattle.prefix_text.specs.Prefixes
