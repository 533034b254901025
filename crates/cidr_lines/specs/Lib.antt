pub mod Collections
pub use Rattle.prefix_text.specs.Prefixes
