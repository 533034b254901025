pub mod Choice
pub mod Laws
pub mod Line
pub use Rattle.considered_sets.specs.Considered
