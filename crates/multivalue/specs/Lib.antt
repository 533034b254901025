pub mod Answer
pub mod Choice
pub mod Laws
pub use Rattle.considered_sets.specs.Considered
