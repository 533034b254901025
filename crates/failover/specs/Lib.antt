pub mod Choice
pub use Rattle.considered_sets.specs.Considered
pub use Rattle.considered_sets.specs.Healthy
