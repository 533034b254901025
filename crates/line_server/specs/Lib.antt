pub mod Asking
pub mod Leaving
pub mod Replying
pub mod Standing
-- definitions of the store and what it stands on, for crates that stand on this one alone
pub use Rattle.serve_turns.specs.Holding
pub use Rattle.serve_turns.specs.Journaled
pub use Rattle.serve_turns.specs.Stores
pub use Rattle.serve_turns.specs.Laws
pub use Rattle.serve_turns.specs.Opening
