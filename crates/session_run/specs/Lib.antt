pub mod Laws
pub mod Running
-- definitions of how lines end, for crates that stand on this one alone
pub use Rattle.session_loop.specs.Ending
pub use Rattle.session_loop.specs.Files
pub use Rattle.session_loop.specs.declared.ended.Ended as Ended
pub use Rattle.session_model.specs.Serving
pub use Rattle.session_model.specs.Steps
