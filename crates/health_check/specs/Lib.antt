pub mod Marks
pub mod Places
pub mod Stored
pub use Rattle.check_model.specs.Checks
pub use Rattle.check_model.specs.Commands
pub use Rattle.check_model.specs.Kept
pub use Rattle.check_model.specs.Told
