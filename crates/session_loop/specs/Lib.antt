pub mod Ending
pub mod Turning
-- definitions of a server and of its files, for crates that stand on this one alone
pub use Rattle.session_server.specs.Files
pub use Rattle.session_server.specs.Holding
pub use Rattle.session_server.specs.Journaled
pub use Rattle.session_server.specs.Standing
pub use Rattle.session_server.specs.Stores
