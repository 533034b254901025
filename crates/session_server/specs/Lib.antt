pub mod Buffers
pub mod Files
pub mod Keeping
pub mod Laws
pub mod Taking
-- definitions of a server and of what lines leave, for crates that stand on this one alone
pub use Rattle.line_server.specs.Holding
pub use Rattle.line_server.specs.Journaled
pub use Rattle.line_server.specs.Leaving
pub use Rattle.line_server.specs.Standing
pub use Rattle.line_server.specs.Stores
pub use Rattle.line_server.specs.declared.answers.Taken as Taken
pub use Rattle.list_sending.specs.Replies
pub use Rattle.list_sending.specs.Serving
pub use Rattle.list_sending.specs.Sessions
pub use Rattle.list_sending.specs.Steps
pub use Rattle.line_server.specs.Laws as LawsOfStoreModel
pub use Rattle.line_server.specs.Opening
pub use Rattle.line_bounds.specs.Configs
