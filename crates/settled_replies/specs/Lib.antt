pub mod Settled
pub mod Alone
pub mod Findings
pub mod Settling
pub use Rattle.dns_name.specs.Names
pub use Rattle.query_engine.specs.Reply
