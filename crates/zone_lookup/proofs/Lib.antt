pub mod Beside
pub mod Cutting
pub mod Finding
pub mod Nearest
pub mod Serving
pub mod Sourcing
pub use Rattle.policy_select.proofs.GroupSizes
