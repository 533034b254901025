pub mod Gluing
pub mod Joined
pub mod Named
pub mod Seeing
pub mod Shown
pub mod Written
pub use Rattle.policy_select.proofs.Targets
