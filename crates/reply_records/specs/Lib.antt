pub mod Chosen
pub mod Delegating
pub mod Seeing
pub mod Writing
pub use Rattle.policy_select.specs.Records
pub use Rattle.policy_select.specs.Sections
pub use Rattle.dns_wire.specs.Draft
pub use Rattle.policy_select.specs.Groups
pub use Rattle.policy_select.specs.Selecting
pub use Rattle.policy_select.specs.declared.selection.Selected as SelectedRecord
pub use Rattle.policy_select.specs.Holding
