pub mod Cuts
pub mod Served
pub mod Standing
pub use Rattle.policy_select.specs.Names
pub use Rattle.policy_select.specs.Sections
pub use Rattle.policy_select.specs.ZonesOfAnswerModel as Zones
pub use Rattle.policy_select.specs.Groups
pub use Rattle.policy_select.specs.Seen
pub use Rattle.policy_select.specs.Looking
pub use Rattle.policy_select.specs.SetRefRecord
pub use Rattle.policy_select.specs.Zones as ZonesOfZoneList
pub use Rattle.policy_select.specs.GroupRecord
pub use Rattle.policy_select.specs.Clients
pub use Rattle.policy_select.specs.Descent
pub use Rattle.policy_select.specs.Laws
pub use Rattle.policy_select.specs.Location
pub use Rattle.policy_select.specs.Records
pub use Rattle.policy_select.specs.Reply
pub use Rattle.policy_select.specs.UsedRecord
pub use Rattle.policy_select.specs.Bodies
pub use Rattle.policy_select.specs.Edits
pub use Rattle.policy_select.specs.Tables
pub use Rattle.policy_select.specs.ZoneEditRecord
pub use Rattle.policy_select.specs.DeltaRecord
