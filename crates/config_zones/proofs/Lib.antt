mod Counts
pub mod Found
pub mod Rest
pub mod Walked
pub use Rattle.config_edits.proofs.Ended
pub use Rattle.config_edits.proofs.MembersOfConfigModel as Members
pub use Rattle.config_edits.proofs.NewSets
pub use Rattle.config_edits.proofs.Told
pub use Rattle.config_edits.proofs.Members as MembersOfZoneList
pub use Rattle.config_edits.proofs.Listing
pub use Rattle.config_edits.proofs.Equation
pub use Rattle.config_edits.proofs.Holding
pub use Rattle.config_edits.proofs.Naming
pub use Rattle.config_edits.proofs.Left
pub use Rattle.config_edits.proofs.Zoning
