pub mod Hosting
pub mod Values
pub use Rattle.zone_table.proofs.Holding
pub use Rattle.zone_table.proofs.Listing
pub use Rattle.zone_table.proofs.Members
pub use Rattle.config_model.proofs.Members as MembersOfConfigModel
pub use Rattle.config_model.proofs.Ended
pub use Rattle.config_model.proofs.NewSets
pub use Rattle.config_model.proofs.Told
pub use Rattle.zone_table.proofs.Equation
pub use Rattle.zone_table.proofs.Naming
pub use Rattle.config_model.proofs.Left
pub use Rattle.config_model.proofs.Zoning
