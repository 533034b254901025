pub mod Apart
pub mod New
pub use Rattle.zone_table.specs.Edits
