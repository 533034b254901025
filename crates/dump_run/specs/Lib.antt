pub mod Dumping
pub use Rattle.store_model.specs.Opening
