pub mod ChangeLines
pub mod Sets
pub mod Values
pub use Rattle.batch_model.specs.Gives
pub use Rattle.batch_model.specs.ValueOfText
