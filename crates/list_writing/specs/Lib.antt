pub mod Laws
pub mod Pieces
pub use Rattle.set_scratch.specs.Bodies
pub use Rattle.set_scratch.specs.Holding
