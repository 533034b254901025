pub mod Passing
pub use Rattle.list_writing.specs.Pieces as PiecesOfListWriting
pub use Rattle.list_writing.specs.Laws
