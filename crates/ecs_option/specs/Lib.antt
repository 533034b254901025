pub mod Grammar
pub mod Laws
pub mod Writing
pub use Rattle.octets.specs.Numbers
