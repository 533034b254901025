pub mod Firsts
pub mod Laws
pub mod Marks
pub mod Starts
pub mod Targets
pub use Rattle.set_search.specs.Walks
pub use Rattle.set_search.specs.Zones
pub use Rattle.set_search.specs.Bounds
pub use Rattle.set_search.specs.Found
pub use Rattle.set_search.specs.declared.bounds.Bound as BoundRecord
