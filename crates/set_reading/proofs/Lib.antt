pub mod Answering
pub mod Policies
pub mod ValueLists
pub mod Vectors
pub mod Whole
pub use Rattle.set_fields.proofs.Digits
pub use Rattle.set_fields.proofs.Counted
pub use Rattle.set_fields.proofs.Base
pub use Rattle.set_fields.proofs.Composed
pub use Rattle.set_fields.proofs.OfKind
pub use Rattle.set_fields.proofs.Optional
pub use Rattle.set_fields.proofs.Rules
pub use Rattle.set_fields.proofs.Whole as WholeOfOctetReading
pub use Rattle.set_fields.proofs.Within
