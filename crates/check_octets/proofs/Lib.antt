pub use Rattle.octet_reading.proofs.Base
pub use Rattle.octet_reading.proofs.Composed
pub use Rattle.octet_reading.proofs.Digits
pub use Rattle.octet_reading.proofs.OfKind
pub use Rattle.octet_reading.proofs.Optional
pub use Rattle.octet_reading.proofs.Rules
pub use Rattle.octet_reading.proofs.Within
