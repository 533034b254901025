pub mod Store
pub use Rattle.r53_disk.specs.Memory
pub use Rattle.zone_journal.specs.Pairs
pub use Rattle.zone_journal.specs.Standing
pub use Rattle.zone_journal.specs.Appending
pub use Rattle.zone_journal.specs.Compacting
pub use Rattle.zone_journal.specs.Making
